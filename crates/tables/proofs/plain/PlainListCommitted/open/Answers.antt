use Rattle.std.proofs.Common.{◌≡◌, ℕ, ◌^◌, ◌<◌, eqb, ◌++◌, length, sym, ap, ◌∙◌, arith, true-eqb}
use Rattle.std.proofs.lemmas.Bool.{eqb-false}
use lib.ListN.{get_or-eq_default}
use Rattle.fields.specs.Fields.{elements}
use Rattle.tables.specs.Limits.{most_variables}
use Rattle.tables.specs.Formulas.{extension}
use Rattle.tables.specs.Tables.{variables_upto, variables_in, variables_upto_few, entry}
use Rattle.tables.proofs.Extension.{ext_none}
use Rattle.tables.proofs.Made.{passed}
use Rattle.tables.proofs.Entries.{opens, opens_part}
use Rattle.tables.proofs.plain.PlainListCommitted.open.Goals as goal

pub returns-then-is_empty : goal.returns-then-is_empty
unfolding variables_upto
returns-then-is_empty g c =
    let f = g.F.Field.field in
    let es = c.args.self.now.items.now in
    let n = variables_in (length es) in
    let p = c.args.head.now ++ c.args.tail.now in
    let empty : length es ≡ 0 = true-eqb (length es) 0 c.if-is_empty.ensures in
    let none : 0 ≡ n = ap variables_in (sym empty) in
    opens f n (variables_upto_few most_variables (length es)) (entry f es) p _ (passed _ c.in_ok-check_fits.ensures ∙ ap (eqb (length p)) c.variables_of-n.ensures.value)
    (c.zero_element.ensures
    ∙ sym (get_or-eq_default es f.zero (omega arith))
    ∙ sym (ext_none f (entry f es) p)
    ∙ ap (λ (m : ℕ). extension f (elements f) m (entry f es) p) none)

pub returns : goal.returns
returns g c =
    let es = c.args.self.now.items.now in
    let p = c.args.head.now ++ c.args.tail.now in
    let empty = eqb-false (length es) 0 (sym c.if-is_empty.ensures) in
    let some : 0 < length es = omega arith in
    let enough = c.variables_of-n.ensures.enough some in
    opens_part g.F.Field.field es p _ _ c.extension_joined.ensures.value (omega (arith, ap (λ (k : ℕ). 2 ^ k) c.variables_of-n.ensures.value)) (omega arith)
    (passed _ c.in_ok-check_fits.ensures ∙ ap (eqb (length p)) c.variables_of-n.ensures.value)
