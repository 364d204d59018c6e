use Rattle.std.proofs.Common.{◌≡◌, ℕ, true, eqb, ◌++◌, length, fold, ap, sym, ◌∙◌, true-eqb}
use Rattle.std.proofs.lemmas.List.Sums.{fold-append}
use Rattle.fields.specs.Fields.{elements, ones}
use Rattle.tables.specs.Formulas.{extension}
use Rattle.tables.proofs.Doubling.{doubled, ext_counting}
use Rattle.tables.proofs.Made.{passed}
use Rattle.tables.proofs.Entries.{opens}
use Rattle.tables.proofs.counting.CountingCommitted.open.Goals as goal

pub returns : goal.returns
returns g c =
    let f = g.F.Field.field in
    let m = c.args.self.now in
    let p = c.args.head.now ++ c.args.tail.now in
    let fits : true ≡ eqb (length p) m.variables = passed _ c.in_ok-check_fits.ensures in
    opens f m.variables m.few (ones f) p _ fits
    (c.continued-2.ensures
    ∙ ap (λ z. fold (doubled f) z c.args.tail.now) (c.continued.ensures ∙ ap (λ z. fold (doubled f) z c.args.head.now) c.zero_element.ensures)
    ∙ sym (fold-append (doubled f) f.zero c.args.head.now c.args.tail.now)
    ∙ ext_counting f p
    ∙ ap (λ (n : ℕ). extension f (elements f) n (ones f) p) (true-eqb (length p) m.variables fits))
