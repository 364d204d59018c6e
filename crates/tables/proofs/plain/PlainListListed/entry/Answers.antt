use Rattle.std.proofs.Common.{◌≡◌, ℕ, ◌^◌, ltb, length, ap, ◌∙◌, rules}
use Rattle.std.proofs.lemmas.Grind.{common_steps}
use Rattle.tables.specs.Limits.{most_variables}
use Rattle.tables.specs.Tables.{variables_in, variables_upto_few, entry}
use Rattle.tables.proofs.Made.{passed}
use Rattle.tables.proofs.Entries.{gives}
use Rattle.tables.proofs.plain.PlainListListed.entry.Goals as goal

pub returns : goal.returns
returns g c =
    let f = g.F.Field.field in
    let es = c.args.self.now.items.now in
    let i = c.args.index in
    let below = passed _ (c.in_ok-check_index.ensures c.variables_of.ensures.bound) ∙ ap (λ (n : ℕ). ltb i (2 ^ n)) c.variables_of.ensures.value in
    let read : c.unwrap_or.result ≡ entry f es i = search (rules, common_steps) in
    gives f (variables_in (length es)) (variables_upto_few most_variables (length es)) (entry f es) i _ below read
