use Rattle.std.proofs.Common.{◌≡◌, ◌^◌, length, sym, refl, rules}
use Rattle.std.proofs.lemmas.List.FromFn.{fill_by_all}
use Rattle.tables.specs.Tables.{variables_in, entry}
use Rattle.tables.proofs.plain.PlainList.new.Goals as goal

pub returns-then-items-variables_of-clause-entries : goal.returns-then-items-variables_of-clause-entries
returns-then-items-variables_of-clause-entries g c = λ _.
    let f = g.F.Field.field in
    let es = c.args.items.now in
    let full : length es ≡ 2 ^ variables_in (length es) = search rules in
    sym (fill_by_all (entry f es) es (2 ^ variables_in (length es)) f.zero full (λ k b. refl))
