use Rattle.std.proofs.Common.{◌++◌, drop, ap, ◌∙◌, length-take-le, rules}
use Rattle.tables.specs.Tables.{tabulate}
use Rattle.tables.proofs.Placed.{given_alike}
use Rattle.tables.proofs.maker.clear.Goals as goal

pub returns : goal.returns
returns g c =
    let zero = g.F.Field.field.zero in
    let list = c.args.list.now in
    let run = c.fill_with.ensures.ran in
    let alike = given_alike zero _ _ run.0 c.fill_with.new.self run.1 (λ p x q k. search rules) in
    let count = c.fill_with.ensures.len ∙ length-take-le c.args.count list c.requires in
    ap (λ z. z ++ drop c.args.count list) (alike ∙ ap (λ n. tabulate n (λ _. zero)) count)
