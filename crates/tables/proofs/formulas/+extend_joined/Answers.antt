use Rattle.std.proofs.Common.{◌++◌, ap, ◌∙◌, arith, rules}
use Rattle.tables.proofs.Halves.{rest, first_and_rest, twice_rest, value_halves}
use Rattle.tables.proofs.formulas.+extend_joined.Goals as goal

pub extend_joined-at_zero-requires : goal.extend_joined-at_zero-requires
extend_joined-at_zero-requires g t c κs within =
    let twice = twice_rest c.args.head.now c.args.tail.now c.x-item.result (omega arith) in
    (search rules, (search rules, omega (arith, c.requires, twice, c.split_at.ensures.front_len)))

pub extend_joined-at_one-requires : goal.extend_joined-at_one-requires
extend_joined-at_one-requires g t c κs within =
    let twice = twice_rest c.args.head.now c.args.tail.now c.x-item.result (omega arith) in
    (search rules, (search rules, omega (arith, c.requires, twice, c.split_at.ensures.back_len)))

pub returns : goal.returns
returns g t c =
    let p = c.args.head.now in
    let q = c.args.tail.now in
    c.line_at.ensures
    ∙ value_halves g.F.Field.field c.args.items.now _ _ (p ++ q) (rest p ++ q) _ _ _ c.split_at.ensures.front c.split_at.ensures.back
    (ap (λ z. z ++ q) (first_and_rest p _ (omega arith) c.x-item.is)) c.requires c.extend_joined-at_zero.ensures c.extend_joined-at_one.ensures
