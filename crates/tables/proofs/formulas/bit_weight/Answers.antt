use Rattle.std.proofs.Common.{◌≡◌, ◌%◌, arith}
use Rattle.tables.proofs.Weights.{bit_one, bit_zero}
use Rattle.tables.proofs.formulas.bit_weight.Goals as goal

pub returns-then-number-eq1 : goal.returns-then-number-eq1
returns-then-number-eq1 g c = bit_one g.F.Field.field (c.args.number % 2) c.args.x c.if-number-eq1.true

pub returns-else-number-eq1 : goal.returns-else-number-eq1
returns-else-number-eq1 g c =
    let even : c.args.number % 2 ≡ 0 = omega arith in
    let zero = bit_zero g.F.Field.field (c.args.number % 2) c.args.x even in
    cc
