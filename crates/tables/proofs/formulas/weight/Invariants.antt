use Rattle.std.proofs.Common.{◌≡◌}
use Rattle.tables.proofs.Weights.{weight}
use Rattle.tables.proofs.formulas.weight.Given as goal

-- the weight of the bits and elements that are left, times the product, is the weight of all
abbrev pub invariant-loop-x : goal.invariant-loop-x
invariant-loop-x g l =
    let f = g.F.Field.field in f.mul (weight f l.rest l.x-iterator.iter.rest.now) l.product ≡ weight f l.number l.point
