use Rattle.std.proofs.Common.{arith}
use Rattle.stages.proofs.Coordinates.{filled_point}
use Rattle.stages.proofs.prover.Point.new.Goals as goal

pub returns : goal.returns
returns g c =
    filled_point g.F.Field.field c.args.r.now c.args.x c.args.left c.args.index c.loop-i.place-items _ c.loop-i.invariant.0
    (λ j below. c.loop-i.invariant.1 j (omega arith))
