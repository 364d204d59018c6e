use Rattle.std.proofs.Common.{◌∙◌, arith}
use Rattle.stages.proofs.Coordinates.{coordinate_after}
use Rattle.stages.proofs.prover.coordinate.Goals as goal

pub returns-else-i-r-2 : goal.returns-else-i-r-2
returns-else-i-r-2 g c =
    c.last_bit.ensures ∙ coordinate_after g.F.Field.field c.args.r.now c.args.x c.args.left c.args.index c.args.i (omega arith) c.requires.within
