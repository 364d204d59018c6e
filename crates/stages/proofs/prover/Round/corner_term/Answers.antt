use Rattle.std.proofs.Common.{length, ap, ◌∙◌, arith}
use Rattle.stages.proofs.Coordinates.{length-point}
use Rattle.stages.proofs.Room.{point-fits}
use Rattle.stages.proofs.Stages.{rounds-within}
use Rattle.stages.proofs.prover.Round.corner_term.Goals as goal

pub new-low-requires : goal.new-low-requires
new-low-requires g c = (point-fits _ g.met.F.Field.small, omega (arith, c.requires.variables, rounds-within c.args.self.now.prover.now.plan c.args.self.now.stage))

pub new-high-requires : goal.new-high-requires
new-high-requires g c = (point-fits _ g.met.F.Field.small, omega (arith, c.requires.variables, rounds-within c.args.self.now.prover.now.plan c.args.self.now.stage))

pub as_slice-requires : goal.as_slice-requires
as_slice-requires g c = point-fits _ g.met.F.Field.small

pub as_slice-requires-2 : goal.as_slice-requires-2
as_slice-requires-2 g c = point-fits _ g.met.F.Field.small

pub term-requires-clause-ends : goal.term-requires-clause-ends
term-requires-clause-ends g c =
    let r = c.args.self.now in
    ap length (c.as_slice.ensures ∙ c.new-low.ensures) ∙ length-point g.F.Field.field r.r.now _ r.left c.args.index ∙ c.requires.variables
