use Rattle.std.proofs.Common.{length, ap, arith}
use Rattle.stages.specs.Plan.{stages_of}
use Rattle.stages.proofs.Stages.{length-shout, length_twist}
use Rattle.stages.proofs.plan.Plan.stage_count.Goals as goal

pub returns-in-Shout : goal.returns-in-Shout
returns-in-Shout c =
    let d = c.args.self.sizes.d in
    omega (arith, ap (λ kind. length (stages_of kind d)) c.in-Shout.is, length-shout d)

pub returns-in-Twist : goal.returns-in-Twist
returns-in-Twist c =
    let d = c.args.self.sizes.d in
    omega (arith, ap (λ kind. length (stages_of kind d)) c.in-Twist.is, length_twist d)
