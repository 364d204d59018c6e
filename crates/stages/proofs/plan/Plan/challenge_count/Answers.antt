use Rattle.std.proofs.Common.{sym}
use Rattle.stages.specs.declared.plan.Kind.TheVariants.{Shout, Twist}
use Rattle.stages.proofs.Stages.{count_closed}
use Rattle.stages.proofs.plan.Plan.challenge_count.Goals as goal

pub returns-in-Shout-clause-sum : goal.returns-in-Shout-clause-sum
returns-in-Shout-clause-sum c =
    simp (c.chunks-d.ensures.value, c.cycle_bits-t.ensures.value, c.address_bits-k.ensures.value, c.chunk_variables-chunk.ensures.value)
    (sym (count_closed c.args.self Shout c.in-Shout.is))

pub returns-in-Twist-clause-sum : goal.returns-in-Twist-clause-sum
returns-in-Twist-clause-sum c =
    simp (c.chunks-d.ensures.value, c.cycle_bits-t.ensures.value, c.address_bits-k.ensures.value, c.chunk_variables-chunk.ensures.value)
    (sym (count_closed c.args.self Twist c.in-Twist.is))
