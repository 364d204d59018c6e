use Rattle.std.proofs.Common.{◌≡◌, ◌+◌, ◌-◌, ◌≤◌, length}
use Rattle.stages.specs.Plan.{stages, challenges_before}
use Rattle.stages.proofs.plan.Plan.place.Given as goal

abbrev pub invariant-loop-round : goal.invariant-loop-round
invariant-loop-round l = l.left + l.round ≡ l.initial.left

-- what is left of the count after the stages before
abbrev pub invariant-walk : goal.invariant-walk
invariant-walk l = (1 ≤ l.number) × (challenges_before l.self (l.number - 1) + l.left ≡ l.count)

abbrev pub decreases-walk : goal.decreases-walk
decreases-walk l = length (stages l.self) + 1 - l.number
