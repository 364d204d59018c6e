use Rattle.std.proofs.Common.{◌≡◌, ◌*◌, ◌≤◌, false, ◌++◌, length}
use Rattle.tables.specs.Limits.{most_variables}
use Rattle.stages.specs.Plan.{stages, stages_from, challenges_before}
use Rattle.stages.specs.Due.{some_below, asks_at}
use Rattle.stages.proofs.prover.end_value_due.Given as goal

-- none of the stages so far asks for an end value at the count
abbrev pub invariant-loop-stage : goal.invariant-loop-stage
invariant-loop-stage l =
    (l.yielded ++ stages_from l.stage-iterator.plan l.stage-iterator.next ≡ stages l.plan)
    × (l.end ≡ challenges_before l.plan (length l.yielded))
    × (l.end ≤ 2 * most_variables * length l.yielded)
    × (some_below (asks_at l.plan l.count) (length l.yielded) ≡ false)
