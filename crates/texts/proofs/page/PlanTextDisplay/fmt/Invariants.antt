use Rattle.std.proofs.Common.{◌≡◌, ◌+◌, drop}
use Rattle.std.specs.Fmt.{HasWritten, IsPlainFormatter}
use Rattle.stages.specs.Plan.{stages, stages_from}
use Rattle.texts.proofs.Pages.{lines_before}
use Rattle.texts.proofs.page.PlanTextDisplay.fmt.Given as goal

-- the lines of the stages before are written, and the stages after them are left
abbrev pub invariant-loop-index : goal.invariant-loop-index
invariant-loop-index g l =
    (stages_from l.index-iterator.iter.plan l.index-iterator.iter.next ≡ drop l.index-iterator.count (stages l.self.0))
    × (IsPlainFormatter l.initial.f → HasWritten g.W.Write.write_str_gives l.initial.f (lines_before l.self.0 (l.index-iterator.count + 1)) l.f)
