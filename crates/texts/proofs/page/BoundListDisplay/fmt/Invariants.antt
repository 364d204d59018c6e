use Rattle.std.specs.Fmt.{HasWritten, IsPlainFormatter}
use Rattle.texts.proofs.Pages.{bounds_before}
use Rattle.texts.proofs.page.BoundListDisplay.fmt.Given as goal

-- the bounds of the rounds before are written
abbrev pub invariant-loop-round : goal.invariant-loop-round
invariant-loop-round g l = IsPlainFormatter l.initial.f → HasWritten g.W.Write.write_str_gives l.initial.f (bounds_before l.self.plan l.self.stage l.round) l.f
