use Rattle.std.proofs.Common.{rules, arith, decimal}
use Rattle.std.proofs.Output.{has_written_append, has_written_of_eq}
use Rattle.std.specs.Fmt.{HasWritten}
use Rattle.texts.proofs.Pages.{next_bound, last_bound}
use Rattle.texts.proofs.page.BoundListDisplay.fmt.Goals as goal

pub loop-round-preserved : goal.loop-round-preserved
loop-round-preserved g c plain =
    has_written_of_eq _ _ _ _ _ (next_bound c.args.self.now.plan c.args.self.now.stage c.loop-round.round c.unwrap-bound.result (omega arith) (search rules))
    (has_written_append _ _ _ _ _ _ (c.loop-round.invariant plain) (search rules))

pub returns-in_ok-write-2-clause-writes : goal.returns-in_ok-write-2-clause-writes
returns-in_ok-write-2-clause-writes g c plain ok =
    let first : HasWritten g.W.Write.write_str_gives c.args.f.now (decimal c.in-Some.first) _ = search rules in
    has_written_of_eq _ _ _ _ _ (last_bound c.args.self.now.plan c.args.self.now.stage c.loop-round.round c.in-Some.first c.unwrap-bound.result (omega arith) (omega arith) (search rules) (search rules))
    (has_written_append _ _ _ _ _ _ first (has_written_append _ _ _ _ _ _ (c.loop-round.invariant first.plain) (search rules)))
