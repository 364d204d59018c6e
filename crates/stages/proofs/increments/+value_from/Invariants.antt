use Rattle.std.proofs.Common.{length}
use Rattle.stages.proofs.increments.+value_from.Given as goal

abbrev pub decreases-value_from : goal.decreases-value_from
decreases-value_from g l = length l.address.now
