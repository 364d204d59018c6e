use Rattle.std.proofs.Common.{length}
use Rattle.stages.proofs.increments.+cell_sums.Given as goal

abbrev pub decreases-cell_sums : goal.decreases-cell_sums
decreases-cell_sums g l = length l.cycle.now
