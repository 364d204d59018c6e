use Rattle.std.proofs.Common.{length}
use Rattle.tables.proofs.formulas.+extend.Given as goal

abbrev pub decreases-extend : goal.decreases-extend
decreases-extend g l = length l.point.now
