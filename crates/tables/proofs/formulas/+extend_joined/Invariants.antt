use Rattle.std.proofs.Common.{length}
use Rattle.tables.proofs.formulas.+extend_joined.Given as goal

abbrev pub decreases-extend_joined : goal.decreases-extend_joined
decreases-extend_joined g l = length l.head.now
