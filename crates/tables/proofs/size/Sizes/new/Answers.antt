use Rattle.tables.specs.Limits.{within}
use Rattle.tables.proofs.Made.{made_if_holds}
use Rattle.tables.proofs.size.Sizes.new.Goals as goal

pub returns : goal.returns
returns c = made_if_holds (within c.args.d c.args.c c.args.t) _ _ _
