use Rattle.tables.proofs.Weights.{weight-joined}
use Rattle.tables.proofs.one_hot.weight_joined.Goals as goal

pub returns : goal.returns
returns g c = cc (weight-joined g.F.Field.field c.args.head.now c.args.tail.now c.args.number)
