use Rattle.rounds.proofs.Padding.{padding}
use Rattle.rounds.proofs.theory.padding_keeps.Goals as goal

pub returns : goal.returns
returns g c = padding
