use Rattle.rounds.proofs.Rounds.{round_sums}
use Rattle.rounds.proofs.theory.round_sums_stand.Goals as goal

pub returns : goal.returns
returns g c = round_sums
