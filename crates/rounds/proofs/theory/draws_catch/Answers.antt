use Rattle.rounds.proofs.Errors.{draw, draws}
use Rattle.rounds.proofs.theory.draws_catch.Goals as goal

pub returns : goal.returns
returns g c = record { one = draw; all = draws }
