use Rattle.rounds.proofs.Readings.{evaluates}
use Rattle.rounds.proofs.theory.formulas_evaluate.Goals as goal

pub returns : goal.returns
returns g c = evaluates
