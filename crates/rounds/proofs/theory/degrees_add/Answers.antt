use Rattle.rounds.proofs.Degrees.{degrees-add, round_variable}
use Rattle.rounds.proofs.theory.degrees_add.Goals as goal

pub returns : goal.returns
returns g c = record { formulas = degrees-add; variable = round_variable }
