use Rattle.rounds.proofs.Roots.{roots_are_few}
use Rattle.rounds.proofs.Determined.{values_determine}
use Rattle.rounds.proofs.theory.roots_are_few.Goals as goal

pub returns : goal.returns
returns g c = record { few = roots_are_few; determined = values_determine }
