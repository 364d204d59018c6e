use Rattle.rounds.proofs.Rounds.{claim_passes}
use Rattle.rounds.proofs.theory.claims_pass.Goals as goal

pub returns : goal.returns
returns g c = claim_passes
