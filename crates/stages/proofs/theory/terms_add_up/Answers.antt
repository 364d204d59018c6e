use Rattle.stages.proofs.RoundTerms.{terms_add_up}
use Rattle.stages.proofs.theory.terms_add_up.Goals as goal

pub returns : goal.returns
returns g c = λ f p m stage draws before r h. terms_add_up f p m stage draws before r h
