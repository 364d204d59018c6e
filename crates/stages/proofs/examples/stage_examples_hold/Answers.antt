use Rattle.stages.proofs.Worked.{stage_examples}
use Rattle.stages.proofs.examples.stage_examples_hold.Goals as goal

pub returns : goal.returns
returns c = stage_examples
