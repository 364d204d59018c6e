use Rattle.tables.proofs.Worked.{table_examples}
use Rattle.tables.proofs.examples.table_examples_hold.Goals as goal

pub returns : goal.returns
returns c = table_examples
