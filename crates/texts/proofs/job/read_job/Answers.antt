use Rattle.std.proofs.Common.{arith, rules}
use Rattle.texts.proofs.Lines.{first_of_front}
use Rattle.texts.proofs.job.read_job.Goals as goal

pub returns : goal.returns
returns c =
    let first = first_of_front c.args.input.now _ c.min.result (omega arith) c.min.ensures c.first_job.result c.first_job.ensures in
    search (rules, first)
