-- What the proving end knows of a job: its plan, the entries of its tables, and the challenges so far.
use Rattle.std.specs.Prelude.{List}
use Rattle.stages.specs.declared.plan.Plan.{Plan}
use Rattle.stages.specs.Memory.{Memory}

pub record Proving (F : Type 0) : Type 0 where
  pub plan : Plan
  pub memory : Memory F
  pub challenges : List F
