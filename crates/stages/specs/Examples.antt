-- Worked examples of the fields, the tables and the messages of a job, as one theorem.
use Rattle.std.specs.Prelude.{◌≡◌, ℕ, List, [], ◌∷◌, Some, None, Option}
use Rattle.fields.specs.F31.{F31, f31_field}
use Rattle.tables.specs.Examples.{TableExamples, f31s}
use Rattle.stages.specs.declared.plan.Kind.TheVariants.{Shout}
use Rattle.stages.specs.declared.plan.Plan.{Plan}
use Rattle.stages.specs.Memory.{Memory}
use Rattle.stages.specs.Due.{due_message}

-- Shout with d = c = 1 and t = 0: one cycle reads cell 1 of the table 5, 7
abbrev shout : Plan
shout = record { kind = Shout; sizes = record { d = 1; c = 1; t = 0; ok = tt } }

abbrev lookup : Memory F31
lookup = record { ra = f31s (0 ∷ 1 ∷ []) ∷ []; wa = []; inc = []; rv = f31s (7 ∷ []); wv = []; val = f31s (5 ∷ 7 ∷ []) }

-- the message that is due after the challenges
abbrev lookup_message : List ℕ → Option (List F31)
lookup_message challenges = due_message f31_field shout lookup (f31s challenges)

pub record StageExamples : Type 0 where
  pub of_tables : TableExamples
  pub draw_due : lookup_message [] ≡ None
  pub bits_message : lookup_message (2 ∷ []) ≡ Some (f31s (0 ∷ 1 ∷ 2147483643 ∷ 3 ∷ []))
  pub row_message : lookup_message (2 ∷ 5 ∷ []) ≡ Some (f31s (0 ∷ 1 ∷ []))
  pub read_message : lookup_message (2 ∷ 5 ∷ 4 ∷ []) ≡ Some (f31s (0 ∷ 5 ∷ 2 ∷ []))
  pub all_done : lookup_message (2 ∷ 5 ∷ 4 ∷ 3 ∷ []) ≡ None
