-- What the proving end owes at a count of challenges, draws included: the message of a round, or an end value.
use Rattle.std.specs.Prelude.{ℕ, zero, suc, ◌+◌, ◌-◌, Bool, true, false, cond, ◌&&◌, ◌||◌, List, ◌++◌, length, drop, Some, None, Ok, Err, Option, Result, ◌==◌, nat_le}
use Rattle.std.proofs.Math.Seq.{slice}
use Rattle.std.specs.List.{slice_get}
use Rattle.fields.specs.Fields.{FieldOf}
use Rattle.fields.specs.declared.refusal.Refusal.{Refusal}
use Rattle.fields.specs.declared.refusal.Refusal.TheVariants.{TooShort, TablesDoNotFit, NothingDue}
use Rattle.tables.specs.Sizes.{k}
use Rattle.stages.specs.declared.plan.Kind.{Kind}
use Rattle.stages.specs.declared.plan.Kind.TheVariants.{Shout, Twist}
use Rattle.stages.specs.declared.plan.Stage.{Stage}
use Rattle.stages.specs.declared.plan.Stage.TheVariants.{Bits, Row, Read, Write, Value}
use Rattle.stages.specs.declared.plan.Plan.{Plan}
use Rattle.stages.specs.Plan.{stages, stage_at, draws, challenges_before}
use Rattle.stages.specs.Places.{place}
use Rattle.stages.specs.Memory.{Memory}
use Rattle.stages.specs.Messages.{message, end_value}

-- the coordinates of an address and a cycle
abbrev pub point_size : Plan → ℕ
point_size p = k p.sizes + p.sizes.t

-- whether a stage asks for an end value: Twist's read and write do
abbrev pub asks : Kind → Stage → Bool
asks Shout g = false
asks Twist (Bits w) = false
asks Twist (Row w) = false
asks Twist Read = true
asks Twist Write = true
asks Twist Value = false

-- whether a test passes at some number below n
abbrev pub some_below : (ℕ → Bool) → ℕ → Bool
some_below test zero = false
some_below test (suc n) = some_below test n || test n

module _ (p : Plan) (count : ℕ) where
  -- whether a stage whose challenges end at `end` asks for an end value there, at the count
  abbrev pub asks_here : ℕ → Option Stage → Bool
  asks_here end None = false
  asks_here end (Some g) = asks p.kind g && end == count

  -- the same of the stage at index i, from 0
  abbrev pub asks_at : ℕ → Bool
  asks_at i = asks_here (challenges_before p (suc i)) (slice_get (stages p) i)

  -- an end value is due where all rounds of a stage that asks for one are done
  abbrev pub end_value_due : Bool
  end_value_due = some_below asks_at (length (stages p))

module _ {F : Type 0} (f : FieldOf F) (p : Plan) (m : Memory F) (challenges : List F) where
  -- the message of stage g, where its first challenge has the number start: its draws, the coordinates of a point before
  -- them, which a value stage takes for the round challenges of the stage before, and its round challenges so far
  abbrev pub message_from : ℕ → Stage → List F
  message_from start g =
      message f p m g (slice start (start + draws p g) challenges) (slice (start - point_size p) start challenges) (drop (start + draws p g) challenges)

  -- the message of a round, from 1; a draw has the round 0
  abbrev pub message_at : ℕ → Option Stage → ℕ → Option (List F)
  message_at start None round = None
  message_at start (Some g) zero = None
  message_at start (Some g) (suc i) = Some (message_from start g)

  -- the message of a place: the number of a stage and a round, both from 1
  abbrev pub message_of_place : ℕ × ℕ → Option (List F)
  message_of_place at = message_at (challenges_before p (at.0 - 1)) (stage_at p at.0) at.1

  -- the message that is due: the count of the challenges names its place
  abbrev pub due_message : Option (List F)
  due_message = message_of_place (place p (length challenges))

  -- the point of the end value that is due: the last challenges
  abbrev pub end_point : List F
  end_point = drop (length challenges - point_size p) challenges

  -- what is answered to a call for the end value, by whether the tables fit
  abbrev pub end_value_answer : Bool → Result F Refusal
  end_value_answer fit = cond (end_value_due p (length challenges)) (cond fit (Ok (end_value f p m end_point)) (Err TablesDoNotFit)) (Err NothingDue)

-- a call for a message, by whether the tables fit, with an output list
module _ {F : Type 0} (fit : Bool) (output : List F) where
  -- what is answered
  abbrev pub message_answer : Option (List F) → Result (Unit {0}) Refusal
  message_answer None = Err NothingDue
  message_answer (Some q) = cond (nat_le (length q) (length output)) (cond fit (Ok tt) (Err TablesDoNotFit)) (Err TooShort)

  -- the output list afterwards: the message and what stood after its places; as it was where the call is refused
  abbrev pub message_output : Option (List F) → List F
  message_output None = output
  message_output (Some q) = cond (nat_le (length q) (length output) && fit) (q ++ drop (length q) output) output
