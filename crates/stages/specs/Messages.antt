-- What an honest prover writes: the message of a round, and Val at a point.
use Rattle.std.specs.Prelude.{suc, ◌+◌, ◌-◌, cond, ◌&&◌, List, length, Ok, Err, Result, ◌==◌, slice_index}
use Rattle.fields.specs.Fields.{FieldOf, elements}
use Rattle.fields.specs.declared.refusal.Refusal.{Refusal}
use Rattle.fields.specs.declared.refusal.Refusal.TheVariants.{TablesDoNotFit, OutsideTable}
use Rattle.tables.specs.Sizes.{k}
use Rattle.tables.specs.Tables.{Table}
use Rattle.tables.specs.declared.size.Sizes.{Sizes}
use Rattle.rounds.specs.Polynomials.{polynomials}
use Rattle.rounds.specs.Summands.{Summand, published}
use Rattle.stages.specs.declared.plan.Stage.{Stage}
use Rattle.stages.specs.declared.plan.Plan.{Plan}
use Rattle.stages.specs.Plan.{bounds, rounds}
use Rattle.stages.specs.Memory.{Memory}
use Rattle.stages.specs.Formulas.{summand, held_at, val_value}

module _ {F : Type 0} (f : FieldOf F) (p : Plan) (m : Memory F) where
  -- a stage's summand, with its draws and the round challenges of the stage before
  abbrev pub stage_summand : Stage → List F → List F → Summand F
  stage_summand g draws before = record { element_at = summand f p m (elements f) g draws before; polynomial_at = summand f p m (polynomials f) g draws before }

  -- the message of the round after the challenges r of a stage: the round polynomial, filled up to bound + 1 coefficients
  abbrev pub message : Stage → List F → List F → List F → List F
  message g draws before r = published f (stage_summand g draws before) (slice_index (bounds p g) (length r)) r (rounds p g - suc (length r))

  -- the end value of a read or write: what the memory holds at the stage's round challenges
  abbrev pub end_value : List F → F
  end_value r = held_at f p m (elements f) r

-- the answer of Val at an address and a cycle: INC has k + t variables, and the point k elements for the address and t for the cycle
abbrev pub value_answer : {F : Type 0} → FieldOf F → Sizes → Table F → List F → List F → Result F Refusal
value_answer f s inc a j =
    cond (inc.variables == k s + s.t)
    (cond (length a == k s && length j == s.t) (Ok (val_value f s (elements f) inc.entries a j)) (Err OutsideTable))
    (Err TablesDoNotFit)
