-- The stages of a plan are such as it may have, and each value stage comes after the read.
use Rattle.std.proofs.Common.{◌≡◌, ℕ, zero, suc, ◌+◌, ◌-◌, ◌*◌, ◌/◌, ◌%◌, ◌<◌, ◌≤◌, Bool, true, false, cond, eqb, [], ◌∷◌, ◌++◌, Some, sym, ◌∙◌, subst, ⊎_elim, arith}
use Rattle.std.specs.List.{slice_get}
use Rattle.std.proofs.lemmas.Bool.{cases_lt}
use Rattle.stages.specs.declared.plan.Kind.{Kind}
use Rattle.stages.specs.declared.plan.Kind.TheVariants.{Shout, Twist}
use Rattle.stages.specs.declared.plan.ChunkTable.{ChunkTable}
use Rattle.stages.specs.declared.plan.ChunkTable.TheVariants.{Ra, Wa}
use Rattle.stages.specs.declared.plan.Stage.{Stage}
use Rattle.stages.specs.declared.plan.Stage.TheVariants.{Bits, Row, Read, Write, Value}
use Rattle.stages.specs.declared.plan.Plan.{Plan}
use Rattle.stages.specs.Plan.{chunk_stages, memory_stages, stages_of, stages, ChunkOf, Planned, challenges_before}
use Rattle.stages.specs.Due.{point_size}
use Rattle.stages.proofs.Stages.{chunk_stage, nth_chunks, nth_after_chunks, rounds_read}
use Rattle.stages.proofs.Places.{before-suc, before_mono}

-- a stage of a chunk table
module _ (kind : Kind) (d : ℕ) where
  either_planned : (b : Bool) (w : ChunkTable) → ChunkOf kind d w → Planned kind d (cond b (Bits w) (Row w))
  either_planned true w h = h
  either_planned false w h = h

  chunk_planned : (i : ℕ) (w : ChunkTable) (g : Stage) → ChunkOf kind d w → Some (chunk_stage i w) ≡ Some g → Planned kind d g
  chunk_planned i w g h is = let e : chunk_stage i w ≡ g = cc in subst (Planned kind d) e (either_planned (eqb (i % 2) 0) w h)

not_value : (b : Bool) (w : ChunkTable) → Some (cond b (Bits w) (Row w)) ≡ Some Value → ⊥
not_value true w e = absurd cc
not_value false w e = absurd cc

last_planned : (d j : ℕ) (g : Stage) → slice_get (Read ∷ []) j ≡ Some g → Planned Shout d g
last_planned d zero g is = let e : Read ≡ g = cc in subst (Planned Shout d) e tt
last_planned d (suc j) g is = absurd cc

memory_planned : (d j : ℕ) (g : Stage) → slice_get memory_stages j ≡ Some g → Planned Twist d g
memory_planned d zero g is = let e : Read ≡ g = cc in subst (Planned Twist d) e tt
memory_planned d (suc zero) g is = let e : Value ≡ g = cc in subst (Planned Twist d) e tt
memory_planned d (suc (suc zero)) g is = let e : Write ≡ g = cc in subst (Planned Twist d) e tt
memory_planned d (suc (suc (suc zero))) g is = let e : Value ≡ g = cc in subst (Planned Twist d) e tt
memory_planned d (suc (suc (suc (suc j)))) g is = absurd cc

-- the stages of Twist: those of the reads' chunk tables, of the writes', and the last four
twist_cases : {P : Type 0} (d i : ℕ) (g : Stage) → slice_get (stages_of Twist d) i ≡ Some g
    → (i < 2 * d → Some (chunk_stage i (Ra (i / 2 + 1))) ≡ Some g → P)
    → ((j : ℕ) → j < 2 * d → Some (chunk_stage j (Wa (j / 2 + 1))) ≡ Some g → P)
    → ((j : ℕ) → 4 * d + j ≡ i → slice_get memory_stages j ≡ Some g → P)
    → P
twist_cases d i g is reads writes memory =
    let rest = chunk_stages Wa d ++ memory_stages in
    ⊎_elim (λ h. reads h (sym (nth_chunks Ra d i rest h) ∙ is))
    (λ h.
    let after = sym (nth_after_chunks Ra d i (i - 2 * d) rest (omega arith)) ∙ is in
    ⊎_elim (λ l. writes (i - 2 * d) l (sym (nth_chunks Wa d (i - 2 * d) memory_stages l) ∙ after))
    (λ l. memory (i - 4 * d) (omega arith) (sym (nth_after_chunks Wa d (i - 2 * d) (i - 4 * d) memory_stages (omega arith)) ∙ after))
    (cases_lt (i - 2 * d) (2 * d)))
    (cases_lt i (2 * d))

pub planned : (kind : Kind) (d i : ℕ) (g : Stage) → slice_get (stages_of kind d) i ≡ Some g → Planned kind d g
planned Shout d i g is =
    ⊎_elim (λ h. chunk_planned Shout d i (Ra (i / 2 + 1)) g (omega arith, omega arith) (sym (nth_chunks Ra d i (Read ∷ []) h) ∙ is))
    (λ h. last_planned d (i - 2 * d) g (sym (nth_after_chunks Ra d i (i - 2 * d) (Read ∷ []) (omega arith)) ∙ is))
    (cases_lt i (2 * d))
planned Twist d i g is =
    twist_cases d i g is (λ h e. chunk_planned Twist d i (Ra (i / 2 + 1)) g (omega arith, omega arith) e)
    (λ j h e. chunk_planned Twist d j (Wa (j / 2 + 1)) g (omega arith, omega arith) e)
    (λ j e here. memory_planned d j g here)

-- the read is stage 4 d, from 0, of Twist
twist_read : (d : ℕ) → slice_get (stages_of Twist d) (4 * d) ≡ Some Read
twist_read d =
    nth_after_chunks Ra d (4 * d) (2 * d) (chunk_stages Wa d ++ memory_stages) (omega arith) ∙ nth_after_chunks Wa d (2 * d) 0 memory_stages (omega arith)

after_read : (d i j : ℕ) → 4 * d + j ≡ i → slice_get memory_stages j ≡ Some Value → 4 * d < i
after_read d i zero e is = absurd cc
after_read d i (suc j) e is = omega arith

value_after_read : (kind : Kind) (d i : ℕ) → slice_get (stages_of kind d) i ≡ Some Value → (slice_get (stages_of kind d) (4 * d) ≡ Some Read) × (4 * d < i)
value_after_read Shout d i is = absurd (planned Shout d i Value is)
value_after_read Twist d i is = (
  twist_read d,
  twist_cases d i Value is (λ h e. absurd (not_value (eqb (i % 2) 0) (Ra (i / 2 + 1)) e)) (λ j h e. absurd (not_value (eqb (j % 2) 0) (Wa (j / 2 + 1)) e))
      (λ j e here. after_read d i j e here),
)

-- so a point's coordinates come before each value stage
pub point_before_value : (p : Plan) (i : ℕ) → slice_get (stages p) i ≡ Some Value → point_size p ≤ challenges_before p i
point_before_value p i is =
    let read = value_after_read p.kind p.sizes.d i is in
    let n = 4 * p.sizes.d in
    omega (arith, before-suc p n Read read.0, before_mono p (suc n) i read.1, rounds_read p)
