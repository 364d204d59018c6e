-- The bound of a round is the degree that the stage's summand has in the round's variable.
use Rattle.std.proofs.Common.{◌≡◌, ℕ, ◌+◌, ◌*◌, ◌<◌, ◌≤◌, get_or, ◌∙◌, ⊎_elim, arith}
use lib.ListN.{get_or-replicate}
use Rattle.std.proofs.lemmas.Option.{get_or_from_slice_get}
use Rattle.std.proofs.lemmas.Bool.{cases_lt}
use Rattle.tables.specs.Limits.{most_chunks}
use Rattle.tables.specs.Sizes.{k}
use Rattle.tables.specs.Bounds.{Bounds, bounds as size_bounds}
use Rattle.tables.specs.declared.size.Sizes.{Sizes}
use Rattle.stages.specs.declared.plan.Kind.{Kind}
use Rattle.stages.specs.declared.plan.Kind.TheVariants.{Shout, Twist}
use Rattle.stages.specs.declared.plan.Stage.{Stage}
use Rattle.stages.specs.declared.plan.Stage.TheVariants.{Bits, Row, Read, Write, Value}
use Rattle.stages.specs.declared.plan.Plan.{Plan}
use Rattle.stages.specs.Plan.{read_degree, bounds, rounds}
use Rattle.stages.proofs.Stages.{rounds_bits, rounds_row, rounds_read, rounds_write, rounds-value}
use Rattle.stages.proofs.Bounds.{nth_address, nth_cycle}

-- the degree of what the memory holds, by the degrees a of the address and j of the cycle
abbrev pub held_degree : Kind → ℕ → ℕ → ℕ
held_degree Shout a j = a
held_degree Twist a j = a + j

pub held_degree_most : (kind : Kind) (a j : ℕ) → held_degree kind a j ≤ a + j
held_degree_most Shout a j = omega arith
held_degree_most Twist a j = omega arith

-- and of a stage's summand
abbrev pub stage_degree : Plan → Stage → ℕ → ℕ → ℕ
stage_degree p (Bits w) a j = 3 * (a + j)
stage_degree p (Row w) a j = a + j
stage_degree p Read a j = j + ((a + p.sizes.d * j) + held_degree p.kind a j)
stage_degree p Write a j = (a + j) + ((a + p.sizes.d * j) + (a + j))
stage_degree p Value a j = 2 * (a + j)

-- the one variable of a point is its coordinate number i, from 0; the degrees of the first k coordinates, the address, and of those after them, the cycle
pub data Variable (k i : ℕ) : ℕ → ℕ → Type 0 where
  in_address : i < k → Variable k i 1 0
  in_cycle : k ≤ i → Variable k i 0 1

variable_of : (k i : ℕ) → (a : ℕ) × (j : ℕ) × Variable k i a j
variable_of k i = ⊎_elim (λ h. (1, 0, in_address h)) (λ h. (0, 1, in_cycle h)) (cases_lt i k)

variable_degree : {k i a j : ℕ} → Variable k i a j → a + j ≡ 1
variable_degree (in_address h) = omega arith
variable_degree (in_cycle h) = omega arith

-- the highest bound of all: eq, the chunk tables and the value
abbrev pub most_degree : ℕ
most_degree = most_chunks + 2

module _ (p : Plan) where
  abbrev s : Sizes
  s = p.sizes

  read_address : (kind : Kind) → 2 ≡ 0 + ((1 + s.d * 0) + held_degree kind 1 0)
  read_address Shout = omega arith
  read_address Twist = omega arith

  read_cycle : (kind : Kind) → read_degree kind s.d ≡ 1 + ((0 + s.d * 1) + held_degree kind 0 1)
  read_cycle Shout = omega arith
  read_cycle Twist = omega arith

  -- rounds count from 0 here
  pub bound_is : (g : Stage) (i a j : ℕ) → Variable (k s) i a j → i < rounds p g → get_or (bounds p g) i 0 ≡ stage_degree p g a j
  bound_is (Bits w) i a j at h = omega (arith, variable_degree at, get_or-replicate {A = ℕ} (s.c + s.t) i 3 0 (omega (arith, rounds_bits p w)))
  bound_is (Row w) i a j at h = omega (arith, variable_degree at, get_or-replicate {A = ℕ} s.c i 1 0 (omega (arith, rounds_row p w)))
  bound_is Read i a j (in_address low) h =
      get_or_from_slice_get (bounds p Read) i 2 0 (nth_address (k s) s.t 2 (read_degree p.kind s.d) i low) ∙ read_address p.kind
  bound_is Read i a j (in_cycle high) h =
      get_or_from_slice_get (bounds p Read) i (read_degree p.kind s.d) 0
      (nth_cycle (k s) s.t 2 (read_degree p.kind s.d) i high (omega (arith, rounds_read p)))
      ∙ read_cycle p.kind
  bound_is Write i a j (in_address low) h =
      omega (arith, get_or_from_slice_get (bounds p Write) i 3 0 (nth_address (k s) s.t 3 (s.d + 2) i low))
  bound_is Write i a j (in_cycle high) h =
      omega (arith, get_or_from_slice_get (bounds p Write) i (s.d + 2) 0 (nth_cycle (k s) s.t 3 (s.d + 2) i high (omega (arith, rounds_write p))))
  bound_is Value i a j at h = omega (arith, variable_degree at, get_or-replicate {A = ℕ} s.t i 2 0 (omega (arith, rounds-value p)))

  pub limits : Bounds s.d s.c s.t
  limits = size_bounds s.d s.c s.t s.ok

  -- the chunk tables, of which one alone has an address variable
  chunks_degree : {i a j : ℕ} → Variable (k s) i a j → a + s.d * j ≤ s.d
  chunks_degree (in_address h) = omega (arith, limits.some_chunk)
  chunks_degree (in_cycle h) = omega arith

  stage_degree_most : (g : Stage) (i a j : ℕ) → Variable (k s) i a j → stage_degree p g a j ≤ most_degree
  stage_degree_most (Bits w) i a j at = omega (arith, variable_degree at)
  stage_degree_most (Row w) i a j at = omega (arith, variable_degree at)
  stage_degree_most Read i a j at = omega (arith, variable_degree at, chunks_degree at, held_degree_most p.kind a j, limits.chunks)
  stage_degree_most Write i a j at = omega (arith, variable_degree at, chunks_degree at, limits.chunks)
  stage_degree_most Value i a j at = omega (arith, variable_degree at)

  pub bound_most : (g : Stage) (i : ℕ) → i < rounds p g → get_or (bounds p g) i 0 ≤ most_degree
  bound_most g i h =
      let at = variable_of (k s) i in omega (arith, bound_is g i at.0 at.1 at.2 h, stage_degree_most g i at.0 at.1 at.2)
