-- The stages of a plan by their numbers, and how many challenges they have.
use Rattle.std.proofs.Common.{◌≡◌, ℕ, zero, suc, ◌+◌, ◌-◌, ◌*◌, ◌/◌, ◌%◌, ◌<◌, ◌≤◌, cond, eqb, List, [], ◌∷◌, ◌++◌, length, replicate, Some, sum_by, refl, ap, ◌∙◌, ⊎_elim, mul_assoc, suc-mul, arith, length-append}
use lib.ListN.{length-replicate}
use Rattle.std.specs.List.{slice_get}
use Rattle.std.proofs.lemmas.List.Sums.{sum_by-append}
use Rattle.std.proofs.lemmas.Bool.{cases_lt}
use Rattle.tables.specs.Limits.{most_chunks, most_variables}
use Rattle.tables.specs.Sizes.{k}
use Rattle.tables.specs.Bounds.{Bounds, bounds}
use Rattle.stages.specs.declared.plan.Kind.{Kind}
use Rattle.stages.specs.declared.plan.Kind.TheVariants.{Shout, Twist}
use Rattle.stages.specs.declared.plan.ChunkTable.{ChunkTable}
use Rattle.stages.specs.declared.plan.ChunkTable.TheVariants.{Ra, Wa}
use Rattle.stages.specs.declared.plan.Stage.{Stage}
use Rattle.stages.specs.declared.plan.Stage.TheVariants.{Bits, Row, Read, Write, Value}
use Rattle.stages.specs.declared.plan.Plan.{Plan}
use Rattle.stages.specs.Plan.{stages, stage_at, chunk_stages, memory_stages, stages_of, read_degree, rounds, challenges, challenge_count, closed_form}
use Rattle.stages.proofs.Lists.{nth_append-left, nth_append_right}

-- stages of a chunk table come in pairs, bits first
abbrev pub chunk_stage : ℕ → ChunkTable → Stage
chunk_stage i m = cond (eqb (i % 2) 0) (Bits m) (Row m)

pub length-chunk_stages : (table : ℕ → ChunkTable) (n : ℕ) → length (chunk_stages table n) ≡ 2 * n
length-chunk_stages table zero = refl
length-chunk_stages table (suc n) =
    length-append (chunk_stages table n) (Bits (table (suc n)) ∷ Row (table (suc n)) ∷ []) ∙ omega (arith, length-chunk_stages table n)

pub nth_chunk_stages : (table : ℕ → ChunkTable) (n i : ℕ) → i < 2 * n → slice_get (chunk_stages table n) i ≡ Some (chunk_stage i (table (i / 2 + 1)))
nth_chunk_stages table zero i h = absurd (omega arith)
nth_chunk_stages table (suc n) i h =
    let l = length-chunk_stages table n in
    ⊎_elim
    (λ below. nth_append-left (chunk_stages table n) (pair n) i (omega (arith, l)) ∙ nth_chunk_stages table n i below)
    (λ past. nth_append_right (chunk_stages table n) (pair n) i (i - 2 * n) (omega (arith, l)) ∙ last (i - 2 * n) (omega arith) (omega arith))
    (cases_lt i (2 * n))
  where
    pair : ℕ → List Stage
    pair n = Bits (table (suc n)) ∷ Row (table (suc n)) ∷ []

    last : (j : ℕ) → j < 2 → 2 * n + j ≡ i → slice_get (pair n) j ≡ Some (chunk_stage i (table (i / 2 + 1)))
    last zero k e = let even : i % 2 ≡ 0 = omega arith in let half : i / 2 + 1 ≡ suc n = omega arith in simp (even, half)
    last (suc zero) k e = let odd : i % 2 ≡ 1 = omega arith in let half : i / 2 + 1 ≡ suc n = omega arith in simp (odd, half)
    last (suc (suc j)) k e = absurd (omega arith)

-- the stages of the chunk tables, and what comes after them
pub nth_chunks : (table : ℕ → ChunkTable) (n i : ℕ) (rest : List Stage) → i < 2 * n → slice_get (chunk_stages table n ++ rest) i ≡ Some (chunk_stage i (table (i / 2 + 1)))
nth_chunks table n i rest h =
    nth_append-left (chunk_stages table n) rest i (omega (arith, length-chunk_stages table n)) ∙ nth_chunk_stages table n i h

pub nth_after_chunks : (table : ℕ → ChunkTable) (n i j : ℕ) (rest : List Stage) → 2 * n + j ≡ i → slice_get (chunk_stages table n ++ rest) i ≡ slice_get rest j
nth_after_chunks table n i j rest e = nth_append_right (chunk_stages table n) rest i j (omega (arith, length-chunk_stages table n))

-- the stages of the reads' chunk tables come first
pub nth_reads : (kind : Kind) (d i : ℕ) → i < 2 * d → slice_get (stages_of kind d) i ≡ Some (chunk_stage i (Ra (i / 2 + 1)))
nth_reads Shout d i h = nth_chunks Ra d i (Read ∷ []) h
nth_reads Twist d i h = nth_chunks Ra d i (chunk_stages Wa d ++ memory_stages) h

pub length-shout : (d : ℕ) → length (stages_of Shout d) ≡ 2 * d + 1
length-shout d = length-append (chunk_stages Ra d) (Read ∷ []) ∙ omega (arith, length-chunk_stages Ra d)

pub length_twist : (d : ℕ) → length (stages_of Twist d) ≡ 4 * d + 4
length_twist d =
    length-append (chunk_stages Ra d) (chunk_stages Wa d ++ memory_stages)
    ∙ omega (arith, length-chunk_stages Ra d, length-chunk_stages Wa d, length-append (chunk_stages Wa d) memory_stages)

length_most : (kind : Kind) (d : ℕ) → length (stages_of kind d) ≤ 4 * d + 4
length_most Shout d = omega (arith, length-shout d)
length_most Twist d = omega (arith, length_twist d)

module _ (p : Plan) where
  limits : Bounds p.sizes.d p.sizes.c p.sizes.t
  limits = bounds p.sizes.d p.sizes.c p.sizes.t p.sizes.ok

  pub few_stages : length (stages p) ≤ 4 * most_chunks + 4
  few_stages = omega (arith, length_most p.kind p.sizes.d, limits.chunks)

  pub rounds_bits : (m : ChunkTable) → rounds p (Bits m) ≡ p.sizes.c + p.sizes.t
  rounds_bits m = length-replicate (p.sizes.c + p.sizes.t) 3

  pub rounds_row : (m : ChunkTable) → rounds p (Row m) ≡ p.sizes.c
  rounds_row m = length-replicate p.sizes.c 1

  -- n address rounds and m cycle rounds
  length-rounds : (n m a b : ℕ) → length (replicate n a ++ replicate m b) ≡ n + m
  length-rounds n m a b = simp (length-append, length-replicate)

  pub rounds_read : rounds p Read ≡ k p.sizes + p.sizes.t
  rounds_read = length-rounds (k p.sizes) p.sizes.t 2 (read_degree p.kind p.sizes.d)

  pub rounds_write : rounds p Write ≡ k p.sizes + p.sizes.t
  rounds_write = length-rounds (k p.sizes) p.sizes.t 3 (p.sizes.d + 2)

  pub rounds-value : rounds p Value ≡ p.sizes.t
  rounds-value = length-replicate p.sizes.t 2

  -- no stage has more rounds than a table may have variables
  pub rounds-within : (g : Stage) → rounds p g ≤ most_variables
  rounds-within (Bits m) = omega (arith, rounds_bits m, limits.chunk_variables)
  rounds-within (Row m) = omega (arith, rounds_row m, limits.chunk_variables)
  rounds-within Read = omega (arith, rounds_read, limits.variables)
  rounds-within Write = omega (arith, rounds_write, limits.variables)
  rounds-within Value = omega (arith, rounds-value, limits.variables)

  abbrev x : ℕ
  x = p.sizes.c + p.sizes.t

  -- bits and row of a chunk table have 3 (c + t) challenges together
  pub sum-chunk_stages : (table : ℕ → ChunkTable) (n : ℕ) → sum_by (challenges p) (chunk_stages table n) ≡ 3 * (n * x)
  sum-chunk_stages table zero = omega arith
  sum-chunk_stages table (suc n) =
      sum_by-append (challenges p) (chunk_stages table n) (Bits (table (suc n)) ∷ Row (table (suc n)) ∷ [])
      ∙ omega (arith, sum-chunk_stages table n, rounds_bits (table (suc n)), rounds_row (table (suc n)), suc-mul n x)

  pub challenges_closed : (kind : Kind) → sum_by (challenges p) (stages_of kind p.sizes.d) ≡ closed_form p kind
  challenges_closed Shout =
      sum_by-append (challenges p) (chunk_stages Ra p.sizes.d) (Read ∷ [])
      ∙ omega (arith, sum-chunk_stages Ra p.sizes.d, rounds_read, mul_assoc 3 p.sizes.d x)
  challenges_closed Twist =
      sum_by-append (challenges p) (chunk_stages Ra p.sizes.d) (chunk_stages Wa p.sizes.d ++ memory_stages)
      ∙ ap (λ (n : ℕ). sum_by (challenges p) (chunk_stages Ra p.sizes.d) + n) (sum_by-append (challenges p) (chunk_stages Wa p.sizes.d) memory_stages)
      ∙ omega (arith, sum-chunk_stages Ra p.sizes.d, sum-chunk_stages Wa p.sizes.d, rounds_read, rounds_write, rounds-value, mul_assoc 6 p.sizes.d x)

  pub count_closed : (kind : Kind) → p.kind ≡ kind → challenge_count p ≡ closed_form p kind
  count_closed kind is = ap (λ kind. sum_by (challenges p) (stages_of kind p.sizes.d)) is ∙ challenges_closed kind

  -- a stage by its number less one
  pub stage_by_index : (kind : Kind) (n i : ℕ) → p.kind ≡ kind → n ≡ i + 1 → stage_at p n ≡ slice_get (stages_of kind p.sizes.d) i
  stage_by_index kind zero i is e = absurd (omega arith)
  stage_by_index kind (suc n) i is e = let h : n ≡ i = omega arith in ap (slice_get (stages p)) h ∙ ap (λ kind. slice_get (stages_of kind p.sizes.d) i) is
