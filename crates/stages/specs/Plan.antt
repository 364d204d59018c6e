-- The plan of a job: its stages in order, and the draws and degree bounds of each.
use Rattle.std.specs.Prelude.{ℕ, zero, suc, ◌+◌, ◌*◌, ◌≤◌, List, [], ◌∷◌, ◌++◌, length, take, drop, replicate, None, sum_by, Option}
use Rattle.std.specs.List.{slice_get}
use Rattle.tables.specs.Sizes.{k}
use Rattle.stages.specs.declared.plan.Kind.{Kind}
use Rattle.stages.specs.declared.plan.Kind.TheVariants.{Shout, Twist}
use Rattle.stages.specs.declared.plan.ChunkTable.{ChunkTable}
use Rattle.stages.specs.declared.plan.ChunkTable.TheVariants.{Ra, Wa}
use Rattle.stages.specs.declared.plan.Stage.{Stage}
use Rattle.stages.specs.declared.plan.Stage.TheVariants.{Bits, Row, Read, Write, Value}
use Rattle.stages.specs.declared.plan.Plan.{Plan}

-- bits then row, for the chunk tables 1 to n of the reads or of the writes
abbrev pub chunk_stages : (ℕ → ChunkTable) → ℕ → List Stage
chunk_stages table zero = []
chunk_stages table (suc n) = chunk_stages table n ++ (Bits (table (suc n)) ∷ Row (table (suc n)) ∷ [])

-- the stages of Twist after those of its chunk tables: an end value is checked right after the stage that it ends
abbrev pub memory_stages : List Stage
memory_stages = Read ∷ Value ∷ Write ∷ Value ∷ []

-- the stages for d chunks
abbrev pub stages_of : Kind → ℕ → List Stage
stages_of Shout d = chunk_stages Ra d ++ (Read ∷ [])
stages_of Twist d = chunk_stages Ra d ++ (chunk_stages Wa d ++ memory_stages)

-- a chunk table of a job of d chunks
abbrev pub ChunkOf : Kind → ℕ → ChunkTable → Type 0
ChunkOf x d (Ra i) = (1 ≤ i) × (i ≤ d)
ChunkOf Shout d (Wa i) = ⊥
ChunkOf Twist d (Wa i) = (1 ≤ i) × (i ≤ d)

-- a stage that a plan for d chunks may have
abbrev pub Planned : Kind → ℕ → Stage → Type 0
Planned x d (Bits w) = ChunkOf x d w
Planned x d (Row w) = ChunkOf x d w
Planned x d Read = Unit {0}
Planned Shout d Write = ⊥
Planned Twist d Write = Unit {0}
Planned Shout d Value = ⊥
Planned Twist d Value = Unit {0}

-- the factors of the read summand that have a cycle variable: eq, the chunk tables and, with writes, the value
abbrev pub read_degree : Kind → ℕ → ℕ
read_degree Shout d = d + 1
read_degree Twist d = d + 2

module _ (p : Plan) where
  abbrev pub stages : List Stage
  stages = stages_of p.kind p.sizes.d

  -- stages count from 1
  abbrev pub stage_at : ℕ → Option Stage
  stage_at zero = None
  stage_at (suc i) = slice_get stages i

  -- the stages from a number on
  abbrev pub stages_from : ℕ → List Stage
  stages_from zero = []
  stages_from (suc i) = drop i stages

  -- the draws that a stage takes before its rounds
  abbrev pub draws : Stage → ℕ
  draws (Bits m) = p.sizes.c + p.sizes.t
  draws (Row m) = p.sizes.t
  draws Read = p.sizes.t
  draws Write = k p.sizes + p.sizes.t
  draws Value = 0

  -- the degree bound of each round of a stage: the rounds of address variables, then those of cycle variables
  abbrev pub bounds : Stage → List ℕ
  bounds (Bits m) = replicate (p.sizes.c + p.sizes.t) 3
  bounds (Row m) = replicate p.sizes.c 1
  bounds Read = replicate (k p.sizes) 2 ++ replicate p.sizes.t (read_degree p.kind p.sizes.d)
  bounds Write = replicate (k p.sizes) 3 ++ replicate p.sizes.t (p.sizes.d + 2)
  bounds Value = replicate p.sizes.t 2

  abbrev pub rounds : Stage → ℕ
  rounds g = length (bounds g)

  -- rounds count from 1
  abbrev pub bound_at : Stage → ℕ → Option ℕ
  bound_at g zero = None
  bound_at g (suc i) = slice_get (bounds g) i

  -- the challenges of a stage, draws included
  abbrev pub challenges : Stage → ℕ
  challenges g = draws g + rounds g

  -- the challenges of the first n stages
  abbrev pub challenges_before : ℕ → ℕ
  challenges_before n = sum_by challenges (take n stages)

  -- N, the challenges of all stages
  abbrev pub challenge_count : ℕ
  challenge_count = sum_by challenges stages

  -- N, written out
  abbrev pub closed_form : Kind → ℕ
  closed_form Shout = 3 * p.sizes.d * (p.sizes.c + p.sizes.t) + k p.sizes + 2 * p.sizes.t
  closed_form Twist = 6 * p.sizes.d * (p.sizes.c + p.sizes.t) + 3 * k p.sizes + 6 * p.sizes.t
