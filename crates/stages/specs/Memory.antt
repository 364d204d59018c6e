-- The tables of a job, by their entries.
use Rattle.std.specs.Prelude.{ℕ, zero, suc, List, [], slice_index_or}
use Rattle.stages.specs.declared.plan.ChunkTable.{ChunkTable}
use Rattle.stages.specs.declared.plan.ChunkTable.TheVariants.{Ra, Wa}

-- Shout has RA, VAL and RV; Twist has all but VAL. The chunk tables stand in the order of their chunks.
pub record Memory (F : Type 0) : Type 0 where
  pub ra : List (List F)
  pub wa : List (List F)
  pub inc : List F
  pub rv : List F
  pub wv : List F
  pub val : List F

-- chunk tables count from 1
abbrev pub chunk_at : {F : Type 0} → List (List F) → ℕ → List F
chunk_at tables zero = []
chunk_at tables (suc i) = slice_index_or tables i []

abbrev pub chunk_table : {F : Type 0} → Memory F → ChunkTable → List F
chunk_table m (Ra i) = chunk_at m.ra i
chunk_table m (Wa i) = chunk_at m.wa i
