-- What a right run is, over the lists of entries of its tables.
use Rattle.std.specs.Prelude.{◌≡◌, ℕ, zero, suc, ◌+◌, ◌*◌, ◌^◌, ◌<◌, cond, List, [], ◌==◌, slice_index_or}
use Rattle.fields.specs.Fields.{FieldOf, less}
use Rattle.tables.specs.Sizes.{cell_count, cycle_count}
use Rattle.tables.specs.Tables.{entry}
use Rattle.tables.specs.Kinds.{chunk}
use Rattle.tables.specs.declared.size.Sizes.{Sizes}

-- what cell a holds before cycle j, if cycle x writes the element `values x` to cell `writes x`: zero at first, then what was last written to it
abbrev pub cell : {F : Type 0} → FieldOf F → (ℕ → ℕ) → (ℕ → F) → ℕ → ℕ → F
cell f writes values a zero = f.zero
cell f writes values a (suc j) = let before = cell f writes values a j in cond (a == writes j) (values j) before

module _ {F : Type 0} (f : FieldOf F) (s : Sizes) where
  -- chunk tables, that of chunk 1 first: in each and in each cycle the entry of the chunk of the address is one, and the others are zero
  pub record Addressed (tables : List (List F)) (addresses : ℕ → ℕ) : Type 0 where
    pub below : (j : ℕ) → j < cycle_count s → addresses j < cell_count s
    pub one_hot : (i a j : ℕ) → i < s.d → a < 2 ^ s.c → j < cycle_count s
        → entry f (slice_index_or tables i []) (a * cycle_count s + j) ≡ cond (chunk s (suc i) (addresses j) == a) f.one f.zero

  -- each cycle reads a cell of a memory that does not change
  pub record ShoutRun (ra : List (List F)) (val rv : List F) : Type 0 where
    pub reads : ℕ → ℕ
    pub reads_addressed : Addressed ra reads
    pub gives : (j : ℕ) → j < cycle_count s → entry f rv j ≡ entry f val (reads j)

  -- each cycle reads a cell, and then writes one; an increment is what is written less what the cell held, and elsewhere zero
  pub record TwistRun (ra wa : List (List F)) (inc rv wv : List F) : Type 0 where
    pub reads : ℕ → ℕ
    pub writes : ℕ → ℕ
    pub reads_addressed : Addressed ra reads
    pub writes_addressed : Addressed wa writes
    pub gives : (j : ℕ) → j < cycle_count s → entry f rv j ≡ cell f writes (entry f wv) (reads j) j
    pub increments : (a j : ℕ) → a < cell_count s → j < cycle_count s
        → entry f inc (a * cycle_count s + j) ≡ cond (a == writes j) (less f (entry f wv j) (cell f writes (entry f wv) a j)) f.zero
