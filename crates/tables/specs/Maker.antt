-- The run of a list of operations: its lists, and the answer to a call for it.
use Rattle.std.specs.Prelude.{◌≡◌, ℕ, suc, ◌*◌, ◌/◌, ◌%◌, ◌<◌, ◌≤◌, Bool, cond, ◌&&◌, List, ◌++◌, length, get_or, drop, Ok, Err, Result, ◌==◌, nat_le, nat_lt, slice_index_or}
use Rattle.fields.specs.Fields.{FieldOf, less}
use Rattle.fields.specs.declared.refusal.Refusal.{Refusal}
use Rattle.fields.specs.declared.refusal.Refusal.TheVariants.{TooShort, WrongCount}
use Rattle.tables.specs.Sizes.{cell_count, cycle_count}
use Rattle.tables.specs.Tables.{tabulate, entry}
use Rattle.tables.specs.Kinds.{if_all, one_hot_table}
use Rattle.tables.specs.Run.{cell, TwistRun}
use Rattle.tables.specs.declared.size.Sizes.{Sizes}
use Rattle.tables.specs.declared.maker.Operation.{Operation}
use Rattle.tables.specs.declared.maker.RunLists.{RunLists}

-- the list with g 0, g 1, .. at its first n places, and the others as before
abbrev pub placed : {A : Type 0} → ℕ → (ℕ → A) → List A → List A
placed n g old = tabulate n g ++ drop n old

-- a list after a call: the new one, or the old one if the call was refused
abbrev pub if_made : {A E X : Type 0} → Result A E → X → X → X
if_made (Ok a) new old = new
if_made (Err e) new old = old

-- both addresses of an operation are below a bound
abbrev pub addressed_below : {F : Type 0} → ℕ → Operation F → Bool
addressed_below bound o = nat_lt o.read bound && nat_lt o.write bound

-- the lists are long enough for a run
abbrev pub has_room : {F : Type 0} → Sizes → RunLists F → Bool
has_room s lists =
    let T = cycle_count s in
    nat_le T (length lists.reads.now)
    && nat_le T (length lists.writes.now)
    && nat_le T (length lists.rv.now)
    && nat_le T (length lists.wv.now)
    && nat_le (cell_count s * T) (length lists.inc.now)

-- the answer to operations: their addresses below K, and no more of them than cycles
abbrev pub operations_answer : {F : Type 0} → Sizes → List (Operation F) → Result (Unit {0}) Refusal
operations_answer s operations =
    if_all (addressed_below (cell_count s)) 0 operations (cond (nat_le (length operations) (cycle_count s)) (Ok tt) (Err WrongCount))

-- the answer to operations, and lists for their run
abbrev pub run_answer : {F : Type 0} → Sizes → List (Operation F) → RunLists F → Result (Unit {0}) Refusal
run_answer s operations lists = cond (has_room s lists) (operations_answer s operations) (Err TooShort)

-- the lists after a call are those before it, with other entries
pub record SameLists {F : Type 0} (old new : RunLists F) : Type 0 where
  pub reads : new.reads.ghost_name ≡ old.reads.ghost_name
  pub writes : new.writes.ghost_name ≡ old.writes.ghost_name
  pub rv : new.rv.ghost_name ≡ old.rv.ghost_name
  pub wv : new.wv.ghost_name ≡ old.wv.ghost_name
  pub inc : new.inc.ghost_name ≡ old.inc.ghost_name

-- the lists are long enough for a run, one fact for each
pub record Room {F : Type 0} (s : Sizes) (lists : RunLists F) : Type 0 where
  pub in_reads : cycle_count s ≤ length lists.reads.now
  pub in_writes : cycle_count s ≤ length lists.writes.now
  pub in_rv : cycle_count s ≤ length lists.rv.now
  pub in_wv : cycle_count s ≤ length lists.wv.now
  pub in_inc : cell_count s * cycle_count s ≤ length lists.inc.now

-- operations that are at most one for each cycle, with addresses below K
pub record Fitting {F : Type 0} (s : Sizes) (operations : List (Operation F)) : Type 0 where
  pub few : length operations ≤ cycle_count s
  pub reads_below : (j : ℕ) (o : Operation F) → j < length operations → (get_or operations j o).read < cell_count s
  pub writes_below : (j : ℕ) (o : Operation F) → j < length operations → (get_or operations j o).write < cell_count s

module _ {F : Type 0} (f : FieldOf F) (operations : List (Operation F)) where
  -- the operation of cycle j: those given, and then the filling, which reads cell 0 and writes zero there
  abbrev pub operation : ℕ → Operation F
  operation j = slice_index_or operations j (record { read = 0; write = 0; value = f.zero })

  -- the cell that cycle j reads, the one that it writes, and the element that it writes there
  abbrev pub read_at : ℕ → ℕ
  read_at j = (operation j).read

  abbrev pub write_at : ℕ → ℕ
  write_at j = (operation j).write

  abbrev pub value_at : ℕ → F
  value_at j = (operation j).value

  -- what cell a holds before cycle j
  abbrev pub held_at : ℕ → ℕ → F
  held_at a j = cell f write_at value_at a j

  -- what cycle j reads
  abbrev pub rv_at : ℕ → F
  rv_at j = held_at (read_at j) j

  -- the increment of cell a in cycle j
  abbrev pub increment_at : ℕ → ℕ → F
  increment_at a j = cond (a == write_at j) (less f (value_at j) (held_at a j)) f.zero

module _ {F : Type 0} (f : FieldOf F) (s : Sizes) where
  -- entry a·T + j of INC
  abbrev pub inc_at : List (Operation F) → ℕ → F
  inc_at operations x = increment_at f operations (x / cycle_count s) (x % cycle_count s)

  -- the chunk tables of a list of addresses
  abbrev pub one_hots : List ℕ → List (List F)
  one_hots addresses = tabulate s.d (λ i. (one_hot_table f s (suc i) addresses).entries)

  -- the one-hot tables of two address lists with RV, WV and INC are a right run, that of the operations: they and then the filling
  pub record RunOf (operations : List (Operation F)) (reads writes : List ℕ) (rv wv inc : List F) : Type 0 where
    pub run : TwistRun f s (one_hots reads) (one_hots writes) inc rv wv
    pub reads_given : (j : ℕ) → j < cycle_count s → run.reads j ≡ (operation f operations j).read
    pub writes_given : (j : ℕ) → j < cycle_count s → run.writes j ≡ (operation f operations j).write
    pub values_given : (j : ℕ) → j < cycle_count s → entry f wv j ≡ (operation f operations j).value
