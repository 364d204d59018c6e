-- What the kinds of tables mean, and the answers of the calls that make them.
use Rattle.std.specs.Prelude.{ℕ, suc, ◌+◌, ◌-◌, ◌*◌, ◌/◌, ◌%◌, ◌^◌, ◌≤◌, Bool, cond, List, [], ◌∷◌, length, Ok, Err, Result, ◌==◌, nat_le, nat_lt, slice_index}
use Rattle.std.specs.Borrow.{Bor}
use Rattle.std.proofs.Math.Facts.{leb_yes, eqb_yes}
use Rattle.fields.specs.Fields.{FieldOf, ones}
use Rattle.fields.specs.declared.refusal.Refusal.{Refusal}
use Rattle.fields.specs.declared.refusal.Refusal.TheVariants.{OutsideLimits, AddressTooLarge, WrongCount}
use Rattle.tables.specs.Limits.{most_variables}
use Rattle.tables.specs.Bounds.{bounds}
use Rattle.tables.specs.Sizes.{if_holds, cell_count, cycle_count}
use Rattle.tables.specs.Tables.{Table, table_of, variables_in, variables_upto_few, is_table, entry}
use Rattle.tables.specs.declared.size.Sizes.{Sizes}
use Rattle.tables.specs.declared.plain.PlainList.{PlainList}
use Rattle.tables.specs.declared.one_hot.OneHot.{OneHot}
use Rattle.tables.specs.declared.counting.Counting.{Counting}

-- a plain list: its entries. A list not of 2^n entries means its first 2^n, for the largest n that it is long enough for, and an empty one means a zero
abbrev pub plain_table : {F : Type 0} → FieldOf F → List F → Table F
plain_table f items = table_of (variables_in (length items)) (variables_upto_few most_variables (length items)) (entry f items)

-- the answer to a list of entries
abbrev pub plain_answer : {F : Type 0} → Bor (List F) → Result (PlainList F) Refusal
plain_answer items = cond (is_table (length items.now)) (Ok (record { items = items })) (Err OutsideLimits)

-- chunk i of an address, from 1 to d: c bits, chunk 1 on top
abbrev pub chunk : Sizes → ℕ → ℕ → ℕ
chunk s i address = address / 2 ^ ((s.d - i) * s.c) % 2 ^ s.c

-- the chunk of cycle j, of addresses one for each cycle
abbrev pub chunk_of : Sizes → ℕ → List ℕ → ℕ → ℕ
chunk_of s i addresses j = chunk s i (slice_index addresses j)

-- the one-hot table of chunk i: entry a·T + j is one if the chunk of address j is a, else zero
abbrev pub one_hot_entry : {F : Type 0} → FieldOf F → Sizes → ℕ → List ℕ → ℕ → F
one_hot_entry f s i addresses x = cond (chunk_of s i addresses (x % cycle_count s) == x / cycle_count s) f.one f.zero

-- the table with these entries
abbrev pub one_hot_table : {F : Type 0} → FieldOf F → Sizes → ℕ → List ℕ → Table F
one_hot_table f s i addresses =
    table_of (s.c + s.t) (bounds s.d s.c s.t s.ok).chunk_variables (one_hot_entry f s i addresses)

-- the answer v, if all of the items, numbered from j, have their addresses in range
abbrev pub if_all : {X A : Type 0} → (X → Bool) → ℕ → List X → Result A Refusal → Result A Refusal
if_all ranged j [] v = v
if_all ranged j (x ∷ rest) v = let others = if_all ranged (suc j) rest v in cond (ranged x) others (Err (AddressTooLarge j))

-- an address is below a bound
abbrev pub address_below : ℕ → ℕ → Bool
address_below bound address = nat_lt address bound

-- one address for each cycle makes a table of a chunk from 1 to d
abbrev pub one_hot_counted : (s : Sizes) (i : ℕ) → 1 ≤ i → i ≤ s.d → Bor (List ℕ) → Result OneHot Refusal
one_hot_counted s i low high addresses =
    if_holds (length addresses.now == cycle_count s)
    (λ e. Ok (record { sizes = s; chunk = i; addresses = addresses; some_chunk = low; chunks = high; counted = eqb_yes e }))
    (Err WrongCount)

-- the answer to sizes, a chunk and addresses
abbrev pub one_hot_answer : Sizes → ℕ → Bor (List ℕ) → Result OneHot Refusal
one_hot_answer s i addresses =
    if_holds (nat_le 1 i)
    (λ low. if_holds (nat_le i s.d) (λ high. if_all (address_below (cell_count s)) 0 addresses.now (one_hot_counted s i (leb_yes low) (leb_yes high) addresses)) (Err OutsideLimits))
    (Err OutsideLimits)

-- the counting table: entry i is i ones added up
abbrev pub counting_table : {F : Type 0} → FieldOf F → Counting → Table F
counting_table f m = table_of m.variables m.few (ones f)

-- the answer to a number of variables
abbrev pub counting_answer : ℕ → Result Counting Refusal
counting_answer n = if_holds (nat_le n most_variables) (λ h. Ok (record { variables = n; few = leb_yes h })) (Err OutsideLimits)
