-- What a table means, and what it answers.
use Rattle.std.specs.Prelude.{◌≡◌, ℕ, zero, suc, ◌^◌, ◌≤◌, Bool, true, false, cond, List, [], ◌∷◌, map, length, Ok, Err, Result, ◌==◌, nat_le, nat_lt, slice_index_or}
use Rattle.std.proofs.Common.{le_refl, arith}
use Rattle.std.specs.List.{range_with_len}
use Rattle.std.proofs.lemmas.List.FromFn.{length-map-range_with_len}
use Rattle.fields.specs.Fields.{FieldOf, elements}
use Rattle.fields.specs.declared.refusal.Refusal.{Refusal}
use Rattle.fields.specs.declared.refusal.Refusal.TheVariants.{OutsideLimits, OutsideTable}
use Rattle.tables.specs.Limits.{most_variables}
use Rattle.tables.specs.Formulas.{extension}

-- the list of g 0, g 1, .. up to, and without, g n
abbrev pub tabulate : {A : Type 0} → ℕ → (ℕ → A) → List A
tabulate n g = map g (range_with_len 0 n)

-- what a table means: a list of 2^n entries, n from 0 to 14
pub record Table (F : Type 0) : Type 0 where
  pub variables : ℕ
  pub entries : List F
  pub few : variables ≤ most_variables
  pub full : length entries ≡ 2 ^ variables

-- the table of n variables with the entries g 0, g 1, ..
abbrev pub table_of : {F : Type 0} → (n : ℕ) → n ≤ most_variables → (ℕ → F) → Table F
table_of n h g = record { variables = n; entries = tabulate (2 ^ n) g; few = h; full = length-map-range_with_len g 0 (2 ^ n) }

-- the largest n, up to a limit, for which there are 2^n entries among so many
unfoldable pub variables_upto : ℕ → ℕ → ℕ
variables_upto zero count = 0
variables_upto (suc n) count = let fewer = variables_upto n count in cond (nat_le (2 ^ suc n) count) (suc n) fewer

pub variables_upto_few : (n count : ℕ) → variables_upto n count ≤ n
unfolding variables_upto
variables_upto_few zero count = le_refl 0
variables_upto_few (suc n) count = either (nat_le (2 ^ suc n) count) (variables_upto_few n count)
  where
    either : (b : Bool) → variables_upto n count ≤ n → cond b (suc n) (variables_upto n count) ≤ suc n
    either true h = le_refl (suc n)
    either false h = omega arith

-- the variables of a list of so many entries
abbrev pub variables_in : ℕ → ℕ
variables_in count = variables_upto most_variables count

-- a list of so many entries is a table
abbrev pub is_table : ℕ → Bool
is_table count = 2 ^ variables_in count == count

-- h over the pairs of two lists, from the last pair to the first, begun with start
abbrev pub folded_pairs : {A B : Type 0} → (B → A → A → B) → B → List A → List A → B
folded_pairs h start [] ys = start
folded_pairs h start (x ∷ xs) [] = start
folded_pairs h start (x ∷ xs) (y ∷ ys) = h (folded_pairs h start xs ys) x y

module _ {F : Type 0} (f : FieldOf F) where
  -- an entry of a list
  abbrev pub entry : List F → ℕ → F
  entry es i = slice_index_or es i f.zero

  -- the answer of a table opened at a point
  abbrev pub opened : Table F → List F → Result F Refusal
  opened m point =
      cond (length point == m.variables) (Ok (extension f (elements f) m.variables (entry m.entries) point)) (Err OutsideTable)

  -- the answer of a table asked for an entry
  abbrev pub entry_answer : Table F → ℕ → Result F Refusal
  entry_answer m i = cond (nat_lt i (2 ^ m.variables)) (Ok (entry m.entries i)) (Err OutsideTable)

  -- the answer v of a formula over two points, if they have one length
  abbrev pub on_points : List F → List F → F → Result F Refusal
  on_points xs ys v = cond (length xs == length ys) (Ok v) (Err OutsideTable)

  -- the answer v of an extension, if the list is a table and the point has an element for each of its variables
  abbrev pub on_table : List F → List F → F → Result F Refusal
  on_table es point v =
      cond (is_table (length es)) (cond (length point == variables_in (length es)) (Ok v) (Err OutsideTable)) (Err OutsideLimits)
