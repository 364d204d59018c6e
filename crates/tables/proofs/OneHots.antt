-- Making a one-hot table: the checks in their order.
use Rattle.std.proofs.Common.{◌≡◌, ℕ, ◌+◌, ◌/◌, ◌%◌, ◌^◌, ◌<◌, ◌≤◌, ◌≢◌, Bool, cond, eqb, leb, ltb, List, length, Ok, Err, Result, ap, ◌∙◌, ap₂, Bor, ne_eqb}
use borrow.Author.Tests.{lt-leb}
use native.Mathlib.Nat.{ℕ_set}
use Rattle.std.proofs.Math.Bridge.{le_prop}
use Rattle.std.proofs.Math.Facts.{yes_leb, yes_eqb}
use Rattle.fields.specs.Fields.{FieldOf}
use Rattle.fields.specs.declared.refusal.Refusal.{Refusal}
use Rattle.fields.specs.declared.refusal.Refusal.TheVariants.{OutsideLimits, OutsideTable, WrongCount}
use Rattle.tables.specs.Bounds.{bounds}
use Rattle.tables.specs.Sizes.{cell_count, cycle_count}
use Rattle.tables.specs.Tables.{entry_answer}
use Rattle.tables.specs.Kinds.{if_all, address_below, chunk_of, one_hot_entry, one_hot_table, one_hot_counted, one_hot_answer}
use Rattle.tables.specs.declared.size.Sizes.{Sizes}
use Rattle.tables.specs.declared.one_hot.OneHot.{OneHot}
use Rattle.tables.proofs.Entries.{gives}
use Rattle.tables.proofs.Made.{made_if_holds, other_if_fails, passed}

module _ (s : Sizes) (i : ℕ) (addresses : Bor (List ℕ)) where
  pub no_chunk_below : i < 1 → Err OutsideLimits ≡ one_hot_answer s i addresses
  no_chunk_below h = other_if_fails (leb 1 i) _ _ (lt-leb 1 i h)

  pub no_chunk_above : 1 ≤ i → s.d < i → Err OutsideLimits ≡ one_hot_answer s i addresses
  no_chunk_above low h = other_if_fails (leb i s.d) _ _ (lt-leb i s.d h) ∙ made_if_holds (leb 1 i) (yes_leb low) _ _

  module _ (low : 1 ≤ i) (high : i ≤ s.d) where
    abbrev pub counted : Result OneHot Refusal
    counted = one_hot_counted s i low high addresses

    -- for a chunk from 1 to d
    pub chunk_answer : (cells : ℕ) → cells ≡ cell_count s → if_all (address_below cells) 0 addresses.now counted ≡ one_hot_answer s i addresses
    chunk_answer cells is =
        ap (λ (k : ℕ). if_all (address_below k) 0 addresses.now counted) is
        ∙ ap₂ (λ l h. if_all (address_below (cell_count s)) 0 addresses.now (one_hot_counted s i l h addresses)) (le_prop low _) (le_prop high _)
        ∙ made_if_holds (leb i s.d) (yes_leb high) _ _
        ∙ made_if_holds (leb 1 i) (yes_leb low) _ _

    pub wrong_count : length addresses.now ≢ cycle_count s → Err WrongCount ≡ counted
    wrong_count h = other_if_fails (eqb (length addresses.now) (cycle_count s)) _ _ (ne_eqb (length addresses.now) (cycle_count s) h)

    pub right_count : (e : length addresses.now ≡ cycle_count s) → Ok (record { sizes = s; chunk = i; addresses = addresses; some_chunk = low; chunks = high; counted = e }) ≡ counted
    right_count e =
        ap (λ k. Ok (record { sizes = s; chunk = i; addresses = addresses; some_chunk = low; chunks = high; counted = k })) (ℕ_set _ _ e _)
        ∙ made_if_holds (eqb (length addresses.now) (cycle_count s)) (yes_eqb e) _ _

-- an entry by the test of its row, where the index is below 2^n for the n variables
pub gives_of_row : {F : Type 0} (f : FieldOf F) (m : OneHot) (x n : ℕ) (b : Bool) (v : F) → n ≡ m.sizes.c + m.sizes.t
    → Ok tt ≡ cond (ltb x (2 ^ n)) (Ok (tt {0})) (Err OutsideTable) → b ≡ eqb (chunk_of m.sizes m.chunk m.addresses.now (x % cycle_count m.sizes)) (x / cycle_count m.sizes)
    → v ≡ cond b f.one f.zero → Ok v ≡ entry_answer f (one_hot_table f m.sizes m.chunk m.addresses.now) x
gives_of_row f m x n b v all below row e =
    let s = m.sizes in
    gives f (s.c + s.t) (bounds s.d s.c s.t s.ok).chunk_variables (one_hot_entry f s m.chunk m.addresses.now) x v
    (passed OutsideTable below ∙ ap (λ (n : ℕ). ltb x (2 ^ n)) all) (e ∙ ap (λ b. cond b f.one f.zero) row)
