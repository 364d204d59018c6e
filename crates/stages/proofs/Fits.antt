-- Chunk tables that fit, one after another.
use Rattle.std.proofs.Common.{◌≡◌, ◌↔◌, ℕ, zero, suc, ◌+◌, ◌<◌, Bool, true, false, ◌&&◌, eqb, List, [], ◌∷◌, map, length, get_or, sym, refl, ap, ◌∙◌, arith}
use lib.ListN.{length-map}
use Rattle.std.specs.List.{All}
use Rattle.std.proofs.lemmas.List.{get_or-map}
use Rattle.std.proofs.lemmas.Bool.{eq-eqb, eqb-true, and_from, and_parts}
use Rattle.tables.specs.Tables.{Table}
use Rattle.tables.specs.declared.size.Sizes.{Sizes}
use Rattle.stages.specs.Memory.{chunk_at}
use Rattle.stages.specs.Models.{all_have, chunks_fit}

module _ {F A : Type 0} (e : A → Table F) (xs : List A) where
  -- each table has n variables just where the test of all passes
  have_each : (n : ℕ) (xs : List A) → all_have n (map e xs) ≡ true → All (λ x. (e x).variables ≡ n) xs
  have_each n [] h k d below = absurd (omega arith)
  have_each n (y ∷ xs) h zero d below = eqb-true (e y).variables n (and_parts (eqb (e y).variables n) (all_have n (map e xs)) h).0
  have_each n (y ∷ xs) h (suc k) d below = have_each n xs (and_parts (eqb (e y).variables n) (all_have n (map e xs)) h).1 k d (omega arith)

  each_have : (n : ℕ) (xs : List A) → All (λ x. (e x).variables ≡ n) xs → all_have n (map e xs) ≡ true
  each_have n [] all = refl
  each_have n (y ∷ xs) all =
      and_from (eqb (e y).variables n) (all_have n (map e xs)) (eq-eqb (e y).variables n (all 0 y (omega arith)))
      (each_have n xs (λ k d below. all (suc k) d (omega arith)))

  same_tests : (a b : Bool) → (a ≡ true → b ≡ true) → (b ≡ true → a ≡ true) → a ≡ b
  same_tests true b f g = sym (f refl)
  same_tests false true f g = g refl
  same_tests false false f g = refl

  pub fits_each : (n : ℕ) (b : Bool) → (b ≡ true ↔ All (λ x. (e x).variables ≡ n) xs) → b ≡ all_have n (map e xs)
  fits_each n b is = same_tests b (all_have n (map e xs)) (λ h. each_have n xs (is.0 h)) (λ h. is.1 (have_each n xs h))

  pub right_count : (s : Sizes) → length xs ≡ s.d → chunks_fit s (map e xs) ≡ all_have (s.c + s.t) (map e xs)
  right_count s q = ap (λ b. b && all_have (s.c + s.t) (map e xs)) (eq-eqb (length (map e xs)) s.d (length-map xs e ∙ q))

  -- of tables that fit there is one for each chunk, and each has its variables
  pub fits_count : (s : Sizes) → chunks_fit s (map e xs) ≡ true → length xs ≡ s.d
  fits_count s fit =
      sym (length-map xs e) ∙ eqb-true (length (map e xs)) s.d (and_parts (eqb (length (map e xs)) s.d) (all_have (s.c + s.t) (map e xs)) fit).0

  pub fits_variables : (s : Sizes) → chunks_fit s (map e xs) ≡ true → (i : ℕ) (x : A) → i < length xs → x ≡ get_or xs i x → (e x).variables ≡ s.c + s.t
  fits_variables s fit i x h is =
      ap (λ y. (e y).variables) is ∙ have_each (s.c + s.t) xs (and_parts (eqb (length (map e xs)) s.d) (all_have (s.c + s.t) (map e xs)) fit).1 i x h

  -- the entries of a chunk table by its place
  pub entries_at : (i : ℕ) (x : A) → i < length xs → x ≡ get_or xs i x → chunk_at (map (λ m. (e m).entries) xs) (suc i) ≡ (e x).entries
  entries_at i x h is = get_or-map (λ m. (e m).entries) xs i x [] h ∙ sym (ap (λ m. (e m).entries) is)
