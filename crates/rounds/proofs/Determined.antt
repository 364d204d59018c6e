-- The coefficients of a polynomial are determined by its values.
use Rattle.std.proofs.Common.{◌≡◌, ℕ, zero, suc, ◌+◌, ◌-◌, ◌<◌, ◌≤◌, List, [], ◌∷◌, map, length, sym, refl, ap, ◌∙◌, ap₂, arith}
use Rattle.fields.specs.Fields.{FieldOf, most_ones, ones}
use Rattle.fields.specs.Laws.Derived.{zero-add, add_cancel, equal_of_less, ones-add}
use Rattle.tables.specs.Formulas.{less}
use Rattle.rounds.specs.Polynomials.{Degree, polynomials, value, coefficient, padded, Zero}
use Rattle.rounds.specs.Roots.{Apart, Different, AllRoots}
use Rattle.rounds.proofs.Coefficients.{coefficient-plus, coefficient-minus}
use Rattle.rounds.proofs.Degrees.{degree_less}
use Rattle.rounds.proofs.Zeros.{root_of_less}
use Rattle.rounds.proofs.Roots.{zero_by_roots}

module _ {F : Type 0} (f : FieldOf F) where
  -- polynomials with the same coefficients are filled up to the same list
  pub padded-same : (n : ℕ) (p q : List F) → ((i : ℕ) → coefficient f p i ≡ coefficient f q i) → padded f n p ≡ padded f n q
  padded-same zero p q h = refl
  padded-same (suc n) [] [] h = refl
  padded-same (suc n) [] (b ∷ q) h = ap₂ ◌∷◌ (h 0) (padded-same n [] q (λ i. h (suc i)))
  padded-same (suc n) (a ∷ p) [] h = ap₂ ◌∷◌ (h 0) (padded-same n p [] (λ i. h (suc i)))
  padded-same (suc n) (a ∷ p) (b ∷ q) h = ap₂ ◌∷◌ (h 0) (padded-same n p q (λ i. h (suc i)))

  -- so many ones added up, for each number from n down to 0
  abbrev counted : ℕ → List F
  counted zero = f.zero ∷ []
  counted (suc n) = ones f (suc n) ∷ counted n

  counted-length : (n : ℕ) → length (counted n) ≡ suc n
  counted-length zero = refl
  counted-length (suc n) = ap suc (counted-length n)

  ones_differ : (m n : ℕ) → m < n → n ≤ most_ones → ones f m ≡ ones f n → ⊥
  ones_differ m n h k e =
      let split : (n - m) + m ≡ n = omega arith in
      f.ones_nonzero (n - m) (omega arith) (omega arith)
      (sym (add_cancel f f.zero (ones f (n - m)) (ones f m) (zero-add f (ones f m) ∙ e ∙ ap (ones f) (sym split) ∙ ones-add f (n - m) m)))

  counted_apart : (m n : ℕ) → m < n → n ≤ most_ones → Apart (ones f n) (counted m)
  counted_apart zero n h k = (ones_differ 0 n h k, tt)
  counted_apart (suc m) n h k = (ones_differ (suc m) n h k, counted_apart m n (omega arith) k)

  counted_different : (n : ℕ) → n ≤ most_ones → Different (counted n)
  counted_different zero h = (tt, tt)
  counted_different (suc n) h = (counted_apart n (suc n) (omega arith) h, counted_different n (omega arith))

  roots_everywhere : (p xs : List F) → ((x : F) → value f p x ≡ f.zero) → AllRoots f p xs
  roots_everywhere p [] h = tt
  roots_everywhere p (x ∷ xs) h = (h x, roots_everywhere p xs h)

  pub values_determine : (n : ℕ) (p q : List F) → n ≤ most_ones → Degree n p → Degree n q → ((x : F) → value f p x ≡ value f q x)
      → padded f (suc n) p ≡ padded f (suc n) q
  values_determine n p q h dp dq same = padded-same (suc n) p q alike
    where
      gap : List F
      gap = less f (polynomials f) p q

      gap_zero : Zero f gap
      gap_zero =
          let bound : length gap ≤ length (counted n) = omega (arith, (degree_less f dp dq).within, counted-length n) in
          zero_by_roots f gap (counted n) (counted_different n h)
          (roots_everywhere gap (counted n) (λ x. root_of_less f p q x (same x))) bound

      alike : (i : ℕ) → coefficient f p i ≡ coefficient f q i
      alike i =
          equal_of_less f (coefficient f p i) (coefficient f q i)
          (sym (coefficient-plus f p (map f.neg q) i ∙ ap (f.add (coefficient f p i)) (coefficient-minus f q i)) ∙ gap_zero i)
