-- The coefficients of sums and negatives.
use Rattle.std.proofs.Common.{◌≡◌, ℕ, zero, suc, List, [], ◌∷◌, map, sym, refl}
use Rattle.fields.specs.Fields.{FieldOf}
use Rattle.fields.specs.Laws.Derived.{zero-add}
use Rattle.rounds.specs.Polynomials.{poly_add, coefficient}
use Rattle.rounds.proofs.Padding.{neg-zero}

module _ {F : Type 0} (f : FieldOf F) where
  pub coefficient-plus : (p q : List F) (i : ℕ) → coefficient f (poly_add f p q) i ≡ f.add (coefficient f p i) (coefficient f q i)
  coefficient-plus [] q i = sym (zero-add f (coefficient f q i))
  coefficient-plus (a ∷ p) [] i = sym (f.add-zero (coefficient f (a ∷ p) i))
  coefficient-plus (a ∷ p) (b ∷ q) zero = refl
  coefficient-plus (a ∷ p) (b ∷ q) (suc i) = coefficient-plus p q i

  pub coefficient-minus : (p : List F) (i : ℕ) → coefficient f (map f.neg p) i ≡ f.neg (coefficient f p i)
  coefficient-minus [] i = sym (neg-zero f)
  coefficient-minus (a ∷ p) zero = refl
  coefficient-minus (a ∷ p) (suc i) = coefficient-minus p i
