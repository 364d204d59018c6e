-- A polynomial that is not zero has fewer different roots than coefficients.
use Rattle.std.proofs.Common.{◌≡◌, ℕ, zero, suc, ◌≤◌, List, [], ◌∷◌, length, sym, refl, ap, ◌∙◌, inl, inr, arith}
use native.Mathlib.Decide.{dec_le}
use Rattle.fields.specs.Fields.{FieldOf, less}
use Rattle.fields.specs.Laws.Derived.{equal_of_less}
use Rattle.fields.specs.Laws.Solve.{con, ◌⊕◌, ◌⊖◌, ◌⊗◌, ◌≐◌, solve2, solve3, solve5}
use Rattle.rounds.specs.Polynomials.{Degree, Zero, Nonzero, value}
use Rattle.rounds.specs.Roots.{Apart, Different, AllRoots}
use Rattle.rounds.proofs.Values.{value-const}

module _ {F : Type 0} (f : FieldOf F) where
  open f use {add, mul, neg}

  -- the quotient of p by X - x
  abbrev quotient : List F → F → List F
  quotient [] x = []
  quotient (a ∷ []) x = []
  quotient (a ∷ b ∷ p) x = value f (b ∷ p) x ∷ quotient (b ∷ p) x

  quotient-length : (p : List F) (x : F) (n : ℕ) → length p ≤ suc n → length (quotient p x) ≤ n
  quotient-length [] x n h = omega arith
  quotient-length (a ∷ []) x n h = omega arith
  quotient-length (a ∷ b ∷ p) x zero h = omega arith
  quotient-length (a ∷ b ∷ p) x (suc n) h = omega (arith, quotient-length (b ∷ p) x n (omega arith))

  -- p is its quotient times X - x, and its value at x
  quotient-value : (p : List F) (x y : F) → value f p y ≡ add (mul (less f y x) (value f (quotient p x) y)) (value f p x)
  quotient-value [] x y = solve2 f (λ x y. con 0 ≐ (y ⊖ x) ⊗ con 0 ⊕ con 0) tt x y
  quotient-value (a ∷ []) x y = solve3 f (λ a x y. a ⊕ y ⊗ con 0 ≐ (y ⊖ x) ⊗ con 0 ⊕ (a ⊕ x ⊗ con 0)) tt a x y
  quotient-value (a ∷ b ∷ p) x y =
      ap (λ z. add a (mul y z)) (quotient-value (b ∷ p) x y)
      ∙ solve5 f (λ a x y q v. a ⊕ y ⊗ ((y ⊖ x) ⊗ q ⊕ v) ≐ (y ⊖ x) ⊗ (v ⊕ y ⊗ q) ⊕ (a ⊕ x ⊗ v)) tt
      a x y (value f (quotient (b ∷ p) x) y) (value f (b ∷ p) x)

  -- a polynomial with the root x is zero if its quotient is
  quotient-zero : (p : List F) (x : F) → value f p x ≡ f.zero → Zero f (quotient p x) → Zero f p
  quotient-zero [] x v z = λ i. refl
  quotient-zero (a ∷ []) x v z = elim [ zero ↦ sym (value-const f a x) ∙ v | suc i ↦ refl ]
  quotient-zero (a ∷ b ∷ p) x v z = elim [
    | zero ↦ sym (value-const f a x) ∙ ap (λ u. add a (mul x u)) (sym (z 0)) ∙ v
    | suc i ↦ quotient-zero (b ∷ p) x (z 0) (λ i. z (suc i)) i
  ]

  -- a root other than x is a root of the quotient
  other_root : (p : List F) (x y : F) → value f p x ≡ f.zero → value f p y ≡ f.zero → (y ≡ x → ⊥) → value f (quotient p x) y ≡ f.zero
  other_root p x y vx vy h =
      elim (f.no_zero_divisors (less f y x) (value f (quotient p x) y)
      (sym (f.add-zero (mul (less f y x) (value f (quotient p x) y)))
      ∙ ap (add (mul (less f y x) (value f (quotient p x) y))) (sym vx)
      ∙ sym (quotient-value p x y)
      ∙ vy)) [
        | inl e ↦ absurd (h (equal_of_less f y x e))
        | inr e ↦ e
      ]

  other_roots : (p : List F) (x : F) (ys : List F) → value f p x ≡ f.zero → Apart x ys → AllRoots f p ys → AllRoots f (quotient p x) ys
  other_roots p x [] v a s = tt
  other_roots p x (y ∷ ys) v a s = (other_root p x y v s.0 a.0, other_roots p x ys v a.1 s.1)

  pub zero_by_roots : (p xs : List F) → Different xs → AllRoots f p xs → length p ≤ length xs → Zero f p
  zero_by_roots [] [] d s h = λ i. refl
  zero_by_roots (a ∷ p) [] d s h = absurd (omega arith)
  zero_by_roots p (x ∷ xs) d s h =
      quotient-zero p x s.0
      (zero_by_roots (quotient p x) xs d.1 (other_roots p x xs s.0 d.0 s.1) (quotient-length p x (length xs) h))

  pub roots_are_few : (n : ℕ) (p xs : List F) → Degree n p → Nonzero f p → Different xs → AllRoots f p xs → length xs ≤ n
  roots_are_few n p xs d z a s = elim (dec_le (length xs) n) [
    | yes h ↦ h
    | no h ↦ absurd (z.1 (zero_by_roots p xs a s (omega (arith, d.within)) z.0))
  ]
