-- A polynomial is zero or not, which can be told; a zero polynomial is zero everywhere.
use Rattle.std.proofs.Common.{◌≡◌, zero, suc, Bool, true, false, ◌&&◌, T, eqb, ◌⊎◌, List, [], ◌∷◌, map, sym, refl, ap, ◌∙◌, subst, ap₂, inl, inr, eqb→eq}
use lib.Dec.{eqb_refl}
use Rattle.fields.specs.Fields.{FieldOf, elements}
use Rattle.fields.specs.Laws.Derived.{equal_of_less}
use Rattle.fields.specs.Laws.Solve.{con, ◌⊕◌, ◌⊗◌, ◌≐◌, solve1}
use Rattle.tables.specs.Formulas.{less}
use Rattle.rounds.specs.Polynomials.{polynomials, value, Zero, Nonzero, is_zero}
use Rattle.rounds.proofs.Values.{value-add, value-neg}

module _ {F : Type 0} (f : FieldOf F) where
  zero-value : (p : List F) (x : F) → Zero f p → value f p x ≡ f.zero
  zero-value [] x z = refl
  zero-value (a ∷ p) x z =
      ap₂ (λ u v. f.add u (f.mul x v)) (z 0) (zero-value p x (λ i. z (suc i))) ∙ solve1 f (λ x. con 0 ⊕ x ⊗ con 0 ≐ con 0) tt x

  abbrev test : F → Bool
  test a = eqb (f.meaning a) (f.meaning f.zero)

  pub element-zero_or_not : (a : F) → ((test a ≡ true) × (a ≡ f.zero)) ⊎ ((test a ≡ false) × (a ≡ f.zero → ⊥))
  element-zero_or_not a = told (test a) refl
    where
      told : (b : Bool) → test a ≡ b → ((b ≡ true) × (a ≡ f.zero)) ⊎ ((b ≡ false) × (a ≡ f.zero → ⊥))
      told true e = inl (refl, f.meaning_injective a f.zero (eqb→eq (f.meaning a) (f.meaning f.zero) (subst T (sym e) tt)))
      told false e = inr (refl, λ h. subst T (ap test (sym h) ∙ e) (eqb_refl (f.meaning f.zero)))

  -- the test tells which
  pub zero_or_not : (p : List F) → ((is_zero f p ≡ true) × Zero f p) ⊎ ((is_zero f p ≡ false) × Nonzero f p)
  zero_or_not [] = inl (refl, λ i. refl)
  zero_or_not (a ∷ p) = elim (element-zero_or_not a) [
    | inr h ↦ inr (ap (λ b. b && is_zero f p) h.0, (0, h.1))
    | inl h ↦ elim (zero_or_not p) [
      | inr k ↦ inr (ap₂ ◌&&◌ h.0 k.0, (suc k.1.0, k.1.1))
      | inl k ↦ inl (ap₂ ◌&&◌ h.0 k.0, elim [ zero ↦ h.1 | suc i ↦ k.1 i ])
    ]
  ]

  -- the value of a difference of polynomials
  pub value-less : (p q : List F) (x : F) → value f (less f (polynomials f) p q) x ≡ less f (elements f) (value f p x) (value f q x)
  value-less p q x = value-add f p (map f.neg q) x ∙ ap (f.add (value f p x)) (value-neg f q x)

  -- where two polynomials have the same value, their difference has a root
  pub root_of_less : (p q : List F) (x : F) → value f p x ≡ value f q x → value f (less f (polynomials f) p q) x ≡ f.zero
  root_of_less p q x e = value-less p q x ∙ ap (λ v. f.add v (f.neg (value f q x))) e ∙ f.add-neg (value f q x)

  -- polynomials with a zero difference have the same values
  pub same-values : (p q : List F) (x : F) → Zero f (less f (polynomials f) p q) → value f p x ≡ value f q x
  same-values p q x z = equal_of_less f (value f p x) (value f q x) (sym (value-less p q x) ∙ zero-value (less f (polynomials f) p q) x z)
