-- eq of the bits of a number and a point.
use Rattle.std.proofs.Common.{◌≡◌, ℕ, ◌/◌, ◌%◌, ◌^◌, List, [], ◌∷◌, ◌++◌, length, sym, ap, ◌∙◌, ap₂, arith, div-one, length-append, shr-shr}
use Rattle.fields.specs.Fields.{FieldOf, elements}
use Rattle.fields.specs.Laws.Derived.{one-mul}
use Rattle.fields.specs.Laws.Solve.{con, ◌⊕◌, ◌⊖◌, ◌⊗◌, ◌≐◌, solve1}
use Rattle.tables.specs.Formulas.{eq, eq_pair, from_one}
use Rattle.tables.specs.Sums.{bit, corner}

module _ {F : Type 0} (f : FieldOf F) where
  abbrev pub weight : ℕ → List F → F
  weight i p = eq f (elements f) (corner f (length p) i) p

  pub bit_one : (n : ℕ) (x : F) → n ≡ 1 → x ≡ eq_pair f (elements f) (bit f n) x
  bit_one n x h = solve1 f (λ x. x ≐ con 1 ⊗ x ⊕ (con 1 ⊖ con 1) ⊗ (con 1 ⊖ x)) tt x ∙ ap (λ (m : ℕ). eq_pair f (elements f) (bit f m) x) (sym h)

  pub bit_zero : (n : ℕ) (x : F) → n ≡ 0 → from_one f (elements f) x ≡ eq_pair f (elements f) (bit f n) x
  bit_zero n x h = solve1 f (λ x. con 1 ⊖ x ≐ con 0 ⊗ x ⊕ (con 1 ⊖ con 0) ⊗ (con 1 ⊖ x)) tt x ∙ ap (λ (m : ℕ). eq_pair f (elements f) (bit f m) x) (sym h)

  -- over a point in two parts: the upper bits meet the head, the lower ones the tail
  pub weight-joined : (head tail : List F) (number : ℕ) → f.mul (weight (number / 2 ^ length tail) head) (weight number tail) ≡ weight number (head ++ tail)
  weight-joined [] tail number = one-mul f (weight number tail)
  weight-joined (x ∷ head) tail number =
      let m = length head in
      let s : number / 2 ^ length tail / 2 ^ m ≡ number / 2 ^ length (head ++ tail) =
      shr-shr number (length tail) m ∙ ap (λ (z : ℕ). number / 2 ^ z) (omega (arith, length-append head tail)) in
      f.mul_assoc (eq_pair f (elements f) (bit f (number / 2 ^ length tail / 2 ^ m % 2)) x) (weight (number / 2 ^ length tail) head) (weight number tail)
      ∙ ap₂ (λ (z : ℕ) (w : F). f.mul (eq_pair f (elements f) (bit f (z % 2)) x) w) s (weight-joined head tail number)

  -- the last bit meets the last element
  pub weight_last : (p q : List F) (x : F) (number : ℕ) → q ≡ p ++ x ∷ [] → f.mul (weight (number / 2) p) (eq_pair f (elements f) (bit f (number % 2)) x) ≡ weight number q
  weight_last p q x number s =
      ap (f.mul (weight (number / 2) p)) (ap (λ (n : ℕ). eq_pair f (elements f) (bit f (n % 2)) x) (sym (div-one number)) ∙ sym (f.mul-one (eq_pair f (elements f) (bit f (number / 1 % 2)) x)))
      ∙ weight-joined p (x ∷ []) number
      ∙ ap (weight number) (sym s)
