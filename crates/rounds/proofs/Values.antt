-- The value of a sum, a product and a negative of polynomials.
use Rattle.std.proofs.Common.{◌≡◌, ℕ, zero, suc, ◌≤◌, List, [], ◌∷◌, map, length, reverse, sym, refl, ap, ◌∙◌, ap₂, arith}
use Rattle.std.specs.List.{fold}
use Rattle.fields.specs.Fields.{FieldOf, elements}
use Rattle.fields.specs.Laws.Derived.{mul_left_comm, zero-add, mul-zero, zero-mul}
use Rattle.fields.specs.Laws.Solve.{con, ◌⊕◌, ◌⊖◌, ◌⊗◌, ⊝, ◌≐◌, solve1, solve2, solve3, solve4, solve5}
use Rattle.tables.specs.Formulas.{between}
use Rattle.tables.specs.Sums.{sum_below}
use Rattle.rounds.specs.Polynomials.{poly_add, poly_mul, X, line, value, coefficient, power, power_sum, padded}

module _ {F : Type 0} (f : FieldOf F) where
  open f use {add, mul, neg}

  pub value-add : (p q : List F) (x : F) → value f (poly_add f p q) x ≡ add (value f p x) (value f q x)
  value-add [] q x = sym (zero-add f (value f q x))
  value-add (a ∷ p) [] x = sym (f.add-zero (value f (a ∷ p) x))
  value-add (a ∷ p) (b ∷ q) x =
      ap (λ z. add (add a b) (mul x z)) (value-add p q x)
      ∙ solve5 f (λ a b x p q. a ⊕ b ⊕ x ⊗ (p ⊕ q) ≐ (a ⊕ x ⊗ p) ⊕ (b ⊕ x ⊗ q)) tt a b x (value f p x) (value f q x)

  value_scale : (a : F) (q : List F) (x : F) → value f (map (mul a) q) x ≡ mul a (value f q x)
  value_scale a [] x = sym (mul-zero f a)
  value_scale a (b ∷ q) x =
      ap (λ z. add (mul a b) (mul x z)) (value_scale a q x)
      ∙ solve4 f (λ a b x q. a ⊗ b ⊕ x ⊗ (a ⊗ q) ≐ a ⊗ (b ⊕ x ⊗ q)) tt a b x (value f q x)

  pub value-mul : (p q : List F) (x : F) → value f (poly_mul f p q) x ≡ mul (value f p x) (value f q x)
  value-mul [] q x = sym (zero-mul f (value f q x))
  value-mul (a ∷ p) q x =
      value-add (map (mul a) q) (f.zero ∷ poly_mul f p q) x
      ∙ ap (λ z. add z (add f.zero (mul x (value f (poly_mul f p q) x)))) (value_scale a q x)
      ∙ ap (λ z. add (mul a (value f q x)) (add f.zero (mul x z))) (value-mul p q x)
      ∙ solve4 f (λ a x p q. a ⊗ q ⊕ (con 0 ⊕ x ⊗ (p ⊗ q)) ≐ (a ⊕ x ⊗ p) ⊗ q) tt a x (value f p x) (value f q x)

  pub value-neg : (p : List F) (x : F) → value f (map neg p) x ≡ neg (value f p x)
  value-neg [] x = solve1 f (λ x. con 0 ≐ ⊝ (con 0)) tt x
  value-neg (a ∷ p) x =
      ap (λ z. add (neg a) (mul x z)) (value-neg p x) ∙ solve3 f (λ a x p. ⊝ a ⊕ x ⊗ ⊝ p ≐ ⊝ (a ⊕ x ⊗ p)) tt a x (value f p x)

  pub value-const : (a x : F) → value f (a ∷ []) x ≡ a
  value-const = solve2 f (λ a x. a ⊕ x ⊗ con 0 ≐ a) tt

  pub value-X : (x : F) → value f (X f) x ≡ x
  value-X = solve1 f (λ x. con 0 ⊕ x ⊗ (con 1 ⊕ x ⊗ con 0) ≐ x) tt

  pub line-value : (low high x : F) → value f (line f low high) x ≡ between f (elements f) x low high
  line-value = solve3 f (λ a b x. a ⊕ x ⊗ ((b ⊖ a) ⊕ x ⊗ con 0) ≐ (con 1 ⊖ x) ⊗ a ⊕ x ⊗ b) tt

  -- zeros at the end do not change the value
  pub value-padded : (n : ℕ) (p : List F) (x : F) → length p ≤ n → value f (padded f n p) x ≡ value f p x
  value-padded zero [] x h = refl
  value-padded zero (a ∷ p) x h = absurd (omega arith)
  value-padded (suc n) [] x h = ap (λ z. add f.zero (mul x z)) (value-padded n [] x (omega arith)) ∙ solve1 f (λ x. con 0 ⊕ x ⊗ con 0 ≐ con 0) tt x
  value-padded (suc n) (a ∷ p) x h = ap (λ z. add a (mul x z)) (value-padded n p x (omega arith))

  -- a sum whose terms after the first are x times those of another
  sum_shifted : (n : ℕ) (g h : ℕ → F) (x : F) → ((i : ℕ) → h (suc i) ≡ mul x (g i)) → sum_below f (suc n) h ≡ add (h 0) (mul x (sum_below f n g))
  sum_shifted zero g h x e = solve2 f (λ a x. con 0 ⊕ a ≐ a ⊕ x ⊗ con 0) tt (h 0) x
  sum_shifted (suc n) g h x e =
      ap₂ add (sum_shifted n g h x e) (e n)
      ∙ solve4 f (λ a x s b. (a ⊕ x ⊗ s) ⊕ x ⊗ b ≐ a ⊕ x ⊗ (s ⊕ b)) tt (h 0) x (sum_below f n g) (g n)

  -- a step that takes in the coefficient before those that are done
  abbrev pub step : F → F → F → F
  step x sum a = add a (mul x sum)

  fold_reversed : (p done : List F) (x : F) → fold (step x) f.zero (fold (λ r a. a ∷ r) done p) ≡ fold (step x) (value f p x) done
  fold_reversed [] done x = refl
  fold_reversed (a ∷ p) done x = fold_reversed p (a ∷ done) x

  pub value_by_steps : (p : List F) (x : F) → fold (step x) f.zero (reverse p) ≡ value f p x
  value_by_steps p x = fold_reversed p [] x

  pub value_by_powers : (p : List F) (x : F) → value f p x ≡ power_sum f p x
  value_by_powers [] x = refl
  value_by_powers (a ∷ p) x =
      ap₂ (λ b v. add b (mul x v)) (sym (f.mul-one a)) (value_by_powers p x)
      ∙ sym (sum_shifted (length p) (λ i. mul (coefficient f p i) (power f x i)) (λ i. mul (coefficient f (a ∷ p) i) (power f x i)) x
      (λ i. mul_left_comm f (coefficient f p i) x (power f x i)))
