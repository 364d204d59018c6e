-- Polynomials filled up with zeros to n coefficients, or cut to so many.
use Rattle.std.proofs.Common.{◌≡◌, ℕ, zero, suc, ◌≤◌, List, [], ◌∷◌, map, length, sym, refl, ap, ◌∙◌, ap₂, arith}
use Rattle.fields.specs.Fields.{FieldOf}
use Rattle.fields.specs.Laws.Derived.{zero-add, zero-mul}
use Rattle.fields.specs.Laws.Solve.{con, ⊝, ◌≐◌, solve1}
use Rattle.rounds.specs.Polynomials.{poly_add, poly_mul, value, padded}
use Rattle.rounds.specs.Padding.{Padding}
use Rattle.rounds.proofs.Values.{value-mul, value-padded}

module _ {F : Type 0} (f : FieldOf F) where
  pub neg-zero : f.neg f.zero ≡ f.zero
  neg-zero = solve1 f (λ x. ⊝ (con 0) ≐ con 0) tt f.zero

  plus_none : (p : List F) → poly_add f p [] ≡ p
  plus_none [] = refl
  plus_none (a ∷ p) = refl

  on_plus : (n : ℕ) (p q : List F) → padded f n (poly_add f p q) ≡ poly_add f (padded f n p) (padded f n q)
  on_plus zero p q = refl
  on_plus (suc n) [] [] = ap₂ ◌∷◌ (sym (f.add-zero f.zero)) (on_plus n [] [])
  on_plus (suc n) [] (b ∷ q) = ap₂ ◌∷◌ (sym (zero-add f b)) (on_plus n [] q)
  on_plus (suc n) (a ∷ p) [] = ap₂ ◌∷◌ (sym (f.add-zero a)) (ap (padded f n) (sym (plus_none p)) ∙ on_plus n p [])
  on_plus (suc n) (a ∷ p) (b ∷ q) = ap (λ s. f.add a b ∷ s) (on_plus n p q)

  on_minus : (n : ℕ) (p : List F) → padded f n (map f.neg p) ≡ map f.neg (padded f n p)
  on_minus zero p = refl
  on_minus (suc n) [] = ap₂ ◌∷◌ (sym neg-zero) (on_minus n [])
  on_minus (suc n) (a ∷ p) = ap (λ s. f.neg a ∷ s) (on_minus n p)

  zero-scaled : (n : ℕ) (p : List F) → padded f n (map (f.mul f.zero) p) ≡ padded f n []
  zero-scaled zero p = refl
  zero-scaled (suc n) [] = refl
  zero-scaled (suc n) (a ∷ p) = ap₂ ◌∷◌ (zero-mul f a) (zero-scaled n p)

  on_times : (n : ℕ) (p q : List F) → padded f n (poly_mul f p q) ≡ padded f n (poly_mul f (padded f n p) q)
  on_times zero p q = refl
  on_times (suc n) [] q =
      on_plus (suc n) [] []
      ∙ sym (on_plus (suc n) (map (f.mul f.zero) q) (f.zero ∷ poly_mul f (padded f n []) q)
      ∙ ap₂ (λ s t. poly_add f s (f.zero ∷ t)) (zero-scaled (suc n) q) (sym (on_times n [] q)))
  on_times (suc n) (a ∷ p) q =
      on_plus (suc n) (map (f.mul a) q) (f.zero ∷ poly_mul f p q)
      ∙ ap (λ s. poly_add f (padded f (suc n) (map (f.mul a) q)) (f.zero ∷ s)) (on_times n p q)
      ∙ sym (on_plus (suc n) (map (f.mul a) q) (f.zero ∷ poly_mul f (padded f n p) q))

  on_padded : (n m : ℕ) (p : List F) → n ≤ m → padded f n (padded f m p) ≡ padded f n p
  on_padded zero m p h = refl
  on_padded (suc n) zero p h = absurd (omega arith)
  on_padded (suc n) (suc m) [] h = ap (λ s. f.zero ∷ s) (on_padded n m [] (omega arith))
  on_padded (suc n) (suc m) (a ∷ p) h = ap (λ s. a ∷ s) (on_padded n m p (omega arith))

  pub padding : (n : ℕ) → Padding f n
  padding n = record {
    value_kept = λ p h x. value-padded f n p x h;
    on_plus = on_plus n;
    on_less = λ p q. on_plus n p (map f.neg q) ∙ ap (poly_add f (padded f n p)) (on_minus n q);
    on_times = on_times n;
    on_padded = λ m p. on_padded n m p;
  }

  -- the values of a product of which nothing is lost
  pub whole_product : (n : ℕ) (p q : List F) → length p ≤ n → length (poly_mul f p q) ≤ n
      → (x : F) → value f (padded f n (poly_mul f (padded f n p) q)) x ≡ f.mul (value f (padded f n p) x) (value f q x)
  whole_product n p q h k x =
      ap (λ s. value f s x) (sym (on_times n p q))
      ∙ value-padded f n (poly_mul f p q) x k
      ∙ value-mul f p q x
      ∙ ap (λ v. f.mul v (value f q x)) (sym (value-padded f n p x h))
