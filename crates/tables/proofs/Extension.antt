-- The multilinear extension over the elements of a field: by its first variable, and as a flat sum.
use Rattle.std.proofs.Common.{◌≡◌, ℕ, suc, ◌+◌, ◌^◌, ◌<◌, List, ◌∷◌, map, ap, ◌∙◌, ap₂, map-id}
use Rattle.fields.specs.Fields.{FieldOf, elements}
use Rattle.fields.specs.Laws.Solve.{con, ◌⊕◌, ◌⊖◌, ◌⊗◌, ◌≐◌, solve3}
use Rattle.tables.specs.Formulas.{eq, from_one, between, cube_sum, extension}
use Rattle.tables.specs.Sums.{extension_sum}
use Rattle.tables.proofs.Cube.{corner_below, sum_cong, sum_scale, sum_flat}

module _ {F : Type 0} (f : FieldOf F) where
  abbrev ext : ℕ → (ℕ → F) → List F → F
  ext = extension f (elements f)

  abbrev weight : List F → List F → F
  weight b p = eq f (elements f) (map (λ x. x) b) p

  pub ext_cong : (n : ℕ) (e h : ℕ → F) (p : List F) → ((i : ℕ) → i < 2 ^ n → e i ≡ h i) → ext n e p ≡ ext n h p
  ext_cong n e h p s =
      sum_cong f n (λ i b. f.mul (e i) (weight b p)) (λ i b. f.mul (h i) (weight b p)) (λ i b c. ap (λ z. f.mul z (weight b p)) (s i (corner_below c)))

  pub ext_none : (e : ℕ → F) (p : List F) → ext 0 e p ≡ e 0
  ext_none e p = f.mul-one (e 0)

  -- at its first variable the extension is the line between those of the two halves
  pub ext_halves : (n : ℕ) (e : ℕ → F) (x : F) (p : List F) → ext (suc n) e (x ∷ p) ≡ between f (elements f) x (ext n e p) (ext n (λ i. e (2 ^ n + i)) p)
  ext_halves n e x p = ap₂ f.add lower upper
    where
      at_zero : (a w : F) → f.mul a (f.mul (f.add (f.mul f.zero x) (f.mul (from_one f (elements f) f.zero) (from_one f (elements f) x))) w) ≡ f.mul (from_one f (elements f) x) (f.mul a w)
      at_zero a w = solve3 f (λ a x w. a ⊗ ((con 0 ⊗ x ⊕ (con 1 ⊖ con 0) ⊗ (con 1 ⊖ x)) ⊗ w) ≐ (con 1 ⊖ x) ⊗ (a ⊗ w)) tt a x w

      at_one : (a w : F) → f.mul a (f.mul (f.add (f.mul f.one x) (f.mul (from_one f (elements f) f.one) (from_one f (elements f) x))) w) ≡ f.mul x (f.mul a w)
      at_one a w = solve3 f (λ a x w. a ⊗ ((con 1 ⊗ x ⊕ (con 1 ⊖ con 1) ⊗ (con 1 ⊖ x)) ⊗ w) ≐ x ⊗ (a ⊗ w)) tt a x w

      lower : cube_sum f (elements f) n (λ i b. f.mul (e i) (weight (f.zero ∷ b) (x ∷ p))) ≡ f.mul (from_one f (elements f) x) (ext n e p)
      lower =
          sum_cong f n (λ i b. f.mul (e i) (weight (f.zero ∷ b) (x ∷ p))) (λ i b. f.mul (from_one f (elements f) x) (f.mul (e i) (weight b p)))
          (λ i b c. at_zero (e i) (weight b p))
          ∙ sum_scale f n (from_one f (elements f) x) (λ i b. f.mul (e i) (weight b p))

      upper : cube_sum f (elements f) n (λ i b. f.mul (e (2 ^ n + i)) (weight (f.one ∷ b) (x ∷ p))) ≡ f.mul x (ext n (λ i. e (2 ^ n + i)) p)
      upper =
          sum_cong f n (λ i b. f.mul (e (2 ^ n + i)) (weight (f.one ∷ b) (x ∷ p))) (λ i b. f.mul x (f.mul (e (2 ^ n + i)) (weight b p)))
          (λ i b c. at_one (e (2 ^ n + i)) (weight b p))
          ∙ sum_scale f n x (λ i b. f.mul (e (2 ^ n + i)) (weight b p))

  pub ext_flat : (n : ℕ) (e : ℕ → F) (p : List F) → ext n e p ≡ extension_sum f n e p
  ext_flat n e p =
      sum_cong f n (λ i b. f.mul (e i) (weight b p)) (λ i b. f.mul (e i) (eq f (elements f) b p)) (λ i b c. ap (λ z. f.mul (e i) (eq f (elements f) z p)) (map-id b))
      ∙ sum_flat f n (λ i b. f.mul (e i) (eq f (elements f) b p))
