-- Sums over the numbers below a bound.
use Rattle.std.proofs.Common.{◌≡◌, ℕ, zero, suc, ◌+◌, ◌*◌, ◌<◌, cond, eqb, sym, refl, ap, ◌∙◌, ap₂, suc-mul, zero-mul as nat_zero-mul, arith, eq-eqb, ne_eqb}
use native.Mathlib.Decide.{ℕ_discrete}
use Rattle.fields.specs.Fields.{FieldOf}
use Rattle.fields.specs.Laws.Derived.{zero-add}
use Rattle.fields.specs.Laws.Solve.{◌⊕◌, ◌≐◌, solve4}
use Rattle.tables.specs.Sums.{sum_below}

module _ {F : Type 0} (f : FieldOf F) where
  pub below-add : (n m : ℕ) (g : ℕ → F) → sum_below f (n + m) g ≡ f.add (sum_below f n g) (sum_below f m (λ i. g (n + i)))
  below-add n zero g = ap (λ (z : ℕ). sum_below f z g) (omega arith) ∙ sym (f.add-zero (sum_below f n g))
  below-add n (suc m) g =
      let e : n + suc m ≡ suc (n + m) = omega arith in
      ap (λ (z : ℕ). sum_below f z g) e
      ∙ ap (λ z. f.add z (g (n + m))) (below-add n m g)
      ∙ f.add_assoc (sum_below f n g) (sum_below f m (λ i. g (n + i))) (g (n + m))

  pub below_cong : (n : ℕ) (g h : ℕ → F) → ((i : ℕ) → i < n → g i ≡ h i) → sum_below f n g ≡ sum_below f n h
  below_cong zero g h e = refl
  below_cong (suc n) g h e = ap₂ f.add (below_cong n g h (λ i k. e i (omega arith))) (e n (omega arith))

  pub below-zero : (n : ℕ) → sum_below f n (λ i. f.zero) ≡ f.zero
  below-zero zero = refl
  below-zero (suc n) = f.add-zero (sum_below f n (λ i. f.zero)) ∙ below-zero n

  pub below-plus : (n : ℕ) (g h : ℕ → F) → sum_below f n (λ i. f.add (g i) (h i)) ≡ f.add (sum_below f n g) (sum_below f n h)
  below-plus zero g h = sym (f.add-zero f.zero)
  below-plus (suc n) g h =
      ap (λ z. f.add z (f.add (g n) (h n))) (below-plus n g h)
      ∙ solve4 f (λ a b c d. a ⊕ b ⊕ (c ⊕ d) ≐ a ⊕ c ⊕ (b ⊕ d)) tt (sum_below f n g) (sum_below f n h) (g n) (h n)

  pub below_swap : (n m : ℕ) (g : ℕ → ℕ → F) → sum_below f n (λ i. sum_below f m (g i)) ≡ sum_below f m (λ j. sum_below f n (λ i. g i j))
  below_swap zero m g = sym (below-zero m)
  below_swap (suc n) m g =
      ap (λ z. f.add z (sum_below f m (g n))) (below_swap n m g) ∙ sym (below-plus m (λ j. sum_below f n (λ i. g i j)) (g n))

  -- rows of m, one after another
  pub below_rows : (n m : ℕ) (g : ℕ → F) → sum_below f (n * m) g ≡ sum_below f n (λ a. sum_below f m (λ j. g (a * m + j)))
  below_rows zero m g = ap (λ (z : ℕ). sum_below f z g) (nat_zero-mul m)
  below_rows (suc n) m g =
      ap (λ (z : ℕ). sum_below f z g) (suc-mul n m)
      ∙ below-add (n * m) m g
      ∙ ap (λ z. f.add z (sum_below f m (λ j. g (n * m + j)))) (below_rows n m g)

  -- of terms that are zero but at one place, that one is left
  pub below_single : (n h : ℕ) (g : ℕ → F) → h < n → sum_below f n (λ a. cond (eqb h a) (g a) f.zero) ≡ g h
  below_single zero h g s = absurd (omega arith)
  below_single (suc n) h g s = elim (ℕ_discrete h n) [
    | yes e ↦
        ap₂ f.add
        (below_cong n (λ a. cond (eqb h a) (g a) f.zero) (λ a. f.zero) (λ a k. ap (λ b. cond b (g a) f.zero) (ne_eqb h a (λ z. omega arith))) ∙ below-zero n)
        (ap (λ b. cond b (g n) f.zero) (eq-eqb h n e))
        ∙ zero-add f (g n)
        ∙ ap g (sym e)
    | no e ↦
        ap₂ f.add (below_single n h g (omega arith)) (ap (λ b. cond b (g n) f.zero) (ne_eqb h n e)) ∙ f.add-zero (g h)
  ]
