-- What a cell holds, and the increments of a run.
use Rattle.std.proofs.Common.{◌≡◌, ◌≢◌, ℕ, zero, suc, ◌<◌, cond, eqb, sym, refl, ap, ◌∙◌, ap₂, arith, eq-eqb, ne_eqb}
use native.Mathlib.Decide.{ℕ_discrete}
use Rattle.fields.specs.Fields.{FieldOf}
use Rattle.tables.specs.Run.{cell}

module _ {F : Type 0} (f : FieldOf F) where
  pub cell_cong : (w w' : ℕ → ℕ) (v v' : ℕ → F) (a j : ℕ) → ((i : ℕ) → i < j → w i ≡ w' i) → ((i : ℕ) → i < j → v i ≡ v' i) → cell f w v a j ≡ cell f w' v' a j
  cell_cong w w' v v' a zero ew ev = refl
  cell_cong w w' v v' a (suc j) ew ev =
      let b = cell_cong w w' v v' a j (λ i h. ew i (omega arith)) (λ i h. ev i (omega arith)) in
      ap₂ (λ (z : ℕ) x. cond (eqb a z) x (cell f w v a j)) (ew j (omega arith)) (ev j (omega arith)) ∙ ap (cond (eqb a (w' j)) (v' j)) b

  module _ (w : ℕ → ℕ) (v : ℕ → F) (a : ℕ) where
    -- never written
    pub cell-unwritten : (n : ℕ) → ((k : ℕ) → k < n → w k ≢ a) → cell f w v a n ≡ f.zero
    cell-unwritten zero h = refl
    cell-unwritten (suc n) h =
        ap (λ b. cond b (v n) (cell f w v a n)) (ne_eqb a (w n) (λ e. h n (omega arith) (sym e))) ∙ cell-unwritten n (λ k b. h k (omega arith))

    -- last written in cycle j
    pub cell-written : (n j : ℕ) → j < n → w j ≡ a → ((k : ℕ) → j < k → k < n → w k ≢ a) → cell f w v a n ≡ v j
    cell-written zero j b e h = absurd (omega arith)
    cell-written (suc n) j b e h = elim (ℕ_discrete j n) [
      | yes q ↦ ap (λ x. cond x (v n) (cell f w v a n)) (eq-eqb a (w n) (sym e ∙ ap w q)) ∙ ap v (sym q)
      | no q ↦
          ap (λ x. cond x (v n) (cell f w v a n)) (ne_eqb a (w n) (λ p. h n (omega arith) (omega arith) (sym p)))
          ∙ cell-written n j (omega arith) e (λ k above below. h k above (omega arith))
    ]
