-- The extension of a one-hot table: the weights of the entries that are one, added up.
use Rattle.std.proofs.Common.{◌≡◌, ℕ, ◌+◌, ◌*◌, ◌/◌, ◌%◌, ◌^◌, ◌<◌, Bool, true, false, cond, eqb, List, ap, ◌∙◌, ap₂, pow-add}
use lib.Arith.{digits_div, digits_mod}
use Rattle.fields.specs.Fields.{FieldOf, elements}
use Rattle.fields.specs.Laws.Derived.{one-mul, zero-mul}
use Rattle.tables.specs.Formulas.{eq, extension}
use Rattle.tables.specs.Sums.{sum_below, corner}
use Rattle.tables.proofs.Sums.{below_cong, below_swap, below_rows, below_single}
use Rattle.tables.proofs.Extension.{ext_flat}

module _ {F : Type 0} (f : FieldOf F) where
  -- in row a of t bits each, the entry of column j is one if the column's row is a
  pub ext-one-hot : (c t : ℕ) (row : ℕ → ℕ) (p : List F) → ((j : ℕ) → row j < 2 ^ c)
      → extension f (elements f) (c + t) (λ x. cond (eqb (row (x % 2 ^ t)) (x / 2 ^ t)) f.one f.zero) p
      ≡ sum_below f (2 ^ t) (λ j. eq f (elements f) (corner f (c + t) (row j * 2 ^ t + j)) p)
  ext-one-hot c t row p below =
      ext_flat f (c + t) hot p
      ∙ ap (λ (z : ℕ). sum_below f z (λ x. f.mul (hot x) (w x))) (pow-add 2 c t)
      ∙ below_rows f (2 ^ c) (2 ^ t) (λ x. f.mul (hot x) (w x))
      ∙ below_cong f (2 ^ c) (λ a. sum_below f (2 ^ t) (λ j. f.mul (hot (a * 2 ^ t + j)) (w (a * 2 ^ t + j))))
      (λ a. sum_below f (2 ^ t) (λ j. picked a j)) (λ a h. below_cong f (2 ^ t) (λ j. f.mul (hot (a * 2 ^ t + j)) (w (a * 2 ^ t + j))) (picked a) (λ j k. at a j k))
      ∙ below_swap f (2 ^ c) (2 ^ t) picked
      ∙ below_cong f (2 ^ t) (λ j. sum_below f (2 ^ c) (λ a. picked a j)) (λ j. w (row j * 2 ^ t + j)) (λ j k. below_single f (2 ^ c) (row j) (λ a. w (a * 2 ^ t + j)) (below j))
    where
      hot : ℕ → F
      hot x = cond (eqb (row (x % 2 ^ t)) (x / 2 ^ t)) f.one f.zero

      w : ℕ → F
      w x = eq f (elements f) (corner f (c + t) x) p

      picked : ℕ → ℕ → F
      picked a j = cond (eqb (row j) a) (w (a * 2 ^ t + j)) f.zero

      weighed : (b : Bool) (z : F) → f.mul (cond b f.one f.zero) z ≡ cond b z f.zero
      weighed true z = one-mul f z
      weighed false z = zero-mul f z

      at : (a j : ℕ) → j < 2 ^ t → f.mul (hot (a * 2 ^ t + j)) (w (a * 2 ^ t + j)) ≡ picked a j
      at a j k =
          ap₂ (λ (r q : ℕ). f.mul (cond (eqb (row r) q) f.one f.zero) (w (a * 2 ^ t + j))) (digits_mod a k) (digits_div a k)
          ∙ weighed (eqb (row j) a) (w (a * 2 ^ t + j))
