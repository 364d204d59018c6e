-- Val by halves of the increments: of the cells, then of the cycles of a cell.
use Rattle.std.proofs.Common.{◌≡◌, ℕ, zero, suc, ◌+◌, ◌/◌, ◌^◌, List, [], ◌∷◌, ◌++◌, length, sym, refl, ap, ◌∙◌, ap₂, map-id, add_assoc, zero-add, arith, length-append}
use mathlib.Core.Path.{fun_ext}
use native.Mathlib.Nat.{two-pow-succ}
use Rattle.std.proofs.lemmas.List.{nil_from_length}
use Rattle.fields.specs.Fields.{FieldOf, elements}
use Rattle.fields.specs.Laws.Derived.{add_swap, mul-zero}
use Rattle.fields.specs.Laws.Solve.{con, ◌⊕◌, ◌⊖◌, ◌⊗◌, ◌≐◌, solve2, solve3, solve4}
use Rattle.tables.specs.Formulas.{from_one, lt, between, cube_sum, extension}
use Rattle.tables.specs.Sizes.{k}
use Rattle.tables.specs.Tables.{entry}
use Rattle.tables.specs.declared.size.Sizes.{Sizes}
use Rattle.tables.proofs.Cube.{Corner, none, low, high, sum_cong, sum_scale}
use Rattle.tables.proofs.Extension.{ext_none, ext_halves}
use Rattle.stages.specs.Formulas.{val_value}

-- half of a count of 2^n, for a point of n elements and the point without its first
pub halved : {A : Type 0} (p q : List A) (x : A) (count : ℕ) → p ≡ x ∷ q → count ≡ 2 ^ length p → (count / 2 ≡ 2 ^ length q) × (count / 2 + count / 2 ≡ count)
halved p q x count s h =
    let e : count ≡ 2 ^ length q + 2 ^ length q = h ∙ ap (λ z. 2 ^ length z) s ∙ two-pow-succ (length q) in (omega arith, omega arith)

-- entries from a place on
abbrev pub from : {A : Type 0} → (ℕ → A) → ℕ → ℕ → A
from e start i = e (start + i)

from_half : {A : Type 0} (e : ℕ → A) (start half n : ℕ) → half ≡ 2 ^ n → from e (start + half) ≡ (λ i. from e start (2 ^ n + i))
from_half e start half n h = fun_ext (λ i. ap e (add_assoc start half i ∙ ap (λ (z : ℕ). start + (z + i)) h))

module _ {F : Type 0} (f : FieldOf F) where
  abbrev sum : ℕ → (ℕ → List F → F) → F
  sum = cube_sum f (elements f)

  abbrev ext : ℕ → (ℕ → F) → List F → F
  ext = extension f (elements f)

  abbrev lt_of : List F → List F → F
  lt_of = lt f (elements f)

  sum-add : (n : ℕ) (g h : ℕ → List F → F) → sum n (λ i b. f.add (g i b) (h i b)) ≡ f.add (sum n g) (sum n h)
  sum-add zero g h = refl
  sum-add (suc n) g h =
      ap₂ f.add (sum-add n (λ i b. g i (f.zero ∷ b)) (λ i b. h i (f.zero ∷ b)))
      (sum-add n (λ i b. g (2 ^ n + i) (f.one ∷ b)) (λ i b. h (2 ^ n + i) (f.one ∷ b)))
      ∙ add_swap f
      (sum n (λ i b. g i (f.zero ∷ b))) (sum n (λ i b. h i (f.zero ∷ b)))
      (sum n (λ i b. g (2 ^ n + i) (f.one ∷ b))) (sum n (λ i b. h (2 ^ n + i) (f.one ∷ b)))

  -- of terms that are x times one and y times another
  sum_combine : (n : ℕ) (x y : F) (g h : ℕ → List F → F)
      → sum n (λ i b. f.add (f.mul x (g i b)) (f.mul y (h i b))) ≡ f.add (f.mul x (sum n g)) (f.mul y (sum n h))
  sum_combine n x y g h =
      sum-add n (λ i b. f.mul x (g i b)) (λ i b. f.mul y (h i b)) ∙ ap₂ f.add (sum_scale f n x g) (sum_scale f n y h)

  -- at a corner the extension is the entry there
  ext-at-corner : {n i : ℕ} {b : List F} (e : ℕ → F) → Corner f n i b → ext n e b ≡ e i
  ext-at-corner e none = ext_none f e []
  ext-at-corner e (low {n} {i} {b} c) =
      ext_halves f n e f.zero b
      ∙ solve2 f (λ u v. (con 1 ⊖ con 0) ⊗ u ⊕ con 0 ⊗ v ≐ u) tt (ext n e b) (ext n (λ j. e (2 ^ n + j)) b)
      ∙ ext-at-corner e c
  ext-at-corner e (high {n} {i} {b} c) =
      ext_halves f n e f.one b
      ∙ solve2 f (λ u v. (con 1 ⊖ con 1) ⊗ u ⊕ con 1 ⊗ v ≐ v) tt (ext n e b) (ext n (λ j. e (2 ^ n + j)) b)
      ∙ ext-at-corner (λ j. e (2 ^ n + j)) c

  -- the increments of a cell added up
  abbrev pub all : (ℕ → F) → List F → F
  all e j = sum (length j) (λ i b. e i)

  -- the same, each times LT of its cycle and j
  abbrev pub before : (ℕ → F) → List F → F
  before e j = sum (length j) (λ i b. f.mul (e i) (lt_of b j))

  -- the extension of all increments at the address a and each cycle, times LT of the cycle and j, added up
  abbrev pub value : (ℕ → F) → List F → List F → F
  value e a j = sum (length j) (λ i b. f.mul (ext (length (a ++ j)) e (a ++ b)) (lt_of b j))

  -- by the first bit of the cycle
  before_by_first : (e : ℕ → F) (x : F) (j : List F)
      → f.add (before e j) (f.mul x (f.add (f.add (all e j) (before (λ i. e (2 ^ length j + i)) j)) (f.neg (before e j)))) ≡ before e (x ∷ j)
  before_by_first e x j =
      solve4 f (λ x s l h. l ⊕ x ⊗ (s ⊕ h ⊖ l) ≐ (x ⊗ s ⊕ (con 1 ⊖ x) ⊗ l) ⊕ x ⊗ h) tt x (all e j) (before e j) (before upper j)
      ∙ sym (ap₂ f.add low_half high_half)
    where
      n : ℕ
      n = length j

      upper : ℕ → F
      upper i = e (2 ^ n + i)

      low_half : sum n (λ i b. f.mul (e i) (lt_of (f.zero ∷ b) (x ∷ j))) ≡ f.add (f.mul x (all e j)) (f.mul (from_one f (elements f) x) (before e j))
      low_half =
          sum_cong f n (λ i b. f.mul (e i) (lt_of (f.zero ∷ b) (x ∷ j))) (λ i b. f.add (f.mul x (e i)) (f.mul (from_one f (elements f) x) (f.mul (e i) (lt_of b j))))
          (λ i b c. solve3 f (λ a x w. a ⊗ ((con 1 ⊖ con 0) ⊗ x ⊕ (con 0 ⊗ x ⊕ (con 1 ⊖ con 0) ⊗ (con 1 ⊖ x)) ⊗ w) ≐ x ⊗ a ⊕ (con 1 ⊖ x) ⊗ (a ⊗ w)) tt (e i) x (lt_of b j))
          ∙ sum_combine n x (from_one f (elements f) x) (λ i b. e i) (λ i b. f.mul (e i) (lt_of b j))

      high_half : sum n (λ i b. f.mul (upper i) (lt_of (f.one ∷ b) (x ∷ j))) ≡ f.mul x (before upper j)
      high_half =
          sum_cong f n (λ i b. f.mul (upper i) (lt_of (f.one ∷ b) (x ∷ j))) (λ i b. f.mul x (f.mul (upper i) (lt_of b j)))
          (λ i b c. solve3 f (λ a x w. a ⊗ ((con 1 ⊖ con 1) ⊗ x ⊕ (con 1 ⊗ x ⊕ (con 1 ⊖ con 1) ⊗ (con 1 ⊖ x)) ⊗ w) ≐ x ⊗ (a ⊗ w)) tt (upper i) x (lt_of b j))
          ∙ sum_scale f n x (λ i b. f.mul (upper i) (lt_of b j))

  -- by the first bit of the address
  value_by_first : (e : ℕ → F) (x : F) (a j : List F)
      → f.add (value e a j) (f.mul x (f.add (value (λ i. e (2 ^ length (a ++ j) + i)) a j) (f.neg (value e a j)))) ≡ value e (x ∷ a) j
  value_by_first e x a j =
      solve3 f (λ x l h. l ⊕ x ⊗ (h ⊖ l) ≐ (con 1 ⊖ x) ⊗ l ⊕ x ⊗ h) tt x (value e a j) (value upper a j)
      ∙ sym (sum_cong f (length j) (λ i b. f.mul (ext (suc n) e (x ∷ (a ++ b))) (lt_of b j))
      (λ i b. f.add (f.mul (from_one f (elements f) x) (f.mul (ext n e (a ++ b)) (lt_of b j))) (f.mul x (f.mul (ext n upper (a ++ b)) (lt_of b j))))
      (λ i b c. ap (λ z. f.mul z (lt_of b j)) (ext_halves f n e x (a ++ b)) ∙ split (ext n e (a ++ b)) (ext n upper (a ++ b)) (lt_of b j))
      ∙ sum_combine (length j) (from_one f (elements f) x) x (λ i b. f.mul (ext n e (a ++ b)) (lt_of b j)) (λ i b. f.mul (ext n upper (a ++ b)) (lt_of b j)))
    where
      n : ℕ
      n = length (a ++ j)

      upper : ℕ → F
      upper i = e (2 ^ n + i)

      split : (u v w : F) → f.mul (between f (elements f) x u v) w ≡ f.add (f.mul (from_one f (elements f) x) (f.mul u w)) (f.mul x (f.mul v w))
      split u v w = solve4 f (λ x u v w. ((con 1 ⊖ x) ⊗ u ⊕ x ⊗ v) ⊗ w ≐ (con 1 ⊖ x) ⊗ (u ⊗ w) ⊕ x ⊗ (v ⊗ w)) tt x u v w

  -- over one increment
  pub all_of_one : (e : ℕ → F) (j : List F) → length j ≡ 0 → e 0 ≡ all e j
  all_of_one e j h = ap (all e) (sym (nil_from_length j h))

  pub before_of_one : (e : ℕ → F) (j : List F) → length j ≡ 0 → f.zero ≡ before e j
  before_of_one e j h = sym (mul-zero f (e 0)) ∙ ap (before e) (sym (nil_from_length j h))

  -- over one cell
  pub value_of_cell : (e : ℕ → F) (a j : List F) → length a ≡ 0 → before e j ≡ value e a j
  value_of_cell e a j h =
      sum_cong f (length j) (λ i b. f.mul (e i) (lt_of b j)) (λ i b. f.mul (ext (length j) e b) (lt_of b j))
      (λ i b c. ap (λ z. f.mul z (lt_of b j)) (sym (ext-at-corner e c)))
      ∙ ap (λ z. value e z j) (sym (nil_from_length a h))

  -- over all cells
  pub value_of_memory : (s : Sizes) (es a j : List F) → length a ≡ k s → length j ≡ s.t → value (from (entry f es) 0) a j ≡ val_value f s (elements f) es a j
  value_of_memory s es a j ha hj =
      let e = entry f es in
      ap (λ (u : ℕ → F). value u a j) (fun_ext (λ i. ap e (zero-add i)))
      ∙ ap₂ (λ (n m : ℕ). sum n (λ i b. f.mul (ext m e (a ++ b)) (lt_of b j))) hj (length-append a j ∙ ap₂ ◌+◌ ha hj)
      ∙ sum_cong f s.t _ _ (λ i b c. ap (λ z. f.mul (ext (k s + s.t) e (a ++ z)) (lt_of z j)) (sym (map-id b)))

  -- from the halves of the entries after a place
  module _ (e : ℕ → F) (start half : ℕ) (x : F) where
    pub all_halves : (p q : List F) → p ≡ x ∷ q → half ≡ 2 ^ length q
        → f.add (all (from e start) q) (all (from e (start + half)) q) ≡ all (from e start) p
    all_halves p q s h =
        ap (λ (u : ℕ → F). f.add (all (from e start) q) (all u q)) (from_half e start half (length q) h) ∙ ap (all (from e start)) (sym s)

    pub before_halves : (p q : List F) → p ≡ x ∷ q → half ≡ 2 ^ length q
        → f.add (before (from e start) q) (f.mul x (f.add (f.add (all (from e start) q) (before (from e (start + half)) q)) (f.neg (before (from e start) q)))) ≡ before (from e start) p
    before_halves p q s h =
        let l = before (from e start) q in
        ap (λ (u : ℕ → F). f.add l (f.mul x (f.add (f.add (all (from e start) q) (before u q)) (f.neg l)))) (from_half e start half (length q) h)
        ∙ before_by_first (from e start) x q
        ∙ ap (before (from e start)) (sym s)

    pub value_halves : (p q j : List F) → p ≡ x ∷ q → half ≡ 2 ^ length (q ++ j)
        → f.add (value (from e start) q j) (f.mul x (f.add (value (from e (start + half)) q j) (f.neg (value (from e start) q j)))) ≡ value (from e start) p j
    value_halves p q j s h =
        let l = value (from e start) q j in
        ap (λ (u : ℕ → F). f.add l (f.mul x (f.add (value u q j) (f.neg l)))) (from_half e start half (length (q ++ j)) h)
        ∙ value_by_first (from e start) x q j
        ∙ ap (λ z. value (from e start) z j) (sym s)
