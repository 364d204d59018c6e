-- Sums over the corners of a cube, over the elements of a field.
use Rattle.std.proofs.Common.{◌≡◌, ℕ, zero, suc, ◌+◌, ◌*◌, ◌%◌, ◌^◌, ◌<◌, List, [], ◌∷◌, sym, refl, ap, ◌∙◌, ap₂, mul_assoc, suc-mul, zero-mul, arith}
use native.Mathlib.Nat.{two-pow-succ, pow-succ'}
use lib.Arith.{digits_div}
use Rattle.fields.specs.Fields.{FieldOf, elements}
use Rattle.fields.specs.Laws.Derived.{zero-add}
use Rattle.tables.specs.Formulas.{cube_sum}
use Rattle.tables.specs.Sums.{sum_below, bit, corner}
use Rattle.tables.proofs.Sums.{below-add}

-- b is corner number i of the cube of n variables
pub data Corner {F : Type 0} (f : FieldOf F) : ℕ → ℕ → List F → Type 0 where
  none : Corner f 0 0 []
  low : {n i : ℕ} {b : List F} → Corner f n i b → Corner f (suc n) i (f.zero ∷ b)
  high : {n i : ℕ} {b : List F} → Corner f n i b → Corner f (suc n) (2 ^ n + i) (f.one ∷ b)

pub corner_below : {F : Type 0} {f : FieldOf F} {n i : ℕ} {b : List F} → Corner f n i b → i < 2 ^ n
corner_below none = omega arith
corner_below (low {n} h) = omega (arith, corner_below h, two-pow-succ n)
corner_below (high {n} h) = omega (arith, corner_below h, two-pow-succ n)

-- the bits of a number above do not matter
corner_bits_above : {F : Type 0} {f : FieldOf F} {n i : ℕ} {b : List F} → Corner f n i b → (q : ℕ) → corner f n (q * 2 ^ n + i) ≡ b
corner_bits_above none q = refl
corner_bits_above {f = f} (low {n} {i} {b} c) q =
    let s : q * 2 ^ suc n + i ≡ (q * 2) * 2 ^ n + i = ap (λ (z : ℕ). z + i) (ap (λ (z : ℕ). q * z) (pow-succ' 2 n) ∙ sym (mul_assoc q 2 (2 ^ n))) in
    ap (corner f (suc n)) s
    ∙ ap₂ ◌∷◌ (ap (λ (z : ℕ). bit f (z % 2)) (digits_div (q * 2) (corner_below c)) ∙ ap (bit f) (even q)) (corner_bits_above c (q * 2))
  where
    even : (q : ℕ) → q * 2 % 2 ≡ 0
    even q = omega arith
corner_bits_above {f = f} (high {n} {i} {b} c) q =
    let s : q * 2 ^ suc n + (2 ^ n + i) ≡ suc (q * 2) * 2 ^ n + i = omega (arith, ap (λ (z : ℕ). q * z) (pow-succ' 2 n), mul_assoc q 2 (2 ^ n), suc-mul (q * 2) (2 ^ n)) in
    ap (corner f (suc n)) s
    ∙ ap₂ ◌∷◌ (ap (λ (z : ℕ). bit f (z % 2)) (digits_div (suc (q * 2)) (corner_below c)) ∙ ap (bit f) (odd q)) (corner_bits_above c (suc (q * 2)))
  where
    odd : (q : ℕ) → suc (q * 2) % 2 ≡ 1
    odd q = omega arith

-- a corner is the bits of its number
pub corner_bits : {F : Type 0} {f : FieldOf F} {n i : ℕ} {b : List F} → Corner f n i b → corner f n i ≡ b
corner_bits {f = f} {n} {i} c = ap (corner f n) (omega (arith, zero-mul (2 ^ n))) ∙ corner_bits_above c 0

module _ {F : Type 0} (f : FieldOf F) where
  abbrev sum : ℕ → (ℕ → List F → F) → F
  sum = cube_sum f (elements f)

  pub sum_cong : (n : ℕ) (g h : ℕ → List F → F) → ((i : ℕ) (b : List F) → Corner f n i b → g i b ≡ h i b) → sum n g ≡ sum n h
  sum_cong zero g h e = e 0 [] none
  sum_cong (suc n) g h e =
      ap₂ f.add (sum_cong n (λ i b. g i (f.zero ∷ b)) (λ i b. h i (f.zero ∷ b)) (λ i b c. e i (f.zero ∷ b) (low c)))
      (sum_cong n (λ i b. g (2 ^ n + i) (f.one ∷ b)) (λ i b. h (2 ^ n + i) (f.one ∷ b)) (λ i b c. e (2 ^ n + i) (f.one ∷ b) (high c)))

  pub sum_scale : (n : ℕ) (x : F) (g : ℕ → List F → F) → sum n (λ i b. f.mul x (g i b)) ≡ f.mul x (sum n g)
  sum_scale zero x g = refl
  sum_scale (suc n) x g =
      ap₂ f.add (sum_scale n x (λ i b. g i (f.zero ∷ b))) (sum_scale n x (λ i b. g (2 ^ n + i) (f.one ∷ b)))
      ∙ sym (f.mul-add x (sum n (λ i b. g i (f.zero ∷ b))) (sum n (λ i b. g (2 ^ n + i) (f.one ∷ b))))

  by_numbers : (n : ℕ) (g : ℕ → F) → sum n (λ i b. g i) ≡ sum_below f (2 ^ n) g
  by_numbers zero g = sym (zero-add f (g 0))
  by_numbers (suc n) g =
      ap₂ f.add (by_numbers n g) (by_numbers n (λ i. g (2 ^ n + i)))
      ∙ sym (below-add f (2 ^ n) (2 ^ n) g)
      ∙ ap (λ (z : ℕ). sum_below f z g) (sym (two-pow-succ n))

  -- over the numbers of the corners
  pub sum_flat : (n : ℕ) (g : ℕ → List F → F) → sum n g ≡ sum_below f (2 ^ n) (λ i. g i (corner f n i))
  sum_flat n g = sum_cong n g (λ i b. g i (corner f n i)) (λ i b c. ap (g i) (sym (corner_bits c))) ∙ by_numbers n (λ i. g i (corner f n i))
