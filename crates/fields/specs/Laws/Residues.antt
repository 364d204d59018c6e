-- The residues modulo p: a commutative ring for every p above one, and a field where p is a prime.
use Rattle.std.specs.Prelude.{◌≡◌, ℕ, zero, suc, ◌+◌, ◌-◌, ◌*◌, ◌%◌, ◌<◌, ◌≤◌, ◌⊎◌, ◌≢◌}
use Rattle.std.proofs.Math.Path.{PathP}
use Rattle.std.proofs.Common.{sym, ap, ◌∙◌, inl, inr, ⊎_elim, mod-lt, mod-eq_of_lt, add_comm, add_assoc, add-zero, mul_comm, mul_assoc, mul-one, mul-add, le_of_lt, add-sub_of_le, add-one, arith}
use mathlib.Core.HLevel.{is_prop→PathP}
use Rattle.std.proofs.Math.Nat.{mod_self, mod-add-mod, add-mod-mod, zero-mod}
use Rattle.std.proofs.Math.Bridge.{le_prop}
use Rattle.fields.specs.Fields.{FieldOf, ones_of, most_ones}
use Rattle.fields.specs.Laws.Primes.{Prime}
use Rattle.std.proofs.lemmas.Nat.{mul-mod_first, mul-mod_second}
use Rattle.fields.specs.Laws.Modular.{euclid}
use Rattle.fields.specs.Laws.Squares.{SquaresApart, squares_apart}

-- C holds the numbers below p, each once
pub record Residues (C : Type 0) (p : ℕ) : Type 0 where
  pub value : C → ℕ
  pub below : (a : C) → value a < p
  pub make : (n : ℕ) → n < p → C
  pub value_make : (n : ℕ) (h : n < p) → value (make n h) ≡ n
  pub same : (a b : C) → value a ≡ value b → a ≡ b

-- facts that equal numbers are below p are equal
pub below_path : {m n p : ℕ} (e : m ≡ n) (a : m < p) (b : n < p) → PathP (λ i. e i < p) a b
below_path {p = p} e a b = is_prop→PathP (λ i. e i < p) (λ i. le_prop) a b

module _ {C : Type 0} {p : ℕ} (c : Residues C p) (positive : 0 < p) where
  open c use {value, below, make, value_make, same}

  -- the residue of n
  abbrev pub residue : ℕ → C
  residue n = make (n % p) (mod-lt n positive)

  -- sums, products and negatives are residues of those of the values
  abbrev pub sum : C → C → C
  sum a b = residue (value a + value b)

  abbrev pub product : C → C → C
  product a b = residue (value a * value b)

  abbrev pub negative : C → C
  negative a = residue (p - value a)

  pub value-residue : (n : ℕ) → value (residue n) ≡ n % p
  value-residue n = value_make (n % p) (mod-lt n positive)

  residue_equal : (m n : ℕ) → m % p ≡ n % p → residue m ≡ residue n
  residue_equal m n h = same (residue m) (residue n) (value-residue m ∙ h ∙ sym (value-residue n))

  residue-value : (a : C) → residue (value a) ≡ a
  residue-value a = same (residue (value a)) a (value-residue (value a) ∙ mod-eq_of_lt (below a))

  pub value-zero : value (residue 0) ≡ 0
  value-zero = value-residue 0 ∙ zero-mod p

  pub sum_comm : (a b : C) → sum a b ≡ sum b a
  sum_comm a b = ap residue (add_comm (value a) (value b))

  pub sum_assoc : (a b d : C) → sum (sum a b) d ≡ sum a (sum b d)
  sum_assoc a b d = residue_equal (value (sum a b) + value d) (value a + value (sum b d)) (simp (value-residue, mod-add-mod, add-mod-mod, add_assoc))

  pub sum-zero : (a : C) → sum a (residue 0) ≡ a
  sum-zero a = ap residue (ap (λ (n : ℕ). value a + n) value-zero ∙ add-zero (value a)) ∙ residue-value a

  pub sum-negative : (a : C) → sum a (negative a) ≡ residue 0
  sum-negative a =
      let within : value a ≤ p = le_of_lt (below a) in
      residue_equal (value a + value (negative a)) 0 (simp (value-residue, add-mod-mod, add-sub_of_le, mod_self, zero-mod))

  pub product_comm : (a b : C) → product a b ≡ product b a
  product_comm a b = ap residue (mul_comm (value a) (value b))

  pub product_assoc : (a b d : C) → product (product a b) d ≡ product a (product b d)
  product_assoc a b d =
      residue_equal (value (product a b) * value d) (value a * value (product b d)) (simp (value-residue, mul-mod_first, mul-mod_second, mul_assoc))

  pub product-one : (a : C) → product a (residue 1) ≡ a
  product-one a = residue_equal (value a * value (residue 1)) (value a) (simp (value-residue, mul-mod_second, mul-one)) ∙ residue-value a

  pub product-sum : (a b d : C) → product a (sum b d) ≡ sum (product a b) (product a d)
  product-sum a b d =
      residue_equal (value a * value (sum b d)) (value (product a b) + value (product a d)) (simp (value-residue, mul-mod_second, mod-add-mod, add-mod-mod, mul-add))

  -- a difference may be reduced once
  pub residue_difference : (a b : C) → residue (value a + (p - value b)) ≡ sum a (negative b)
  residue_difference a b = residue_equal (value a + (p - value b)) (value a + value (negative b)) (simp (value-residue, add-mod-mod))

  -- a residue whose value is a multiple is zero
  zero_of_multiple : (a : C) → value a % p ≡ 0 → a ≡ residue 0
  zero_of_multiple a h = sym (residue-value a) ∙ residue_equal (value a) 0 (h ∙ sym (zero-mod p))

  -- a number whose residue is zero is a multiple
  multiple_of_zero : (n : ℕ) → residue n ≡ residue 0 → n % p ≡ 0
  multiple_of_zero n h = sym (value-residue n) ∙ ap value h ∙ value-zero

  value-ones : (n : ℕ) → value (ones_of (residue 0) (residue 1) sum n) ≡ n % p
  value-ones zero = value-residue 0
  value-ones (suc n) =
      value-residue (value (ones_of (residue 0) (residue 1) sum n) + value (residue 1))
      ∙ ap (λ (m : ℕ). (m + value (residue 1)) % p) (value-ones n)
      ∙ simp (value-residue, mod-add-mod, add-mod-mod, add-one)

  pub ones_apart : most_ones < p → (n : ℕ) → 0 < n → n ≤ most_ones → ones_of (residue 0) (residue 1) sum n ≢ residue 0
  ones_apart long n pos few h =
      let m : n % p ≡ n = mod-eq_of_lt (omega arith) in
      omega (arith, sym (value-ones n) ∙ ap value h ∙ value-zero)

  pub product-zero : Prime p → (a b : C) → product a b ≡ residue 0 → (a ≡ residue 0) ⊎ (b ≡ residue 0)
  product-zero prime a b h =
      ⊎_elim
      (λ e. inl (zero_of_multiple a e))
      (λ e. inr (zero_of_multiple b e))
      (euclid p prime (value a) (value b) (multiple_of_zero (value a * value b) h))

  squares_zero : Prime p → p % 4 ≡ 3 → (a b : C) → sum (product a a) (product b b) ≡ residue 0 → (a ≡ residue 0) × (b ≡ residue 0)
  squares_zero prime three a b h =
      let e : (value a * value a + value b * value b) % p ≡ 0 =
      sym (simp (value-residue, mod-add-mod, add-mod-mod)) ∙ multiple_of_zero (value (product a a) + value (product b b)) h in
      let z = squares_apart p prime three (value a) (value b) e in
      (zero_of_multiple a z.0, zero_of_multiple b z.1)

-- the field of the residues modulo a prime that is above the number of ones that may be added up
abbrev pub residue_field : {C : Type 0} {p : ℕ} → Residues C p → Prime p → most_ones < p → FieldOf C
residue_field {C} {p} c prime long =
    let positive : 0 < p = le_of_lt prime.above_one in
    record {
      order = p;
      meaning = c.value;
      element = residue c positive;
      zero = residue c positive 0;
      one = residue c positive 1;
      add = sum c positive;
      mul = product c positive;
      neg = negative c positive;
      meaning-below = c.below;
      meaning_injective = c.same;
      meaning-element = λ n h. value-residue c positive n ∙ mod-eq_of_lt h;
      meaning-zero = value-zero c positive;
      meaning-one = value-residue c positive 1 ∙ mod-eq_of_lt prime.above_one;
      add_comm = sum_comm c positive;
      add_assoc = sum_assoc c positive;
      add-zero = sum-zero c positive;
      add-neg = sum-negative c positive;
      mul_comm = product_comm c positive;
      mul_assoc = product_assoc c positive;
      mul-one = product-one c positive;
      mul-add = product-sum c positive;
      no_zero_divisors = product-zero c positive prime;
      ones_nonzero = ones_apart c positive long;
    }

-- in such a field minus one is not a square if the prime is 3 modulo 4
pub residue_squares_apart : {C : Type 0} {p : ℕ} (c : Residues C p) (prime : Prime p) (long : most_ones < p) → p % 4 ≡ 3 → SquaresApart (residue_field c prime long)
residue_squares_apart c prime long three = squares_zero c (le_of_lt prime.above_one) prime three
