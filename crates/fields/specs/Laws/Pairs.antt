-- Pairs of elements of a field, multiplied as complex numbers: a field where two squares add up to zero only if both are zero.
use Rattle.std.specs.Prelude.{◌≡◌, ℕ, zero, suc, ◌+◌, ◌*◌, ◌/◌, ◌%◌, ◌<◌, ◌≤◌, ◌⊎◌, ◌≢◌, ◌==◌, ◌&&◌}
use Rattle.std.proofs.Common.{sym, ap, ap₂, ◌∙◌, inl, inr, add-mul, zero-mul as nat_zero-mul, mul-le-mul_right, div-lt_iff_lt-mul, mod-eq_of_lt, mod-lt, arith}
use Rattle.std.proofs.Math.Nat.{mod-add-div', add-mul-mod_self_right, add-mul-div_right, div-eq_of_lt}
use Rattle.std.proofs.lemmas.Bool.{and_parts, eqb-true, eq-eqb}
use Rattle.std.specs.Cmp.Derive.{one_truth, both_true}
use Rattle.fields.specs.Fields.{FieldOf, less, ones_of, most_ones}
use Rattle.fields.specs.Laws.Squares.{SquaresApart}
use Rattle.fields.specs.Laws.Solve.{con, ◌⊕◌, ◌⊖◌, ◌⊗◌, ◌≐◌, solve2, solve4, solve6}

-- C holds the pairs of elements of F, each once
pub record Pairs (C F : Type 0) : Type 0 where
  pub re : C → F
  pub im : C → F
  pub pair : F → F → C
  pub re-pair : (a b : F) → re (pair a b) ≡ a
  pub im-pair : (a b : F) → im (pair a b) ≡ b
  pub same : (x y : C) → re x ≡ re y → im x ≡ im y → x ≡ y

module _ {F C : Type 0} (f : FieldOf F) (c : Pairs C F) where
  open f use {order, meaning, element, one, add, mul, neg}
  open c use {re, im, pair, re-pair, im-pair, same}

  -- by parts
  abbrev pub pair_sum : C → C → C
  pair_sum x y = pair (add (re x) (re y)) (add (im x) (im y))

  -- (a, b) times (c, d) is (ac − bd, ad + bc)
  abbrev pub pair_product : C → C → C
  pair_product x y = pair (less f (mul (re x) (re y)) (mul (im x) (im y))) (add (mul (re x) (im y)) (mul (im x) (re y)))

  abbrev pub pair_negative : C → C
  pair_negative x = pair (neg (re x)) (neg (im x))

  abbrev pub pair_zero : C
  pair_zero = pair f.zero f.zero

  abbrev pub pair_one : C
  pair_one = pair one f.zero

  -- (a, b) means a + b · order
  abbrev pub pair_meaning : C → ℕ
  pair_meaning x = meaning (re x) + meaning (im x) * order

  abbrev pub pair_element : ℕ → C
  pair_element n = pair (element (n % order)) (element (n / order))

  positive : 0 < order
  positive = omega (arith, f.meaning-below f.zero)

  pub pair_meaning-below : (x : C) → pair_meaning x < order * order
  pair_meaning-below x =
      let a = f.meaning-below (re x) in
      let b : suc (meaning (im x)) * order ≤ order * order = mul-le-mul_right order (f.meaning-below (im x)) in
      omega (arith, add-mul (meaning (im x)) 1 order)

  meaning-mod : (x : C) → pair_meaning x % order ≡ meaning (re x)
  meaning-mod x = add-mul-mod_self_right (meaning (re x)) (meaning (im x)) order ∙ mod-eq_of_lt (f.meaning-below (re x))

  meaning-div : (x : C) → pair_meaning x / order ≡ meaning (im x)
  meaning-div x =
      add-mul-div_right (meaning (re x)) (meaning (im x)) positive
      ∙ ap (λ (n : ℕ). n + meaning (im x)) (div-eq_of_lt (f.meaning-below (re x)))
      ∙ omega arith

  pub pair_meaning_injective : (x y : C) → pair_meaning x ≡ pair_meaning y → x ≡ y
  pair_meaning_injective x y e =
      same x y
      (f.meaning_injective (re x) (re y) (sym (meaning-mod x) ∙ ap (λ (n : ℕ). n % order) e ∙ meaning-mod y))
      (f.meaning_injective (im x) (im y) (sym (meaning-div x) ∙ ap (λ (n : ℕ). n / order) e ∙ meaning-div y))

  -- pairs mean one number where their parts do
  pub pair_equality : (x y : C) → ((meaning (re x) == meaning (re y)) && (meaning (im x) == meaning (im y))) ≡ (pair_meaning x == pair_meaning y)
  pair_equality x y =
      one_truth _ _
      (λ h.
      let parts = and_parts _ _ h in
      eq-eqb _ _ (ap₂ (λ (a b : ℕ). a + b * order) (eqb-true _ _ parts.0) (eqb-true _ _ parts.1)))
      (λ h.
      let e = eqb-true _ _ h in
      both_true
      (eq-eqb _ _ (sym (meaning-mod x) ∙ ap (λ (n : ℕ). n % order) e ∙ meaning-mod y))
      (eq-eqb _ _ (sym (meaning-div x) ∙ ap (λ (n : ℕ). n / order) e ∙ meaning-div y)))

  meaning-pair : (a b : F) → pair_meaning (pair a b) ≡ meaning a + meaning b * order
  meaning-pair a b = ap₂ (λ (x y : F). meaning x + meaning y * order) (re-pair a b) (im-pair a b)

  pub pair_meaning-element : (n : ℕ) → n < order * order → pair_meaning (pair_element n) ≡ n
  pair_meaning-element n h =
      meaning-pair (element (n % order)) (element (n / order))
      ∙ ap₂ (λ (x y : ℕ). x + y * order) (f.meaning-element (n % order) (mod-lt n positive)) (f.meaning-element (n / order) ((div-lt_iff_lt-mul positive).1 h))
      ∙ mod-add-div' n order

  real_meaning : (a : F) → pair_meaning (pair a f.zero) ≡ meaning a
  real_meaning a =
      meaning-pair a f.zero
      ∙ ap (λ (n : ℕ). meaning a + n) (ap (λ (n : ℕ). n * order) f.meaning-zero ∙ nat_zero-mul order)
      ∙ omega arith

  pub pair_meaning-zero : pair_meaning pair_zero ≡ 0
  pair_meaning-zero = real_meaning f.zero ∙ f.meaning-zero

  pub pair_meaning-one : pair_meaning pair_one ≡ 1
  pair_meaning-one = real_meaning one ∙ f.meaning-one

  pub pair-add_comm : (x y : C) → pair_sum x y ≡ pair_sum y x
  pair-add_comm x y = ap₂ pair (f.add_comm (re x) (re y)) (f.add_comm (im x) (im y))

  pub pair-add_assoc : (x y z : C) → pair_sum (pair_sum x y) z ≡ pair_sum x (pair_sum y z)
  pair-add_assoc x y z = same _ _ (simp re-pair (f.add_assoc (re x) (re y) (re z))) (simp im-pair (f.add_assoc (im x) (im y) (im z)))

  pub pair-add-zero : (x : C) → pair_sum x pair_zero ≡ x
  pair-add-zero x = same _ _ (simp re-pair (f.add-zero (re x))) (simp im-pair (f.add-zero (im x)))

  pub pair-add-neg : (x : C) → pair_sum x (pair_negative x) ≡ pair_zero
  pair-add-neg x = same _ _ (simp re-pair (f.add-neg (re x))) (simp im-pair (f.add-neg (im x)))

  pub pair-mul_comm : (x y : C) → pair_product x y ≡ pair_product y x
  pair-mul_comm x y =
      ap₂ pair
      (solve4 f (λ a b u v. a ⊗ u ⊖ b ⊗ v ≐ u ⊗ a ⊖ v ⊗ b) tt (re x) (im x) (re y) (im y))
      (solve4 f (λ a b u v. a ⊗ v ⊕ b ⊗ u ≐ u ⊗ b ⊕ v ⊗ a) tt (re x) (im x) (re y) (im y))

  pub pair-mul-one : (x : C) → pair_product x pair_one ≡ x
  pair-mul-one x =
      same _ _
      (simp (re-pair, im-pair) (solve2 f (λ a b. a ⊗ con 1 ⊖ b ⊗ con 0 ≐ a) tt (re x) (im x)))
      (simp (re-pair, im-pair) (solve2 f (λ a b. a ⊗ con 0 ⊕ b ⊗ con 1 ≐ b) tt (re x) (im x)))

  pub pair-mul_assoc : (x y z : C) → pair_product (pair_product x y) z ≡ pair_product x (pair_product y z)
  pair-mul_assoc x y z =
      same _ _
      (simp (re-pair, im-pair)
      (solve6 f (λ a b u v s t. (a ⊗ u ⊖ b ⊗ v) ⊗ s ⊖ (a ⊗ v ⊕ b ⊗ u) ⊗ t ≐ a ⊗ (u ⊗ s ⊖ v ⊗ t) ⊖ b ⊗ (u ⊗ t ⊕ v ⊗ s)) tt (re x) (im x) (re y) (im y) (re z) (im z)))
      (simp (re-pair, im-pair)
      (solve6 f (λ a b u v s t. (a ⊗ u ⊖ b ⊗ v) ⊗ t ⊕ (a ⊗ v ⊕ b ⊗ u) ⊗ s ≐ a ⊗ (u ⊗ t ⊕ v ⊗ s) ⊕ b ⊗ (u ⊗ s ⊖ v ⊗ t)) tt (re x) (im x) (re y) (im y) (re z) (im z)))

  pub pair-mul-add : (x y z : C) → pair_product x (pair_sum y z) ≡ pair_sum (pair_product x y) (pair_product x z)
  pair-mul-add x y z =
      same _ _
      (simp (re-pair, im-pair)
      (solve6 f (λ a b u v s t. a ⊗ (u ⊕ s) ⊖ b ⊗ (v ⊕ t) ≐ (a ⊗ u ⊖ b ⊗ v) ⊕ (a ⊗ s ⊖ b ⊗ t)) tt (re x) (im x) (re y) (im y) (re z) (im z)))
      (simp (re-pair, im-pair)
      (solve6 f (λ a b u v s t. a ⊗ (v ⊕ t) ⊕ b ⊗ (u ⊕ s) ≐ (a ⊗ v ⊕ b ⊗ u) ⊕ (a ⊗ t ⊕ b ⊗ s)) tt (re x) (im x) (re y) (im y) (re z) (im z)))

  re-ones : (n : ℕ) → re (ones_of pair_zero pair_one pair_sum n) ≡ ones_of f.zero one add n
  re-ones zero = re-pair f.zero f.zero
  re-ones (suc n) = simp re-pair (ap (λ a. add a one) (re-ones n))

  pub pair-ones_nonzero : (n : ℕ) → 0 < n → n ≤ most_ones → ones_of pair_zero pair_one pair_sum n ≢ pair_zero
  pair-ones_nonzero n pos few e = f.ones_nonzero n pos few (sym (re-ones n) ∙ ap re e ∙ re-pair f.zero f.zero)

  -- (a² + b²)·u and (a² + b²)·v are sums of multiples of the parts of the product (a + bi)(u + vi)
  norm_times : (a b u v : F) → less f (mul a u) (mul b v) ≡ f.zero → add (mul a v) (mul b u) ≡ f.zero
      → (mul (add (mul a a) (mul b b)) u ≡ f.zero) × (mul (add (mul a a) (mul b b)) v ≡ f.zero)
  norm_times a b u v e g = (
    solve4 f (λ a b u v. (a ⊗ a ⊕ b ⊗ b) ⊗ u ≐ a ⊗ (a ⊗ u ⊖ b ⊗ v) ⊕ b ⊗ (a ⊗ v ⊕ b ⊗ u)) tt a b u v
        ∙ ap₂ (λ (x y : F). add (mul a x) (mul b y)) e g
        ∙ solve2 f (λ a b. a ⊗ con 0 ⊕ b ⊗ con 0 ≐ con 0) tt a b,
    solve4 f (λ a b u v. (a ⊗ a ⊕ b ⊗ b) ⊗ v ≐ a ⊗ (a ⊗ v ⊕ b ⊗ u) ⊖ b ⊗ (a ⊗ u ⊖ b ⊗ v)) tt a b u v
        ∙ ap₂ (λ (x y : F). less f (mul a x) (mul b y)) g e
        ∙ solve2 f (λ a b. a ⊗ con 0 ⊖ b ⊗ con 0 ≐ con 0) tt a b,
  )

  zero_of_parts : (x : C) → (re x ≡ f.zero) × (im x ≡ f.zero) → x ≡ pair_zero
  zero_of_parts x h =
      same x pair_zero (h.0 ∙ sym (re-pair f.zero f.zero)) (h.1 ∙ sym (im-pair f.zero f.zero))

  pub pair_no_zero_divisors : SquaresApart f → (x y : C) → pair_product x y ≡ pair_zero → (x ≡ pair_zero) ⊎ (y ≡ pair_zero)
  pair_no_zero_divisors apart x y e =
      let n : F = add (mul (re x) (re x)) (mul (im x) (im x)) in
      let norm = norm_times (re x) (im x) (re y) (im y) (simp (re-pair) at (ap re e)) (simp (im-pair) at (ap im e)) in
      elim (f.no_zero_divisors n (re y) norm.0) [
        | inl z ↦ inl (zero_of_parts x (apart (re x) (im x) z))
        | inr u ↦
            elim (f.no_zero_divisors n (im y) norm.1) [
              | inl z ↦ inl (zero_of_parts x (apart (re x) (im x) z))
              | inr v ↦ inr (zero_of_parts y (u, v))
            ]
      ]

-- the field of the pairs: (a, b) stands for a + bi, with i · i minus one, and means a + b · order
abbrev pub pair_field : {F C : Type 0} (f : FieldOf F) → SquaresApart f → Pairs C F → FieldOf C
pair_field f apart c = record {
  order = f.order * f.order;
  meaning = pair_meaning f c;
  element = pair_element f c;
  zero = pair_zero f c;
  one = pair_one f c;
  add = pair_sum f c;
  mul = pair_product f c;
  neg = pair_negative f c;
  meaning-below = pair_meaning-below f c;
  meaning_injective = pair_meaning_injective f c;
  meaning-element = pair_meaning-element f c;
  meaning-zero = pair_meaning-zero f c;
  meaning-one = pair_meaning-one f c;
  add_comm = pair-add_comm f c;
  add_assoc = pair-add_assoc f c;
  add-zero = pair-add-zero f c;
  add-neg = pair-add-neg f c;
  mul_comm = pair-mul_comm f c;
  mul_assoc = pair-mul_assoc f c;
  mul-one = pair-mul-one f c;
  mul-add = pair-mul-add f c;
  no_zero_divisors = pair_no_zero_divisors f c apart;
  ones_nonzero = pair-ones_nonzero f c;
}
