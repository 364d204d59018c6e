-- Modulo a number that is 3 modulo 4, minus one is not a square; so modulo such a prime two squares add up to zero only if both are zero.
use Rattle.std.specs.Prelude.{◌≡◌, ℕ, zero, suc, ◌+◌, ◌-◌, ◌*◌, ◌/◌, ◌%◌, ◌<◌, ◌≤◌, ◌≢◌}
use Rattle.std.proofs.Common.{sym, ap, ap₂, subst, ◌∙◌, ⊎_elim, mul_comm, mul_assoc, add-mul, mul-add, mul-suc, le_of_lt, le_refl, mod-eq_of_lt, mul-le-mul_left, mul-le-mul_right, mod-lt, add-zero, arith}
use Rattle.std.proofs.Math.Nat.{mul-mul-mul_comm, mul-add-mod_self_left, add-mod-mod, mod-add-mod, add-mul-mod_self_right, mul-mod_left, div-add-mod}
use Rattle.std.proofs.Math.Decide.{ℕ_discrete}
use Rattle.fields.specs.Fields.{FieldOf}
use Rattle.fields.specs.Laws.Primes.{Prime}
use Rattle.std.proofs.lemmas.Nat.{mul-mod_first, mul-mod_second}
use Rattle.fields.specs.Laws.Modular.{multiple_mul, inverse, euclid}

-- two squares add up to zero only if both are zero: minus one is not a square
abbrev pub SquaresApart : {F : Type 0} → FieldOf F → Type 0
SquaresApart {F} f = (a b : F) → f.add (f.mul a a) (f.mul b b) ≡ f.zero → (a ≡ f.zero) × (b ≡ f.zero)

-- a root of minus one may be reduced, and replaced by its negative
root_mod : (a m : ℕ) → (a % m * (a % m) + 1) % m ≡ (a * a + 1) % m
root_mod a m =
    sym (mod-add-mod (a % m * (a % m)) m 1) ∙ ap (λ (x : ℕ). (x + 1) % m) (mul-mod_first a (a % m) m ∙ mul-mod_second a a m) ∙ mod-add-mod (a * a) m 1

root_negative : (a b : ℕ) → (a * a + 1) % (a + b) ≡ (b * b + 1) % (a + b)
root_negative a b =
    let x : a * a + 1 + b * (a + b) ≡ b * b + 1 + a * (a + b) = omega (arith, mul-add a a b, mul-add b a b, mul_comm a b) in
    sym (add-mul-mod_self_right (a * a + 1) b (a + b)) ∙ ap (λ (x : ℕ). x % (a + b)) x ∙ add-mul-mod_self_right (b * b + 1) a (a + b)

three_mod_four : (a b m : ℕ) → 4 * a ≡ 4 * b + (m + 1) → m % 4 ≡ 3
three_mod_four a b m e =
    let l : b < a = omega arith in
    let w : m ≡ 4 * (a - suc b) + 3 = omega arith in
    ap (λ (x : ℕ). x % 4) w ∙ mul-add-mod_self_left 4 (a - suc b) 3

-- where n * m is an even square and one: m is smaller than n, and is 3 modulo 4 too
module _ (n m y : ℕ) (e : n * m ≡ y * y + 1) (t : n % 4 ≡ 3) where
  cofactor_smaller : y < n → m < n
  cofactor_smaller h =
      let f : (n ≤ m) → ⊥ = λ g. omega (arith, mul-le-mul_left n g, mul-le-mul_left n h, mul-suc n y, mul-le-mul_right y (le_of_lt h)) in
      omega arith

  cofactor_three : y % 2 ≡ 0 → m % 4 ≡ 3
  cofactor_three h =
      let s : y ≡ 2 * (y / 2) = omega arith in
      let q : y * y ≡ 4 * (y / 2 * (y / 2)) = ap₂ ◌*◌ s s ∙ mul-mul-mul_comm 2 (y / 2) 2 (y / 2) in
      let u : n ≡ 4 * (n / 4) + 3 = omega arith in
      let v : n * m ≡ 4 * (n / 4 * m) + 3 * m = ap (λ (x : ℕ). x * m) u ∙ add-mul (4 * (n / 4)) 3 m ∙ ap (λ (x : ℕ). x + 3 * m) (mul_assoc 4 (n / 4) m) in
      three_mod_four (n / 4 * m + m) (y / 2 * (y / 2)) m (omega arith)

-- there is no root modulo a number up to the bound that is 3 modulo 4
abbrev NoRootUpTo : ℕ → Type 0
NoRootUpTo bound = (n x : ℕ) → n ≤ bound → n % 4 ≡ 3 → (x * x + 1) % n ≢ 0

-- by descent: from an even root, a smaller number that is 3 modulo 4 with a root
no_even_root : (bound n : ℕ) → NoRootUpTo bound → n ≤ suc bound → n % 4 ≡ 3 → (y : ℕ) → y < n → y % 2 ≡ 0 → (y * y + 1) % n ≢ 0
no_even_root bound n below l t y h z e =
    let m : ℕ = (y * y + 1) / n in
    let s : n * m ≡ y * y + 1 = omega (arith, div-add-mod (y * y + 1) n) in
    let k : m < n = cofactor_smaller n m y s t h in
    below m y (omega arith) (cofactor_three n m y s t z) (ap (λ (x : ℕ). x % m) (sym s) ∙ mul-mod_left n m)

no_root : (bound : ℕ) → NoRootUpTo bound
no_root zero n x l t e = omega arith
no_root (suc bound) n x l t e =
    let h : x % n < n = mod-lt x (omega arith) in
    elim (ℕ_discrete (x % n % 2) 0) [
      | yes z ↦ no_even_root bound n (no_root bound) l t (x % n) h z (root_mod x n ∙ e)
      | no z ↦
          let s : n - x % n + x % n ≡ n = omega arith in
          no_even_root bound n (no_root bound) l t (n - x % n) (omega arith) (omega arith)
          (subst (λ (k : ℕ). ((n - x % n) * (n - x % n) + 1) % k ≡ (x % n * (x % n) + 1) % k) s (root_negative (n - x % n) (x % n)) ∙ root_mod x n ∙ e)
    ]

pub squares_apart : (p : ℕ) → Prime p → p % 4 ≡ 3 → (a b : ℕ) → (a * a + b * b) % p ≡ 0 → (a % p ≡ 0) × (b % p ≡ 0)
squares_apart p prime t a b e =
    elim (ℕ_discrete (b % p) 0) [
      | yes z ↦
          let x : (b * b) % p ≡ 0 = multiple_mul b b p z in
          let y : (a * a) % p ≡ 0 = ap (λ (y : ℕ). y % p) (sym (add-zero (a * a)) ∙ ap (λ (y : ℕ). a * a + y) (sym x)) ∙ add-mod-mod (a * a) (b * b) p ∙ e in
          (⊎_elim (λ u. u) (λ u. u) (euclid p prime a a y), z)
      | no n ↦
          let i = inverse p prime b n in
          let c : ℕ = i.0 in
          let square : (b * c * (b * c)) % p ≡ 1 =
          sym (mul-mod_second (b * c) (b * c) p) ∙ sym (mul-mod_first (b * c) ((b * c) % p) p) ∙ ap₂ (λ (u v : ℕ). (u * v) % p) i.1 i.1 ∙ mod-eq_of_lt prime.above_one in
          absurd
          (no_root p p (a * c) (le_refl p) t
          (ap (λ (y : ℕ). (a * c * (a * c) + y) % p) (sym square)
          ∙ add-mod-mod (a * c * (a * c)) (b * c * (b * c)) p
          ∙ ap (λ (y : ℕ). y % p) (ap₂ ◌+◌ (mul-mul-mul_comm a c a c) (mul-mul-mul_comm b c b c) ∙ sym (add-mul (a * a) (b * b) (c * c)))
          ∙ multiple_mul (a * a + b * b) (c * c) p e))
    ]
