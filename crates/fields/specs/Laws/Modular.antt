-- Inverses modulo a prime, so that a product is a multiple only if a factor is.
use Rattle.std.specs.Prelude.{◌≡◌, ℕ, zero, suc, ◌+◌, ◌*◌, ◌/◌, ◌%◌, ◌<◌, ◌≤◌, ◌≢◌, ◌⊎◌}
use Rattle.std.proofs.Common.{sym, ap, ◌∙◌, inl, inr, mul_assoc, mul-suc, one-mul, add-mul, mul_right_comm, mod-lt, mod-eq_of_lt, zero-mul, arith}
use Rattle.std.proofs.Math.Nat.{add-mod-mod, mul-mod_right, mul-add-mod_self_right, div-add-mod, zero-mod}
use Rattle.std.proofs.lemmas.Nat.{mul-mod_first}
use Rattle.std.proofs.Math.Decide.{ℕ_discrete}
use Rattle.fields.specs.Laws.Primes.{Prime}

-- a multiple of m, times anything
pub multiple_mul : (a b m : ℕ) → a % m ≡ 0 → (a * b) % m ≡ 0
multiple_mul a b m e = sym (mul-mod_first a b m) ∙ ap (λ (x : ℕ). (x * b) % m) e ∙ ap (λ (x : ℕ). x % m) (zero-mul b) ∙ zero-mod m

-- x is minus one, so x times minus one is one
minus_one : (m x : ℕ) → 0 < m → (x + 1) % suc m ≡ 0 → (x * m) % suc m ≡ 1
minus_one m x l e =
    let s : x * m + (x + 1) ≡ x * suc m + 1 = omega (arith, mul-suc x m) in
    let t : (x * m + (x + 1) % suc m) % suc m ≡ 1 % suc m = add-mod-mod (x * m) (x + 1) (suc m) ∙ ap (λ (y : ℕ). y % suc m) s ∙ mul-add-mod_self_right x (suc m) 1 in
    ap (λ (y : ℕ). y % suc m) (omega arith) ∙ t ∙ mod-eq_of_lt (omega arith)

-- From an inverse c of the remainder r of the modulus by a, one of a: a * q + r is the modulus, so a * (q * c) is minus one.
inverse_step : (m a r q c : ℕ) → 0 < m → a * q + r ≡ suc m → (r * c) % suc m ≡ 1 → (a * (q * c * m)) % suc m ≡ 1
inverse_step m a r q c l s e =
    let x : (a * (q * c) + 1) % suc m ≡ 0 =
    ap (λ (y : ℕ). (a * (q * c) + y) % suc m) (sym e)
    ∙ add-mod-mod (a * (q * c)) (r * c) (suc m)
    ∙ ap (λ (y : ℕ). y % suc m) (ap (λ (y : ℕ). y + r * c) (sym (mul_assoc a q c)) ∙ sym (add-mul (a * q) r c) ∙ ap (λ (y : ℕ). y * c) s)
    ∙ mul-mod_right (suc m) c in
    ap (λ (y : ℕ). y % suc m) (sym (mul_assoc a (q * c) m)) ∙ minus_one m (a * (q * c)) l x

inverse_below : (m : ℕ) → Prime (suc m) → (bound a : ℕ) → 0 < a → a ≤ bound → a < suc m → (c : ℕ) × ((a * c) % suc m ≡ 1)
inverse_below m prime zero a l h b = absurd (omega arith)
inverse_below m prime (suc bound) a l h b =
    elim (ℕ_discrete a 1) [
      | yes e ↦ (1, ap (λ (y : ℕ). (y * 1) % suc m) e ∙ mod-eq_of_lt prime.above_one)
      | no n ↦
          let u : suc m % a ≢ 0 = prime.undivided a (omega arith) b in
          let v : suc m % a < a = mod-lt (suc m) l in
          let i = inverse_below m prime bound (suc m % a) (omega arith) (omega arith) (omega arith) in
          (suc m / a * i.0 * m, inverse_step m a (suc m % a) (suc m / a) i.0 (omega (arith, prime.above_one)) (div-add-mod (suc m) a) i.1)
    ]

-- a number that is not a multiple of a prime has an inverse
pub inverse : (p : ℕ) → Prime p → (a : ℕ) → a % p ≢ 0 → (c : ℕ) × ((a * c) % p ≡ 1)
inverse zero prime a n = absurd (omega (arith, prime.above_one))
inverse (suc m) prime a n =
    let i = inverse_below m prime (a % suc m) (a % suc m) (omega arith) (omega arith) (mod-lt a (omega arith)) in
    (i.0, sym (mul-mod_first a i.0 (suc m)) ∙ i.1)

-- a product that a prime divides has a factor that it divides
pub euclid : (p : ℕ) → Prime p → (a b : ℕ) → (a * b) % p ≡ 0 → (a % p ≡ 0) ⊎ (b % p ≡ 0)
euclid p prime a b e =
    elim (ℕ_discrete (a % p) 0) [
      | yes z ↦ inl z
      | no n ↦
          let i = inverse p prime a n in
          inr
          (sym (ap (λ (x : ℕ). x % p) (one-mul b))
          ∙ ap (λ (x : ℕ). (x * b) % p) (sym i.1)
          ∙ mul-mod_first (a * i.0) b p
          ∙ ap (λ (x : ℕ). x % p) (mul_right_comm a i.0 b)
          ∙ multiple_mul (a * b) i.0 p e)
    ]
