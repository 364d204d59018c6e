-- Products by exponents, for a number g whose power n leaves 1 modulo p.
use Rattle.std.proofs.Common.{◌≡◌, ℕ, zero, suc, ◌+◌, ◌*◌, ◌/◌, ◌%◌, ◌^◌, sym, ap, ◌∙◌, one-mul, div-add-mod', arith, pow-add}
use Rattle.std.proofs.lemmas.Nat.{mul-mod_first, mul-mod_second}

module _ (g n p : ℕ) (period : g ^ n % p ≡ 1) where
  one_period : (k : ℕ) → g ^ (n + k) % p ≡ g ^ k % p
  one_period k =
      ap (λ (x : ℕ). x % p) (pow-add g n k)
      ∙ sym (mul-mod_first (g ^ n) (g ^ k) p)
      ∙ ap (λ (x : ℕ). (x * g ^ k) % p) period
      ∙ ap (λ (x : ℕ). x % p) (one-mul (g ^ k))

  periods : (q r : ℕ) → g ^ (q * n + r) % p ≡ g ^ r % p
  periods zero r = let e : zero * n + r ≡ r = omega arith in ap (λ (x : ℕ). g ^ x % p) e
  periods (suc q) r =
      let e : suc q * n + r ≡ n + (q * n + r) = omega arith in
      ap (λ (x : ℕ). g ^ x % p) e ∙ one_period (q * n + r) ∙ periods q r

  -- the product of two powers is the power of the sum of their exponents
  pub powers_product : (i j : ℕ) → g ^ ((i + j) % n) % p ≡ (g ^ i % p * (g ^ j % p)) % p
  powers_product i j =
      sym (periods ((i + j) / n) ((i + j) % n))
      ∙ ap (λ (x : ℕ). g ^ x % p) (div-add-mod' (i + j) n)
      ∙ ap (λ (x : ℕ). x % p) (pow-add g i j)
      ∙ sym (mul-mod_first (g ^ i) (g ^ j) p)
      ∙ sym (mul-mod_second (g ^ i % p) (g ^ j) p)
