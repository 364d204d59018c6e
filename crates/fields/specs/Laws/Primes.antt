-- What a prime is, and trial division that computes.
use Rattle.std.specs.Prelude.{◌≡◌, ℕ, zero, suc, ◌+◌, ◌*◌, ◌/◌, ◌%◌, ◌^◌, ◌<◌, ◌≤◌, Bool, not, T, ◌≢◌, ◌==◌, ◌&&◌}
use Rattle.std.proofs.Common.{ap, subst, ◌∙◌, pow-suc, mul-le-mul, mul-zero, mul-one, arith, T_not}
use Rattle.std.proofs.Math.Nat.{mul-mod_left, div-add-mod}
use Rattle.std.proofs.Math.Decide.{dec_lt}
use Rattle.std.proofs.Math.Dec.{eqb_refl}
use Rattle.fields.specs.Laws.Tests.{both_hold}

pub record Prime (p : ℕ) : Type 0 where
  pub above_one : 1 < p
  pub undivided : (d : ℕ) → 1 < d → d < p → p % d ≢ 0

-- none of the 2 ^ k numbers from m on divides p; by halves, so that computing it goes k deep
unfoldable pub none_divides : ℕ → ℕ → ℕ → Bool
none_divides p zero m = not (p % m == 0)
none_divides p (suc k) m = none_divides p k m && none_divides p k (m + 2 ^ k)

none_divides-at : (p k m : ℕ) → T (none_divides p k m) → (d : ℕ) → m ≤ d → d < m + 2 ^ k → p % d ≢ 0
unfolding none_divides
none_divides-at p zero m t d from below e =
    let s : m ≡ d = omega arith in
    T_not (p % m == 0) t (subst (λ (x : ℕ). T (p % m == x)) (ap (λ (x : ℕ). p % x) s ∙ e) (eqb_refl (p % m)))
none_divides-at p (suc k) m t d from below e =
    let h = both_hold (none_divides p k m) (none_divides p k (m + 2 ^ k)) t in
    elim (dec_lt d (m + 2 ^ k)) [
      | yes l ↦ none_divides-at p k m h.0 d from l e
      | no l ↦ none_divides-at p k (m + 2 ^ k) h.1 d (omega arith) (omega (arith, pow-suc 2 k)) e
    ]

-- a number above one and below s * s that none of 2 .. s - 1 divides
prime_below_square : (p s : ℕ) → 1 < p → ((d : ℕ) → 1 < d → d < s → p % d ≢ 0) → p < s * s → Prime p
prime_below_square p s above undivided_below square =
    record { above_one = above; undivided = λ d l h e. elim (dec_lt d s) [ yes u ↦ undivided_below d l u e | no u ↦ cofactor d l h e (omega arith) ] }
  where
    -- a divisor from s on has a cofactor below s
    cofactor : (d : ℕ) → 1 < d → d < p → p % d ≡ 0 → s ≤ d → ⊥
    cofactor d l h e u =
        let whole : d * (p / d) ≡ p = omega (arith, div-add-mod p d) in
        let not_zero : p / d ≢ 0 = λ z. omega (arith, ap (λ (x : ℕ). d * x) z, mul-zero d) in
        let not_one : p / d ≢ 1 = λ z. omega (arith, ap (λ (x : ℕ). d * x) z, mul-one d) in
        let below : (s ≤ p / d) → ⊥ = λ z. omega (arith, mul-le-mul u z) in
        undivided_below (p / d) (omega arith) (omega arith) (subst (λ (x : ℕ). x % (p / d) ≡ 0) whole (mul-mod_left d (p / d)))

-- p is prime if none of the 2 ^ k numbers from 2 on divides it, and they reach its root
pub prime_by_trial : (p k : ℕ) → 1 < p → T (none_divides p k 2) → p < (2 + 2 ^ k) * (2 + 2 ^ k) → Prime p
prime_by_trial p k above none square = prime_below_square p (2 + 2 ^ k) above (none_divides-at p k 2 none) square
