-- The rule of a table at one entry, from the test over all of its entries.
use Rattle.std.proofs.Common.{◌≡◌, ℕ, zero, suc, ◌+◌, ◌%◌, ◌^◌, ◌<◌, Bool, T, eqb, ltb, List, [], ◌∷◌, length, get_or, sym, ◌∙◌, subst, le_of_suc-le-suc, not-suc-le-zero, add-zero, add-suc, suc-add, zero-add, arith, eqb→eq, ltb→lt}
use Rattle.fields.specs.Laws.Tests.{both_hold}
use Rattle.fields.specs.PowerTables.{every, is_power, is_exponent}

every_from : (test : ℕ → ℕ → Bool) (xs : List ℕ) (i : ℕ) → T (every test i xs) → (k : ℕ) → k < length xs → T (test (i + k) (get_or xs k 0))
every_from test [] i t k h = absurd (not-suc-le-zero h)
every_from test (x ∷ xs) i t zero h = subst (λ (m : ℕ). T (test m x)) (sym (add-zero i)) (both_hold (test i x) (every test (suc i) xs) t).0
every_from test (x ∷ xs) i t (suc k) h =
    subst (λ (m : ℕ). T (test m (get_or xs k 0))) (suc-add i k ∙ sym (add-suc i k))
    (every_from test xs (suc i) (both_hold (test i x) (every test (suc i) xs) t).1 k (le_of_suc-le-suc h))

every_at : (test : ℕ → ℕ → Bool) (xs : List ℕ) → T (every test 0 xs) → (k : ℕ) → k < length xs → T (test k (get_or xs k 0))
every_at test xs t k h = subst (λ (m : ℕ). T (test m (get_or xs k 0))) (zero-add k) (every_from test xs 0 t k h)

pub power_at : (xs : List ℕ) → T (every is_power 0 xs) → (k : ℕ) → k < length xs → get_or xs k 0 ≡ 3 ^ k % 257
power_at xs t k h = eqb→eq (get_or xs k 0) (3 ^ k % 257) (every_at is_power xs t k h)

pub exponent_at : (xs : List ℕ) → T (every is_exponent 0 xs) → (n : ℕ) → 0 < n → n < length xs → (get_or xs n 0 < 256) × (3 ^ get_or xs n 0 % 257 ≡ n)
exponent_at xs t zero positive h = omega arith
exponent_at xs t (suc n) positive h =
    let k : ℕ = get_or xs (suc n) 0 in
    let holds = both_hold (ltb k 256) (eqb (3 ^ k % 257) (suc n)) (every_at is_exponent xs t (suc n) h) in
    (ltb→lt k 256 holds.0, eqb→eq (3 ^ k % 257) (suc n) holds.1)
