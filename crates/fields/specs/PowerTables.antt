-- The rules of the tables of F257: its powers of 3, and their exponents.
use Rattle.std.specs.Prelude.{ℕ, zero, suc, ◌%◌, ◌^◌, Bool, true, List, [], ◌∷◌, ◌==◌, ◌&&◌, nat_lt}

-- the test holds at each entry and its index, counted from i
abbrev pub every : (ℕ → ℕ → Bool) → ℕ → List ℕ → Bool
every test i [] = true
every test i (x ∷ xs) = test i x && every test (suc i) xs

-- x is the power of 3 with exponent k
abbrev pub is_power : ℕ → ℕ → Bool
is_power k x = x == 3 ^ k % 257

-- x, below 256, is the exponent of n; zero has none
abbrev pub is_exponent : ℕ → ℕ → Bool
is_exponent zero x = true
is_exponent (suc n) x = nat_lt x 256 && 3 ^ x % 257 == suc n
