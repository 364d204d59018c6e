-- The number of variables of a list: the largest that the list is long enough for.
use Rattle.std.proofs.Common.{◌≡◌, ℕ, zero, suc, ◌*◌, ◌^◌, ◌<◌, ◌≤◌, min, ◌∙◌, arith, le-leb, pow_mono, pow_pos}
use native.Mathlib.Decide.{dec_le}
use native.Mathlib.Nat.{two-pow-succ}
use borrow.Author.Tests.{lt-leb}
use Rattle.tables.specs.Tables.{variables_upto}

-- for n the whole logarithm of the length
pub variables_by_logarithm : (most n count : ℕ) → 2 ^ n ≤ count → count < 2 * 2 ^ n → variables_upto most count ≡ min most n
unfolding variables_upto
variables_by_logarithm zero n count low high = omega arith
variables_by_logarithm (suc most) n count low high = elim (dec_le (suc most) n) [
  | yes h ↦ let enough : 2 ^ suc most ≤ 2 ^ n = pow_mono h in rw (le-leb (2 ^ suc most) count (omega arith)) (omega arith)
  | no h ↦
      let below : suc n ≤ suc most = omega arith in
      let fewer : 2 ^ suc n ≤ 2 ^ suc most = pow_mono below in
      rw (lt-leb (2 ^ suc most) count (omega (arith, two-pow-succ n))) (variables_by_logarithm most n count low high ∙ omega arith)
]

-- a list of 2^n entries has n variables
pub variables_of_power : (most n : ℕ) → n ≤ most → variables_upto most (2 ^ n) ≡ n
variables_of_power most n h = let some : 0 < 2 ^ n = pow_pos n in variables_by_logarithm most n (2 ^ n) (omega arith) (omega arith) ∙ omega arith
