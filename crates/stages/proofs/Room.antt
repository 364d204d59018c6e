-- A point of a round fits in memory: rounding up to an alignment adds few bytes.
use Rattle.std.proofs.Common.{ℕ, ◌+◌, ◌-◌, ◌*◌, ◌%◌, ◌^◌, ◌<◌, ◌≤◌, arith}
use Rattle.std.proofs.Math.Nat.{mod-le}
use Prim.Native.Nat.{max}
use mir.Syntax.{Width, w8, w16, w32, w64, w128, Ty}
use mir.Val.{bytes}
use prog.Memory.{size, align, up}
use prog.Align.{align_w, align-bytes}

few_bytes : (w : Width) → bytes w ≤ 16
few_bytes w8 = omega arith
few_bytes w16 = omega arith
few_bytes w32 = omega arith
few_bytes w64 = omega arith
few_bytes w128 = omega arith

few_aligned : (τ : Ty) → align τ ≤ 16
few_aligned τ = omega (arith, align-bytes τ, few_bytes (align_w τ))

up-most : (k e : ℕ) → up k e ≤ e + k
up-most k e = omega (arith, mod-le (k - e % k) k)

-- fourteen coordinates and their number
pub point-fits : (τ : Ty) → size τ ≤ 2 ^ 32 → up (max (align τ) 8) (up 8 (up (align τ) 0 + 14 * size τ) + 8) < 2 ^ 63
point-fits τ small =
    omega (arith, few_aligned τ, up-most (align τ) 0, up-most 8 (up (align τ) 0 + 14 * size τ), up-most (max (align τ) 8) (up 8 (up (align τ) 0 + 14 * size τ) + 8))
