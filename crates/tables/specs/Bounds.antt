-- What the limits say of sizes.
use Rattle.std.specs.Prelude.{ℕ, ◌+◌, ◌*◌, ◌≤◌, T, nat_le}
use Rattle.std.proofs.Common.{mul-le-mul, one-mul, le_refl, arith}
use Rattle.std.proofs.Math.Facts.{and_yes, leb_yes}
use Rattle.tables.specs.Limits.{most_chunks, most_chunk_bits, most_cycle_bits, most_variables, within}

pub record Bounds (d c t : ℕ) : Type 0 where
  pub some_chunk : 1 ≤ d
  pub chunks : d ≤ most_chunks
  pub some_bit : 1 ≤ c
  pub chunk_bits : c ≤ most_chunk_bits
  pub cycle_bits : t ≤ most_cycle_bits
  pub variables : d * c + t ≤ most_variables
  pub chunk_variables : c + t ≤ most_variables
  pub some_address_bit : 1 ≤ d * c

pub bounds : (d c t : ℕ) → T (within d c t) → Bounds d c t
bounds d c t h =
    let h₅ = and_yes _ (nat_le (d * c + t) most_variables) h in
    let h₄ = and_yes _ (nat_le t most_cycle_bits) h₅.0 in
    let h₃ = and_yes _ (nat_le c most_chunk_bits) h₄.0 in
    let h₂ = and_yes _ (nat_le 1 c) h₃.0 in
    let h₁ = and_yes (nat_le 1 d) (nat_le d most_chunks) h₂.0 in
    let chunk = leb_yes h₁.0 in
    let bit = leb_yes h₂.1 in
    let all = leb_yes h₅.1 in
    let one : 1 * c ≤ d * c = mul-le-mul chunk (le_refl c) in
    record {
      some_chunk = chunk;
      chunks = leb_yes h₁.1;
      some_bit = bit;
      chunk_bits = leb_yes h₃.1;
      cycle_bits = leb_yes h₄.1;
      variables = all;
      chunk_variables = omega (arith, one-mul c);
      some_address_bit = mul-le-mul chunk bit;
    }
