-- The limits on sizes, each named once.
use Rattle.std.specs.Prelude.{ℕ, ◌+◌, ◌*◌, Bool, ◌&&◌, nat_le}

-- the chunks of an address
abbrev pub most_chunks : ℕ
most_chunks = 4

-- the bits of a chunk
abbrev pub most_chunk_bits : ℕ
most_chunk_bits = 6

-- the bits of a cycle's number
abbrev pub most_cycle_bits : ℕ
most_cycle_bits = 12

-- the variables of a table
abbrev pub most_variables : ℕ
most_variables = 14

-- d chunks of c bits and cycles of t bits are within the limits
abbrev pub within : ℕ → ℕ → ℕ → Bool
within d c t =
    nat_le 1 d && nat_le d most_chunks && nat_le 1 c && nat_le c most_chunk_bits && nat_le t most_cycle_bits && nat_le (d * c + t) most_variables
