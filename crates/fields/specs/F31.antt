-- F31: arithmetic modulo 2147483647.
use Rattle.std.specs.Prelude.{◌≡◌, refl}
use Rattle.std.proofs.Common.{lit<}
use Rattle.fields.specs.Fields.{FieldOf}
use Rattle.fields.specs.Residues.{FieldModulus, field_modulo, residues_modulo, residue_same}
use Rattle.fields.specs.Laws.Primes.{Prime, prime_by_trial, none_divides}
use Rattle.fields.specs.Laws.Residues.{Residues, residue_squares_apart}
use Rattle.fields.specs.Laws.Squares.{SquaresApart}
use Rattle.fields.specs.declared.residue.Residue.{Residue}

-- its elements
abbrev pub F31 : Type 0
F31 = Residue 2147483647

-- by trial division: none of the 65536 numbers from 2 on divides it, and they pass its root
pub f31_prime : Prime 2147483647
unfolding none_divides
f31_prime = prime_by_trial _ 16 (lit< tt) tt (lit< tt)

-- a prime from 64 on, and twice it fits in 32 bits
abbrev pub f31_modulus : FieldModulus 2147483647
f31_modulus = record { prime = f31_prime; long = lit< tt; short = lit< tt }

-- elements of one value are equal: the stored form is canonical
pub f31-same : (a b : F31) → a.value ≡ b.value → a ≡ b
f31-same = residue_same 2147483647

-- an element means its value
abbrev pub f31_residues : Residues F31 2147483647
f31_residues = residues_modulo 2147483647

-- sums, products and negatives of the values, modulo 2147483647
abbrev pub f31_field : FieldOf F31
f31_field = field_modulo 2147483647 f31_modulus

-- minus one is not a square in F31, since 2147483647 is 3 modulo 4
pub f31_squares_apart : SquaresApart f31_field
f31_squares_apart = residue_squares_apart f31_residues f31_prime (lit< tt) refl
