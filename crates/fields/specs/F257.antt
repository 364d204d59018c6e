-- F257: arithmetic modulo 257.
use Rattle.std.specs.Prelude.{◌≡◌}
use Rattle.std.proofs.Common.{lit<}
use Rattle.fields.specs.Fields.{FieldOf}
use Rattle.fields.specs.Residues.{FieldModulus, field_modulo, residues_modulo, residue_same}
use Rattle.fields.specs.Laws.Primes.{Prime, prime_by_trial, none_divides}
use Rattle.fields.specs.Laws.Residues.{Residues}
use Rattle.fields.specs.declared.residue.Residue.{Residue}

-- its elements
abbrev pub F257 : Type 0
F257 = Residue 257

-- by trial division: none of the 16 numbers from 2 on divides it, and they pass its root
pub f257_prime : Prime 257
unfolding none_divides
f257_prime = prime_by_trial _ 4 (lit< tt) tt (lit< tt)

-- a prime from 64 on, and twice it fits in 32 bits
abbrev pub f257_modulus : FieldModulus 257
f257_modulus = record { prime = f257_prime; long = lit< tt; short = lit< tt }

-- elements of one value are equal: the stored form is canonical
pub f257-same : (a b : F257) → a.value ≡ b.value → a ≡ b
f257-same = residue_same 257

-- an element means its value
abbrev pub f257_residues : Residues F257 257
f257_residues = residues_modulo 257

-- sums, products and negatives of the values, modulo 257
abbrev pub f257_field : FieldOf F257
f257_field = field_modulo 257 f257_modulus
