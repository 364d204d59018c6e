-- The residues modulo q, and their field where q is a prime.
use Rattle.std.specs.Prelude.{◌≡◌, ℕ, ◌^◌, ◌<◌, refl}
use Rattle.fields.specs.Fields.{FieldOf, most_ones}
use Rattle.fields.specs.Laws.Primes.{Prime}
use Rattle.fields.specs.Laws.Residues.{Residues, below_path, residue_field}
use Rattle.fields.specs.declared.residue.Residue.{Residue}

-- residues of one value are equal: the stored form is canonical
pub residue_same : (q : ℕ) (a b : Residue q) → a.value ≡ b.value → a ≡ b
residue_same q a b e = λ i. record { value = e i; ok = below_path e a.ok b.ok i }

-- a residue means its value
abbrev pub residues_modulo : (q : ℕ) → Residues (Residue q) q
residues_modulo q = record { value = λ a. a.value; below = λ a. a.ok; make = λ n h. record { value = n; ok = h }; value_make = λ n h. refl; same = residue_same q }

-- q is a prime above the number of ones that may be added up, and twice q fits in 32 bits
pub record FieldModulus (q : ℕ) : Type 0 where
  pub prime : Prime q
  pub long : most_ones < q
  pub short : q < 2 ^ 31

-- sums, products and negatives of the values, modulo q
abbrev pub field_modulo : (q : ℕ) → FieldModulus q → FieldOf (Residue q)
field_modulo q m = residue_field (residues_modulo q) m.prime m.long
