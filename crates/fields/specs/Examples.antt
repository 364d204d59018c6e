-- Worked examples of the three fields.
use Rattle.std.specs.Prelude.{◌≡◌, ℕ, Ok, Err}
use Rattle.fields.specs.Fields.{element_for}
use Rattle.fields.specs.F31.{F31, f31_field}
use Rattle.fields.specs.F257.{F257, f257_field}
use Rattle.fields.specs.P31.{p31_pairs}
use Rattle.fields.specs.Laws.Pairs.{pair_product}
use Rattle.fields.specs.declared.p31.P31.{P31}
use Rattle.fields.specs.declared.refusal.Refusal.TheVariants.{NotBelowOrder}

-- the element of F31 that means n
abbrev pub f31 : ℕ → F31
f31 n = f31_field.element n

-- the element of F257 that means n
abbrev pub f257 : ℕ → F257
f257 n = f257_field.element n

-- the pair (a, b) of P31
abbrev pub p31 : ℕ → ℕ → P31
p31 a b = record { re = f31 a; im = f31 b }

pub record FieldExamples : Type 0 where
  pub f31-product : f31_field.mul (f31 1073741824) (f31 4) ≡ f31 2
  pub f31_refused : element_for f31_field 2147483647 ≡ Err NotBelowOrder
  pub f31_taken : element_for f31_field 2147483646 ≡ Ok (f31 2147483646)
  pub p31-product : pair_product f31_field p31_pairs (p31 1 2) (p31 3 4) ≡ p31 2147483642 10
  pub f257-product : f257_field.mul (f257 200) (f257 200) ≡ f257 165
  pub f257-zero-product : f257_field.mul (f257 0) (f257 200) ≡ f257 0
