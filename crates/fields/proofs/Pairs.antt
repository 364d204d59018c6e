-- Elements of P31 of one meaning are equal.
use Rattle.std.proofs.Common.{◌≡◌}
use Rattle.fields.specs.P31.{p31_field}
use Rattle.fields.specs.declared.p31.P31.{P31}

pub p31_same : (x y : P31) → p31_field.meaning x ≡ p31_field.meaning y → x ≡ y
p31_same = p31_field.meaning_injective
