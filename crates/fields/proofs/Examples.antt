-- The worked examples, by computing.
use Rattle.std.proofs.Common.{refl}
use Rattle.fields.specs.F31.{f31-same}
use Rattle.fields.specs.F257.{f257-same}
use Rattle.fields.proofs.Pairs.{p31_same}
use Rattle.fields.specs.Examples.{FieldExamples}

pub field_examples : FieldExamples
field_examples = record {
  f31-product = f31-same _ _ refl;
  f31_refused = refl;
  f31_taken = refl;
  p31-product = p31_same _ _ refl;
  f257-product = f257-same _ _ refl;
  f257-zero-product = f257-same _ _ refl;
}
