-- The worked examples, by computing.
use Rattle.std.proofs.Common.{◌∷◌, Ok, refl, ap, ap₂}
use Rattle.fields.specs.F31.{f31-same}
use Rattle.fields.specs.F257.{f257-same}
use Rattle.fields.proofs.Examples.{field_examples}
use Rattle.tables.specs.Tables.{variables_upto}
use Rattle.tables.specs.Examples.{TableExamples}

pub table_examples : TableExamples
unfolding variables_upto
table_examples = record {
  of_fields = field_examples;
  extension-at_2_3 = ap Ok (f31-same _ _ refl);
  eq_of_2_5 = ap Ok (f31-same _ _ refl);
  lt_of_2_3 = ap Ok (f257-same _ _ refl);
  run_rv = ap₂ ◌∷◌ (f31-same _ _ refl) (ap₂ ◌∷◌ (f31-same _ _ refl) refl);
  run_inc = ap₂ ◌∷◌ (f31-same _ _ refl) (ap₂ ◌∷◌ (f31-same _ _ refl) (ap₂ ◌∷◌ (f31-same _ _ refl) (ap₂ ◌∷◌ (f31-same _ _ refl) refl)));
}
