-- The worked examples, by computing.
use Rattle.std.proofs.Common.{◌∷◌, Some, refl, ap, ap₂}
use Rattle.fields.specs.F31.{f31-same}
use Rattle.tables.proofs.Worked.{table_examples}
use Rattle.stages.specs.Examples.{StageExamples}

pub stage_examples : StageExamples
stage_examples = record {
  of_tables = table_examples;
  draw_due = refl;
  bits_message = ap Some (ap₂ ◌∷◌ (f31-same _ _ refl) (ap₂ ◌∷◌ (f31-same _ _ refl) (ap₂ ◌∷◌ (f31-same _ _ refl) (ap₂ ◌∷◌ (f31-same _ _ refl) refl))));
  row_message = ap Some (ap₂ ◌∷◌ (f31-same _ _ refl) (ap₂ ◌∷◌ (f31-same _ _ refl) refl));
  read_message = ap Some (ap₂ ◌∷◌ (f31-same _ _ refl) (ap₂ ◌∷◌ (f31-same _ _ refl) (ap₂ ◌∷◌ (f31-same _ _ refl) refl)));
  all_done = refl;
}
