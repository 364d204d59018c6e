-- Worked examples of the fields, the formulas and a run, as one theorem.
use Rattle.std.specs.Prelude.{◌≡◌, ℕ, ◌*◌, List, [], ◌∷◌, map, Ok, Result}
use Rattle.fields.specs.Fields.{elements}
use Rattle.fields.specs.F31.{F31, f31_field}
use Rattle.fields.specs.F257.{F257, f257_field}
use Rattle.fields.specs.Examples.{FieldExamples, f31, f257}
use Rattle.fields.specs.declared.refusal.Refusal.{Refusal}
use Rattle.tables.specs.Sizes.{cell_count, cycle_count}
use Rattle.tables.specs.Formulas.{eq, lt, extension}
use Rattle.tables.specs.Tables.{entry, tabulate, on_points, on_table}
use Rattle.tables.specs.Maker.{rv_at, inc_at}
use Rattle.tables.specs.declared.size.Sizes.{Sizes}
use Rattle.tables.specs.declared.maker.Operation.{Operation}

-- elements of F31 and F257 by the numbers that they mean
abbrev pub f31s : List ℕ → List F31
f31s ns = map f31 ns

abbrev f257s : List ℕ → List F257
f257s ns = map f257 ns

-- the answer of the extension of a list at a point
abbrev extended : List F31 → List F31 → Result F31 Refusal
extended es point = on_table f31_field es point (extension f31_field (elements f31_field) 2 (entry f31_field es) point)

-- the answers of eq in F31, and of LT in F257
abbrev eq_of : List F31 → List F31 → Result F31 Refusal
eq_of x y = on_points f31_field x y (eq f31_field (elements f31_field) x y)

abbrev lt_of : List F257 → List F257 → Result F257 Refusal
lt_of x y = on_points f257_field x y (lt f257_field (elements f257_field) x y)

-- d = c = t = 1
abbrev smallest : Sizes
smallest = record { d = 1; c = 1; t = 1; ok = tt }

-- read 0, write 9 to 1; read 1, write 4 to 1
abbrev two_operations : List (Operation F31)
two_operations = record { read = 0; write = 1; value = f31 9 } ∷ record { read = 1; write = 1; value = f31 4 } ∷ []

pub record TableExamples : Type 0 where
  pub of_fields : FieldExamples
  pub extension-at_2_3 : extended (f31s (1 ∷ 2 ∷ 3 ∷ 4 ∷ [])) (f31s (2 ∷ 3 ∷ [])) ≡ Ok (f31 8)
  pub eq_of_2_5 : eq_of (f31s (2 ∷ [])) (f31s (5 ∷ [])) ≡ Ok (f31 14)
  pub lt_of_2_3 : lt_of (f257s (2 ∷ [])) (f257s (3 ∷ [])) ≡ Ok (f257_field.element 254)
  pub run_rv : tabulate (cycle_count smallest) (rv_at f31_field two_operations) ≡ f31s (0 ∷ 9 ∷ [])
  pub run_inc : tabulate (cell_count smallest * cycle_count smallest) (inc_at f31_field smallest two_operations) ≡ f31s (0 ∷ 0 ∷ 9 ∷ 2147483642 ∷ [])
