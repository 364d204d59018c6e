-- P31: pairs over F31, multiplied as complex numbers.
use Rattle.std.specs.Prelude.{refl}
use Rattle.fields.specs.Fields.{FieldOf}
use Rattle.fields.specs.F31.{F31, f31_field, f31_squares_apart}
use Rattle.fields.specs.Laws.Pairs.{Pairs, pair_field}
use Rattle.fields.specs.declared.p31.P31.{P31}

-- an element is the pair of its parts
abbrev pub p31_pairs : Pairs P31 F31
p31_pairs = record {
  re = λ x. x.re;
  im = λ x. x.im;
  pair = λ a b. record { re = a; im = b };
  re-pair = λ a b. refl;
  im-pair = λ a b. refl;
  same = λ x y e g i. record { re = e i; im = g i };
}

-- (a, b) means a + b · 2147483647; sums by parts, product (ac − bd, ad + bc).
-- It is a field since minus one is not a square in F31: 2147483647 is 3 modulo 4.
abbrev pub p31_field : FieldOf P31
p31_field = pair_field f31_field f31_squares_apart p31_pairs
