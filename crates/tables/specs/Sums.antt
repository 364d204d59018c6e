-- Sums over the numbers below a bound, and the extension as such a sum.
use Rattle.std.specs.Prelude.{ℕ, zero, suc, ◌/◌, ◌%◌, ◌^◌, List, [], ◌∷◌}
use Rattle.fields.specs.Fields.{FieldOf, elements}
use Rattle.tables.specs.Formulas.{eq}

module _ {F : Type 0} (f : FieldOf F) where
  -- g 0 + g 1 + .. up to, and without, g n
  abbrev pub sum_below : ℕ → (ℕ → F) → F
  sum_below zero g = f.zero
  sum_below (suc n) g = f.add (sum_below n g) (g n)

  -- a bit as an element
  abbrev pub bit : ℕ → F
  bit zero = f.zero
  bit (suc n) = f.one

  -- the last n bits of a number as a point, the top one first
  abbrev pub corner : ℕ → ℕ → List F
  corner zero i = []
  corner (suc n) i = bit (i / 2 ^ n % 2) ∷ corner n i

  -- the multilinear extension of the entries e at a point: the sum over all indexes of the entry times eq of the index bits and the point
  abbrev pub extension_sum : ℕ → (ℕ → F) → List F → F
  extension_sum n e point = sum_below (2 ^ n) (λ i. f.mul (e i) (eq f (elements f) (corner n i) point))
