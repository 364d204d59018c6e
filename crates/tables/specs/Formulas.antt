-- The formulas of the protocol, each written once: read over elements they give numbers, over polynomials round polynomials.
use Rattle.std.specs.Prelude.{ℕ, zero, suc, ◌+◌, ◌^◌, List, [], ◌∷◌, map}
use Rattle.fields.specs.Fields.{FieldOf, Ops}

module _ {F R : Type 0} (f : FieldOf F) (o : Ops F R) where
  -- a less b
  abbrev pub less : R → R → R
  less a b = o.plus a (o.minus b)

  -- one less x
  abbrev pub from_one : R → R
  from_one x = less (o.const f.one) x

  -- the value at x of the line that is low at zero and high at one
  abbrev pub between : R → R → R → R
  between x low high = o.plus (o.times (from_one x) low) (o.times x high)

  -- eq of one pair: one where both are zero or both are one, and zero at the other corners
  abbrev pub eq_pair : R → R → R
  eq_pair x y = o.plus (o.times x y) (o.times (from_one x) (from_one y))

  -- the product of eq over the pairs of two points of one length; the empty product is one
  abbrev pub eq : List R → List R → R
  eq [] ys = o.const f.one
  eq (x ∷ xs) [] = o.const f.one
  eq (x ∷ xs) (y ∷ ys) = o.times (eq_pair x y) (eq xs ys)

  -- at corners: one where the number of the first point is less than that of the second, else zero
  abbrev pub lt : List R → List R → R
  lt [] ys = o.const f.zero
  lt (x ∷ xs) [] = o.const f.zero
  lt (x ∷ xs) (y ∷ ys) = o.plus (o.times (from_one x) y) (o.times (eq_pair x y) (lt xs ys))

  -- the sum of g over the corners of the cube of n variables, each corner with its number: the first variable is the top bit
  abbrev pub cube_sum : ℕ → (ℕ → List F → R) → R
  cube_sum zero g = g 0 []
  cube_sum (suc n) g =
      o.plus (cube_sum n (λ i b. g i (f.zero ∷ b))) (cube_sum n (λ i b. g (2 ^ n + i) (f.one ∷ b)))

  -- the multilinear extension of the entries e at a point: the sum over all corners of the entry there times eq
  abbrev pub extension : ℕ → (ℕ → F) → List R → R
  extension n e point = cube_sum n (λ i b. o.times (o.const (e i)) (eq (map o.const b) point))
