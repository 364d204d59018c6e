-- Polynomials in one variable with coefficients in a field: lists, constant first.
use Rattle.std.specs.Prelude.{◌≡◌, ℕ, zero, suc, ◌≤◌, Bool, true, ◌&&◌, List, [], ◌∷◌, map, length, ◌==◌, ◌≢◌, slice_index_or}
use Rattle.fields.specs.Fields.{FieldOf, Ops, less}
use Rattle.tables.specs.Sums.{sum_below}

-- p has the degree n at most: no more than n + 1 coefficients
pub record Degree {F : Type 0} (n : ℕ) (p : List F) : Type 0 where
  pub within : length p ≤ suc n

module _ {F : Type 0} (f : FieldOf F) where
  -- the sum, coefficient by coefficient
  abbrev pub poly_add : List F → List F → List F
  poly_add [] q = q
  poly_add (a ∷ p) [] = a ∷ p
  poly_add (a ∷ p) (b ∷ q) = f.add a b ∷ poly_add p q

  -- the product: each coefficient of p times q, moved up by its power
  abbrev pub poly_mul : List F → List F → List F
  poly_mul [] q = []
  poly_mul (a ∷ p) q = poly_add (map (f.mul a) q) (f.zero ∷ poly_mul p q)

  -- a formula read over polynomials
  abbrev pub polynomials : Ops F (List F)
  polynomials = record { const = λ a. a ∷ []; plus = poly_add; times = poly_mul; minus = map f.neg }

  -- the variable itself
  abbrev pub X : List F
  X = f.zero ∷ f.one ∷ []

  -- the line that is low at zero and high at one
  abbrev pub line : F → F → List F
  line low high = low ∷ less f high low ∷ []

  -- the value of a polynomial at x
  abbrev pub value : List F → F → F
  value [] x = f.zero
  value (a ∷ p) x = f.add a (f.mul x (value p x))

  -- the coefficient of the power i of the variable
  abbrev pub coefficient : List F → ℕ → F
  coefficient p i = slice_index_or p i f.zero

  -- x multiplied by itself i times
  abbrev pub power : F → ℕ → F
  power x zero = f.one
  power x (suc i) = f.mul x (power x i)

  -- the value of a polynomial at x as the sum of its coefficients, each times its power of x
  abbrev pub power_sum : List F → F → F
  power_sum p x = sum_below f (length p) (λ i. f.mul (coefficient p i) (power x i))

  -- p with n coefficients: filled up with zeros, and what is past the first n is left out
  abbrev pub padded : ℕ → List F → List F
  padded zero p = []
  padded (suc n) [] = f.zero ∷ padded n []
  padded (suc n) (a ∷ p) = a ∷ padded n p

  -- every coefficient is zero
  abbrev pub Zero : List F → Type 0
  Zero p = (i : ℕ) → coefficient p i ≡ f.zero

  -- some coefficient is not zero
  abbrev pub Nonzero : List F → Type 0
  Nonzero p = (i : ℕ) × (coefficient p i ≢ f.zero)

  -- whether every coefficient is zero
  abbrev pub is_zero : List F → Bool
  is_zero [] = true
  is_zero (a ∷ p) = f.meaning a == f.meaning f.zero && is_zero p

  -- x is a root of p, and p is not zero
  pub record Root (p : List F) (x : F) : Type 0 where
    pub nonzero : Nonzero p
    pub vanishes : value p x ≡ f.zero
