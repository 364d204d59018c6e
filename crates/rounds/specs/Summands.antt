-- What a sum-check adds up, and the polynomials of its rounds.
use Rattle.std.specs.Prelude.{◌≡◌, ℕ, suc, List, [], ◌∷◌, ◌++◌, map}
use Rattle.fields.specs.Fields.{FieldOf, elements}
use Rattle.tables.specs.Formulas.{less, cube_sum}
use Rattle.rounds.specs.Polynomials.{Degree, polynomials, X, value, padded}
use Rattle.rounds.specs.Readings.{values}

-- one formula in its two readings, at a point of elements and at a point of polynomials
pub record Summand (F : Type 0) : Type 0 where
  pub element_at : List F → F
  pub polynomial_at : List (List F) → List F

module _ {F : Type 0} (f : FieldOf F) where
  -- the challenges r, the round's own variable, and a corner b of the variables after it
  abbrev pub round_point : List F → List F → List (List F)
  round_point r b = map (λ a. a ∷ []) r ++ (X f ∷ map (λ a. a ∷ []) b)

module _ {F : Type 0} (f : FieldOf F) (s : Summand F) where
  -- the polynomial has at x the value that the formula has where each coordinate is evaluated at x
  abbrev pub Agrees : Type 0
  Agrees = (point : List (List F)) (x : F) → value f (s.polynomial_at point) x ≡ s.element_at (values f x point)

  -- S(r): the sum over the corners of the variables left after the challenges r
  abbrev pub sum_after : List F → ℕ → F
  sum_after r left = cube_sum f (elements f) left (λ i b. s.element_at (r ++ b))

  -- the polynomial of the round after the challenges r, with so many variables left after its own
  abbrev pub round_polynomial : List F → ℕ → List F
  round_polynomial r left = cube_sum f (polynomials f) left (λ i b. s.polynomial_at (round_point f r b))

  -- the summand has the degree n at most in the variable of the round after r
  abbrev pub Bounded : ℕ → List F → Type 0
  Bounded n r = (b : List F) → Degree n (s.polynomial_at (round_point f r b))

  -- the message of that round as it is to be published: the round polynomial with one coefficient more than the bound
  abbrev pub published : ℕ → List F → ℕ → List F
  published bound r left = padded f (suc bound) (round_polynomial r left)

  -- the gap of that round's challenge: the message less the round polynomial
  abbrev pub round_gap : List F → ℕ → List F → List F
  round_gap r left message = less f (polynomials f) message (round_polynomial r left)
