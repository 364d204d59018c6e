-- What a round of a sum-check is worth, whatever the summand.
use Rattle.std.specs.Prelude.{◌≡◌, ℕ, suc, ◌^◌, ◌<◌, ◌≤◌, ◌⊎◌, List, [], ◌∷◌, ◌++◌, length, take, drop}
use Rattle.fields.specs.Fields.{FieldOf}
use Rattle.tables.specs.Sums.{sum_below, corner}
use Rattle.rounds.specs.Polynomials.{Degree, Root, value}
use Rattle.rounds.specs.Readings.{degrees}
use Rattle.rounds.specs.Summands.{Summand, round_point, Agrees, sum_after, round_polynomial, Bounded, published, round_gap}

module _ {F : Type 0} (f : FieldOf F) where
  -- the sum test: the values of the message at zero and at one add up to the claim
  abbrev pub SumTest : List F → F → Type 0
  SumTest message claim = f.add (value f message f.zero) (value f message f.one) ≡ claim

-- where the round's variable, the one coordinate of degree 1, stands: among the first k coordinates if fewer are bound, else after them
pub record RoundVariable {F : Type 0} (f : FieldOf F) (k : ℕ) (r b : List F) : Type 0 where
  pub before : length r < k → (degrees (take k (round_point f r b)) ≡ 1) × (degrees (drop k (round_point f r b)) ≡ 0)
  pub after : k ≤ length r → (degrees (take k (round_point f r b)) ≡ 0) × (degrees (drop k (round_point f r b)) ≡ 1)

-- the sum after the challenges r, and the polynomial of the round that follows
pub record RoundSums {F : Type 0} (f : FieldOf F) (s : Summand F) (r : List F) (left : ℕ) : Type 0 where
  -- the sum goes over the numbers of the corners
  pub flat : sum_after f s r left ≡ sum_below f (2 ^ left) (λ i. s.element_at (r ++ corner f left i))
  -- with no variable left it is the summand itself
  pub none_left : sum_after f s r 0 ≡ s.element_at r
  -- the polynomial is at x the sum that is left once x is the challenge
  pub at_challenge : (x : F) → value f (round_polynomial f s r left) x ≡ sum_after f s (r ++ (x ∷ [])) left
  -- its values at zero and at one add up to the sum over the round's variable too
  pub at_zero_and_one : SumTest f (round_polynomial f s r left) (sum_after f s r (suc left))
  -- its degree is the summand's
  pub degree : (bound : ℕ) → Bounded f s bound r → Degree bound (round_polynomial f s r left)

-- a claim on the sum after r, once a message has passed the sum test and x is the challenge
pub record ClaimPasses {F : Type 0} (f : FieldOf F) (s : Summand F) (r : List F) (left : ℕ) : Type 0 where
  -- a claim that is true afterwards was true before, unless x is a root of the gap
  pub sound : (message : List F) (claim x : F) → SumTest f message claim
      → Root f (round_gap f s r left message) x ⊎ (value f message x ≡ sum_after f s (r ++ (x ∷ [])) left → claim ≡ sum_after f s r (suc left))
  -- the gap has no higher degree than message and summand
  pub gap_degree : (bound : ℕ) → Bounded f s bound r → (message : List F) → Degree bound message → Degree bound (round_gap f s r left message)
  -- the published message passes the test for a true claim, and the claim stays true
  pub complete : (bound : ℕ) → Bounded f s bound r → (claim x : F) → claim ≡ sum_after f s r (suc left)
      → SumTest f (published f s bound r left) claim × (value f (published f s bound r left) x ≡ sum_after f s (r ++ (x ∷ [])) left)

abbrev pub RoundVariablesStand : Type 0 → Type 0
RoundVariablesStand F = (f : FieldOf F) (k : ℕ) (r b : List F) → RoundVariable f k r b

abbrev pub RoundSumsStand : Type 0 → Type 0
RoundSumsStand F = (f : FieldOf F) (s : Summand F) → Agrees f s → (r : List F) (left : ℕ) → RoundSums f s r left

abbrev pub ClaimsPass : Type 0 → Type 0
ClaimsPass F = (f : FieldOf F) (s : Summand F) → Agrees f s → (r : List F) (left : ℕ) → ClaimPasses f s r left
