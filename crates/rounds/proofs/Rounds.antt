-- A round of a sum-check.
use Rattle.std.proofs.Common.{◌≡◌, ℕ, suc, ◌⊎◌, List, [], ◌∷◌, ◌++◌, map, sym, ap, ◌∙◌, ap₂, inl, inr, append_assoc, append-nil, map-id}
use mathlib.Core.Path.{fun_ext}
use mathlib.Core.List.{map-append}
use Rattle.fields.specs.Fields.{FieldOf, elements}
use Rattle.tables.specs.Formulas.{cube_sum}
use Rattle.tables.proofs.Cube.{sum_flat}
use Rattle.rounds.specs.Polynomials.{Degree, Root, X, value}
use Rattle.rounds.specs.Readings.{values}
use Rattle.rounds.specs.Summands.{Summand, round_point, Agrees, sum_after, round_polynomial, Bounded, published, round_gap}
use Rattle.rounds.specs.Rounds.{SumTest, RoundSums, ClaimPasses}
use Rattle.rounds.proofs.Values.{value-X, value-padded}
use Rattle.rounds.proofs.Readings.{at_point, on_cube_sum, on_consts}
use Rattle.rounds.proofs.Degrees.{degree_less, degree_cube_sum}
use Rattle.rounds.proofs.Zeros.{element-zero_or_not, zero_or_not, root_of_less, same-values}

module _ {F : Type 0} (f : FieldOf F) where
  -- a point of constants, evaluated at x
  pub consts-value : (xs : List F) (x : F) → values f x (map (λ a. a ∷ []) xs) ≡ xs
  consts-value xs x = on_consts f (at_point f x) xs ∙ map-id xs

  -- the point of a round, evaluated at x
  pub point_value : (r b : List F) (x : F) → values f x (round_point f r b) ≡ r ++ (x ∷ b)
  point_value r b x =
      map-append (λ p. value f p x) (map (λ a. a ∷ []) r) (X f ∷ map (λ a. a ∷ []) b)
      ∙ ap₂ ◌++◌ (consts-value r x) (ap₂ ◌∷◌ (value-X f x) (consts-value b x))

module _ {F : Type 0} (f : FieldOf F) (s : Summand F) (agrees : Agrees f s) (r : List F) (left : ℕ) where
  abbrev p : List F
  p = round_polynomial f s r left

  abbrev later : F → F
  later x = sum_after f s (r ++ (x ∷ [])) left

  at_challenge : (x : F) → value f p x ≡ later x
  at_challenge x =
      on_cube_sum f (at_point f x) left (λ i b. s.polynomial_at (round_point f r b))
      ∙ ap (cube_sum f (elements f) left) (fun_ext λ i. fun_ext λ b. agrees (round_point f r b) x ∙ ap s.element_at (point_value f r b x ∙ sym (append_assoc r (x ∷ []) b)))

  at_zero_and_one : SumTest f p (sum_after f s r (suc left))
  at_zero_and_one = ap₂ f.add (half f.zero) (half f.one)
    where
      half : (x : F) → value f p x ≡ cube_sum f (elements f) left (λ i b. s.element_at (r ++ (x ∷ b)))
      half x =
          at_challenge x
          ∙ ap (cube_sum f (elements f) left) (fun_ext λ i. fun_ext λ b. ap s.element_at (append_assoc r (x ∷ []) b))

  degree : (bound : ℕ) → Bounded f s bound r → Degree bound p
  degree bound h = degree_cube_sum f bound left (λ i b. s.polynomial_at (round_point f r b)) (λ i b. h b)

  pub round_sums : RoundSums f s r left
  round_sums = record {
    flat = sum_flat f left (λ i b. s.element_at (r ++ b));
    none_left = ap s.element_at (append-nil r);
    at_challenge = at_challenge;
    at_zero_and_one = at_zero_and_one;
    degree = degree;
  }

  sound : (message : List F) (claim x : F) → SumTest f message claim
      → Root f (round_gap f s r left message) x ⊎ (value f message x ≡ later x → claim ≡ sum_after f s r (suc left))
  sound message claim x test = elim (zero_or_not f (round_gap f s r left message)) [
    | inl z ↦ inr (λ h. sym test ∙ ap₂ f.add (same-values f message p f.zero z.1) (same-values f message p f.one z.1) ∙ at_zero_and_one)
    | inr n ↦ elim (element-zero_or_not f (value f (round_gap f s r left message) x)) [
      | inl v ↦ inl (record { nonzero = n.1; vanishes = v.1 })
      | inr v ↦ inr (λ h. absurd (v.1 (root_of_less f message p x (h ∙ sym (at_challenge x)))))
    ]
  ]

  complete : (bound : ℕ) → Bounded f s bound r → (claim x : F) → claim ≡ sum_after f s r (suc left)
      → SumTest f (published f s bound r left) claim × (value f (published f s bound r left) x ≡ later x)
  complete bound h claim x e = (ap₂ f.add (same f.zero) (same f.one) ∙ at_zero_and_one ∙ sym e, same x ∙ at_challenge x)
    where
      same : (x : F) → value f (published f s bound r left) x ≡ value f p x
      same x = value-padded f (suc bound) p x (degree bound h).within

  pub claim_passes : ClaimPasses f s r left
  claim_passes = record {
    sound = sound;
    gap_degree = λ bound h message d. degree_less f d (degree bound h);
    complete = complete;
  }
