-- A formula of degree one in the variable of a round is a line along it.
use Rattle.std.proofs.Common.{◌≡◌, List, [], ◌∷◌, ◌++◌, sym, ap, ◌∙◌, ap₂, arith}
use Rattle.fields.specs.Fields.{FieldOf}
use Rattle.fields.specs.Laws.Solve.{con, ◌⊕◌, ◌⊖◌, ◌⊗◌, ◌≐◌, solve1, solve2, solve3}
use Rattle.rounds.specs.Polynomials.{Degree, line, value}
use Rattle.rounds.specs.Summands.{Summand, round_point, Agrees}
use Rattle.rounds.proofs.Rounds.{point_value}
use Rattle.stages.specs.Terms.{line_of}

module _ {F : Type 0} (f : FieldOf F) where
  -- a polynomial of degree one by its values at zero and at one
  line_through : (q : List F) → Degree 1 q → (x : F) → value f (line f (value f q f.zero) (value f q f.one)) x ≡ value f q x
  line_through [] d x = solve1 f (λ x. con 0 ⊕ x ⊗ ((con 0 ⊖ con 0) ⊕ x ⊗ con 0) ≐ con 0) tt x
  line_through (a ∷ []) d x =
      solve2 f (λ a x. (a ⊕ con 0 ⊗ con 0) ⊕ x ⊗ (((a ⊕ con 1 ⊗ con 0) ⊖ (a ⊕ con 0 ⊗ con 0)) ⊕ x ⊗ con 0) ≐ a ⊕ x ⊗ con 0) tt a x
  line_through (a ∷ b ∷ []) d x =
      solve3 f
      (λ a b x. (a ⊕ con 0 ⊗ (b ⊕ con 0 ⊗ con 0)) ⊕ x ⊗ (((a ⊕ con 1 ⊗ (b ⊕ con 1 ⊗ con 0)) ⊖ (a ⊕ con 0 ⊗ (b ⊕ con 0 ⊗ con 0))) ⊕ x ⊗ con 0) ≐ a ⊕ x ⊗ (b ⊕ x ⊗ con 0))
      tt a b x
  line_through (a ∷ b ∷ c ∷ q) d x = absurd (omega (arith, d.within))

-- the challenges r before the round's variable, and the coordinates b after it
module _ {F : Type 0} (f : FieldOf F) (r b : List F) where
  -- the line of a factor has at x the value of the factor where the variable is x
  abbrev pub IsLine : F → (List F → F) → Type 0
  IsLine x factor = value f (line_of f (r ++ (f.zero ∷ b)) (r ++ (f.one ∷ b)) factor) x ≡ factor (r ++ (x ∷ b))

  pub is_line : (s : Summand F) → Agrees f s → Degree 1 (s.polynomial_at (round_point f r b)) → (x : F) → IsLine x s.element_at
  is_line s agrees degree x =
      ap₂ (λ low high. value f (line f low high) x) (sym (at f.zero)) (sym (at f.one))
      ∙ line_through f (s.polynomial_at (round_point f r b)) degree x
      ∙ at x
    where
      at : (x : F) → value f (s.polynomial_at (round_point f r b)) x ≡ s.element_at (r ++ (x ∷ b))
      at x = agrees (round_point f r b) x ∙ ap s.element_at (point_value f r b x)
