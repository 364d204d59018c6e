-- The polynomial that the code works with: as many coefficients as the longest message has.
use Rattle.std.specs.Prelude.{◌≡◌, ℕ, ◌+◌, ⊤, cond, List, [], ◌∷◌, ◌++◌, length, drop, Ok, Err, Result, nat_le}
use Rattle.fields.specs.Fields.{FieldOf}
use Rattle.fields.specs.declared.refusal.Refusal.{Refusal}
use Rattle.fields.specs.declared.refusal.Refusal.TheVariants.{TooShort}
use Rattle.tables.specs.Limits.{most_chunks}
use Rattle.rounds.specs.Polynomials.{value, padded}
use Rattle.rounds.specs.declared.polynomial.Polynomial.{Polynomial}

-- the longest message: the bound of a round is two more than the chunks at most, and a message has one coefficient more
abbrev pub most_coefficients : ℕ
most_coefficients = most_chunks + 3

-- the coefficients, constant first
abbrev pub coefficients : {F : Type 0} → Polynomial F → List F
coefficients p = p.c0 ∷ p.c1 ∷ p.c2 ∷ p.c3 ∷ p.c4 ∷ p.c5 ∷ p.c6 ∷ []

-- R holds of each coefficient and its power, of which the first is i
abbrev pub AreFrom : {F : Type 0} → (ℕ → F → Type 0) → ℕ → List F → Type 0
AreFrom R i [] = ⊤
AreFrom R i (a ∷ p) = R i a × AreFrom R (i + 1) p

module _ {F : Type 0} (f : FieldOf F) where
  -- p with as many coefficients as there is room for
  abbrev pub kept : List F → List F
  kept p = padded f most_coefficients p

  -- the values of r are those of p and of q, multiplied
  abbrev pub Multiplies : List F → List F → List F → Type 0
  Multiplies r p q = (x : F) → value f r x ≡ f.mul (value f p x) (value f q x)

  -- an output list after it was given the first `count` coefficients of p: its first places have them; one that is too short is as before
  abbrev pub written : ℕ → List F → List F → List F
  written count p output = cond (nat_le count (length output)) (padded f count p ++ drop count output) output

  -- and what is answered
  abbrev pub write_answer : ℕ → List F → Result (Unit {0}) Refusal
  write_answer count output = cond (nat_le count (length output)) (Ok tt) (Err TooShort)
