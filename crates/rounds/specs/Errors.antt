-- Errors that a stage's draws are to catch: binding them at a draw, and the gap of a draw.
use Rattle.std.specs.Prelude.{◌≡◌, ℕ, zero, suc, ◌+◌, ◌-◌, ◌^◌, ◌<◌, cond, ◌⊎◌, List, [], ◌∷◌, ◌++◌, length}
use Rattle.fields.specs.Fields.{FieldOf, elements}
use Rattle.tables.specs.Formulas.{between, extension}
use Rattle.tables.specs.Tables.{tabulate}
use Rattle.rounds.specs.Polynomials.{Degree, Root, line, is_zero}

-- The errors e of n variables are e 0, e 1, .. up to, and without, e (2 ^ n). Those with the first variable zero come first.
module _ {F : Type 0} (f : FieldOf F) where
  -- each error is zero
  abbrev pub AllZero : ℕ → (ℕ → F) → Type 0
  AllZero n e = (i : ℕ) → i < 2 ^ n → e i ≡ f.zero

  -- errors of n + 1 variables bound at a draw g: (1 - g) e(0, b) + g e(1, b) at each index b of the other n variables
  abbrev pub bind : ℕ → (ℕ → F) → F → ℕ → F
  bind n e g b = between f (elements f) g (e b) (e (2 ^ n + b))

  -- errors of n variables bound at draws in turn
  abbrev pub bound_at : ℕ → (ℕ → F) → List F → ℕ → F
  bound_at n e [] = e
  bound_at zero e (g ∷ gs) = e
  bound_at (suc n) e (g ∷ gs) = bound_at n (bind n e g) gs

  -- the first polynomial that is not zero, and zero if there is none
  abbrev pub first_nonzero : List (List F) → List F
  first_nonzero [] = []
  first_nonzero (p ∷ ps) = let later = first_nonzero ps in cond (is_zero f p) later p

  -- the gap of a draw on errors of n + 1 variables: (1 - X) e(0, b) + X e(1, b) at the first index b where that is not zero
  abbrev pub draw_gap : ℕ → (ℕ → F) → List F
  draw_gap n e = first_nonzero (tabulate (2 ^ n) (λ b. line f (e b) (e (2 ^ n + b))))

-- errors of n + 1 variables and a draw
pub record Draw {F : Type 0} (f : FieldOf F) (n : ℕ) (e : ℕ → F) (g : F) : Type 0 where
  -- errors that are all zero once bound were all zero, unless the draw is a root of its gap
  pub sound : Root f (draw_gap f n e) g ⊎ (AllZero f n (bind f n e g) → AllZero f (suc n) e)
  -- the gap is a line
  pub gap_degree : Degree 1 (draw_gap f n e)
  -- errors that are all zero stay so
  pub complete : AllZero f (suc n) e → AllZero f n (bind f n e g)

-- errors of n variables and a stage's draws
pub record Draws {F : Type 0} (f : FieldOf F) (n : ℕ) (e : ℕ → F) (gs : List F) : Type 0 where
  -- one more draw binds what is bound
  pub one_more : (g : F) → length gs < n → bound_at f n e (gs ++ (g ∷ [])) ≡ bind f (n - suc (length gs)) (bound_at f n e gs) g
  -- bound at a draw for each variable they are their extension at the draws
  pub all : length gs ≡ n → bound_at f n e gs 0 ≡ extension f (elements f) n e gs

abbrev pub DrawsCatch : Type 0 → Type 0
DrawsCatch F = (f : FieldOf F) (n : ℕ) (e : ℕ → F) (g : F) → Draw f n e g

abbrev pub DrawsBind : Type 0 → Type 0
DrawsBind F = (f : FieldOf F) (n : ℕ) (e : ℕ → F) (gs : List F) → Draws f n e gs
