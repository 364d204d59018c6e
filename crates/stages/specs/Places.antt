-- The place of a count of challenges in the plan: a stage and a round together.
use Rattle.std.specs.Prelude.{ℕ, zero, suc, ◌-◌, Bool, cond, ltb, length, Some, None, Option, nat_lt}
use Rattle.std.specs.List.{slice_get}
use Rattle.stages.specs.declared.plan.Stage.{Stage}
use Rattle.stages.specs.declared.plan.Plan.{Plan}
use Rattle.stages.specs.Plan.{stages, draws, challenges_before}

-- the first number below n where the test passes; n if there is none
abbrev pub first : (ℕ → Bool) → ℕ → ℕ
first test zero = 0
first test (suc n) = cond (test 0) 0 (suc (first (λ i. test (suc i)) n))

module _ (p : Plan) (count : ℕ) where
  -- the first stage, from 0, whose challenges go past the count
  abbrev pub first_past : ℕ
  first_past = first (λ i. ltb count (challenges_before p (suc i))) (length (stages p))

  -- the round of a stage at its challenge number i, from 0: 0 for a draw, else the round from 1
  abbrev pub round_of : Stage → ℕ → ℕ
  round_of g i = cond (nat_lt i (draws p g)) 0 (suc (i - draws p g))

  abbrev pub place_in : ℕ → Option Stage → ℕ × ℕ
  place_in i None = (0, 0)
  place_in i (Some g) = (suc i, round_of g (count - challenges_before p i))

  -- stage, from 1, and round; both 0 where no stage goes past the count
  abbrev pub place : ℕ × ℕ
  place = place_in first_past (slice_get (stages p) first_past)
