-- The end value that is due: the walk over the stages finds a stage that asks for it.
use Rattle.std.proofs.Common.{◌≡◌, ℕ, zero, suc, ◌+◌, ◌*◌, ◌<◌, ◌≤◌, Bool, true, ◌&&◌, eqb, length, Some, None, Option, sym, refl, ap, ◌∙◌, ⊎_elim, arith}
use Rattle.std.specs.List.{slice_get}
use Rattle.std.proofs.lemmas.Bool.{eqb-true, and_parts, or_cases, or_left, or_right, cases_lt, false≢true}
use Rattle.tables.specs.Limits.{most_variables}
use Rattle.stages.specs.declared.plan.Kind.{Kind}
use Rattle.stages.specs.declared.plan.Kind.TheVariants.{Shout, Twist}
use Rattle.stages.specs.declared.plan.Stage.{Stage}
use Rattle.stages.specs.declared.plan.Stage.TheVariants.{Bits, Row, Read, Write, Value}
use Rattle.stages.specs.declared.plan.Plan.{Plan}
use Rattle.stages.specs.Plan.{stages, draws, rounds, challenges, challenges_before}
use Rattle.stages.specs.Due.{point_size, asks, some_below, asks_here, asks_at, end_value_due}
use Rattle.stages.proofs.Stages.{rounds_bits, rounds_row, rounds_read, rounds_write, rounds-value}
use Rattle.stages.proofs.RoundBounds.{limits}
use Rattle.stages.proofs.Places.{before-suc}

pub some_found : (test : ℕ → Bool) (n i : ℕ) → i < n → test i ≡ true → some_below test n ≡ true
some_found test zero i h passes = absurd (omega arith)
some_found test (suc n) i h passes =
    ⊎_elim (λ below. or_left (some_below test n) (test n) (some_found test n i below passes))
    (λ not_below. let e : i ≡ n = omega arith in or_right (some_below test n) (test n) (sym (ap test e) ∙ passes))
    (cases_lt i n)

some_of : (test : ℕ → Bool) (n : ℕ) → some_below test n ≡ true → (i : ℕ) × (test i ≡ true)
some_of test zero h = absurd (false≢true h)
some_of test (suc n) h = ⊎_elim (λ l. some_of test n l) (λ r. (n, r)) (or_cases (some_below test n) (test n) h)

module _ (p : Plan) where
  -- draws and rounds are no more than a table has variables at most
  pub few_challenges : (g : Stage) → challenges p g ≤ 2 * most_variables
  few_challenges (Bits w) = omega (arith, rounds_bits p w, (limits p).chunk_variables)
  few_challenges (Row w) = omega (arith, rounds_row p w, (limits p).chunk_variables)
  few_challenges Read = omega (arith, rounds_read p, (limits p).variables)
  few_challenges Write = omega (arith, rounds_write p, (limits p).variables)
  few_challenges Value = omega (arith, rounds-value p, (limits p).variables)

  -- where the challenges of a stage end, by its draws and rounds
  pub end_of_turn : (i end d r : ℕ) (g : Stage) → slice_get (stages p) i ≡ Some g → end ≡ challenges_before p i → d ≡ draws p g → r ≡ rounds p g
      → end + (d + r) ≡ challenges_before p (suc i)
  end_of_turn i end d r g is e h k = omega (arith, before-suc p i g is)

  -- the test of a stage of the plan
  pub asks_of : (count i : ℕ) (g : Stage) → slice_get (stages p) i ≡ Some g → asks_at p count i ≡ (asks p.kind g && eqb (challenges_before p (suc i)) count)
  asks_of count i g is = ap (asks_here p count (challenges_before p (suc i))) is

  asked_rounds : (kind : Kind) (g : Stage) → asks kind g ≡ true → rounds p g ≡ point_size p
  asked_rounds Shout g h = absurd (false≢true h)
  asked_rounds Twist (Bits w) h = absurd (false≢true h)
  asked_rounds Twist (Row w) h = absurd (false≢true h)
  asked_rounds Twist Read h = rounds_read p
  asked_rounds Twist Write h = rounds_write p
  asked_rounds Twist Value h = absurd (false≢true h)

  -- where an end value is due, there are challenges for its point
  pub end_point-long : (count : ℕ) → end_value_due p count ≡ true → point_size p ≤ count
  end_point-long count due = let some = some_of (asks_at p count) (length (stages p)) due in by some.0 (slice_get (stages p) some.0) refl some.1
    where
      by : (i : ℕ) (o : Option Stage) → slice_get (stages p) i ≡ o → asks_here p count (challenges_before p (suc i)) o ≡ true → point_size p ≤ count
      by i None is h = absurd (false≢true h)
      by i (Some g) is h =
          let both = and_parts (asks p.kind g) (eqb (challenges_before p (suc i)) count) h in
          omega (arith, asked_rounds p.kind g both.0, eqb-true (challenges_before p (suc i)) count both.1, before-suc p i g is)
