-- The message that is due, by what the code finds of the plan.
use Rattle.std.proofs.Common.{◌≡◌, ℕ, zero, suc, ◌+◌, ◌-◌, ◌^◌, ◌<◌, ◌≤◌, Bool, true, false, cond, ◌&&◌, ltb, leb, List, [], ◌∷◌, ◌++◌, length, get_or, drop, Some, None, Ok, Err, Option, sym, refl, ap, ◌∙◌, subst, ap₂, ⊎_elim, arith, length-drop}
use lib.Seq.{slice}
use Rattle.std.proofs.lemmas.Option.{slice_get-get_or}
use Rattle.std.proofs.lemmas.Bool.{le-leb, lt-leb, ltb-false, cond-true, cond-false, and_from, and_left, and_right, cases_Bool}
use Rattle.fields.specs.Fields.{FieldOf}
use Rattle.fields.specs.declared.refusal.Refusal.TheVariants.{TooShort, TablesDoNotFit}
use Rattle.rounds.specs.Polynomials.{padded}
use Rattle.rounds.specs.Accumulators.{most_coefficients, kept, written, write_answer}
use Rattle.rounds.proofs.Padding.{padding}
use Rattle.stages.proofs.RoundTerms.{terms_add_up}
use Rattle.stages.specs.declared.plan.Stage.{Stage}
use Rattle.stages.specs.declared.plan.Stage.TheVariants.{Value}
use Rattle.stages.specs.declared.plan.Plan.{Plan}
use Rattle.stages.specs.Plan.{Planned, stage_at, draws, bounds, rounds, bound_at, challenges_before}
use Rattle.stages.specs.Places.{round_of, place}
use Rattle.stages.specs.Memory.{Memory}
use Rattle.stages.specs.Messages.{message}
use Rattle.stages.specs.Terms.{corner_term, poly_sum}
use Rattle.stages.specs.Due.{point_size, message_from, message_at, message_of_place, due_message, message_answer, message_output}
use Rattle.stages.proofs.RoundBounds.{bound_most}
use Rattle.stages.proofs.Places.{Among, at_place}
use Rattle.stages.proofs.Planned.{planned, point_before_value}

module _ {F : Type 0} (f : FieldOf F) where
  length-padded : (n : ℕ) (p : List F) → length (padded f n p) ≡ n
  length-padded zero p = refl
  length-padded (suc n) [] = ap suc (length-padded n [])
  length-padded (suc n) (a ∷ p) = ap suc (length-padded n p)

module _ {F : Type 0} (f : FieldOf F) (p : Plan) (m : Memory F) (g : Stage) (drawn before r : List F) where
  -- the bound of the round after r
  abbrev bound_after : ℕ
  bound_after = get_or (bounds p g) (length r) 0

  message-length : length (message f p m g drawn before r) ≡ suc bound_after
  message-length = length-padded f (suc bound_after) _

  -- a polynomial that keeps the sum of the terms begins with the message
  message-kept : (q : List F) → length r < rounds p g
      → q ≡ kept f (poly_sum f (2 ^ (rounds p g - suc (length r))) (corner_term f p m g drawn before r (rounds p g - suc (length r))))
      → padded f (length (message f p m g drawn before r)) q ≡ message f p m g drawn before r
  message-kept q h is =
      let few : suc bound_after ≤ most_coefficients = omega (arith, bound_most p g (length r) h) in
      ap₂ (padded f) message-length is ∙ (padding f (suc bound_after)).on_padded most_coefficients _ few ∙ terms_add_up f p m g drawn before r h

module _ {F : Type 0} (f : FieldOf F) (p : Plan) (m : Memory F) (challenges : List F) (start : ℕ) (g : Stage) where
  abbrev own : ℕ
  own = start + draws p g

  message_from-length : (i : ℕ) → own + i ≡ length challenges → length (message_from f p m challenges start g) ≡ suc (get_or (bounds p g) i 0)
  message_from-length i e =
      let done : length (drop own challenges) ≡ i = length-drop own challenges ∙ omega arith in
      message-length f p m g (slice start own challenges) (slice (start - point_size p) start challenges) (drop own challenges)
      ∙ ap (λ n. suc (get_or (bounds p g) n 0)) done

  -- the same with the parts of the challenges, and the number of variables left, as the code has them
  pub message_from-kept : (q drawn before r : List F) (left : ℕ) → left + suc (length r) ≡ rounds p g
      → drawn ≡ slice start own challenges → before ≡ slice (start - point_size p) start challenges → r ≡ drop own challenges
      → q ≡ kept f (poly_sum f (2 ^ left) (corner_term f p m g drawn before r left))
      → padded f (length (message_from f p m challenges start g)) q ≡ message_from f p m challenges start g
  message_from-kept q drawn before r left e is_drawn is_before is_r is =
      let l = ap length is_r in
      let left_is : left ≡ rounds p g - suc (length (drop own challenges)) = omega arith in
      let terms : List F → List F → List F → ℕ → List F = λ d b r n. kept f (poly_sum f (2 ^ n) (corner_term f p m g d b r n)) in
      message-kept f p m g (slice start own challenges) (slice (start - point_size p) start challenges) (drop own challenges) q (omega arith)
      (is ∙ ap (λ d. terms d before r left) is_drawn
      ∙ ap (λ b. terms (slice start own challenges) b r left) is_before
      ∙ ap₂ (terms (slice start own challenges) (slice (start - point_size p) start challenges)) is_r left_is)

-- a polynomial begins with the message of stage g
abbrev pub Begins : {F : Type 0} → FieldOf F → ℕ → Stage → List F → Plan → Memory F → List F → Type 0
Begins f start g q p m challenges = padded f (length (message_from f p m challenges start g)) q ≡ message_from f p m challenges start g

-- a round that is due at a count: the stage and the round of its place, and the round's bound
pub record RoundDue (p : Plan) (count : ℕ) (at : ℕ × ℕ) (g : Stage) (bound : ℕ) : Type 0 where
  pub placed : place p count ≡ at
  pub stage : stage_at p at.0 ≡ Some g
  pub some_round : 1 ≤ at.1
  pub planned_stage : Planned p.kind p.sizes.d g
  pub point_before : g ≡ Value → point_size p ≤ challenges_before p (at.0 - 1)
  pub count_is : challenges_before p (at.0 - 1) + draws p g + (at.1 - 1) ≡ count
  pub within : at.1 - 1 < rounds p g
  pub bound_is : get_or (bounds p g) (at.1 - 1) 0 ≡ bound

module _ (p : Plan) (count i : ℕ) (g : Stage) (among : Among p count i g) where
  abbrev past : ℕ
  past = count - challenges_before p i

  -- a round, and not a draw
  own_round : (round : ℕ) → suc round ≡ round_of p count g past → (challenges_before p i + draws p g + round ≡ count) × (round < rounds p g)
  own_round round is =
      ⊎_elim
      (λ drawing. absurd (omega (arith, cond-true (ltb past (draws p g)) 0 (suc (past - draws p g)) drawing)))
      (λ drawn.
      let e = cond-false (ltb past (draws p g)) 0 (suc (past - draws p g)) drawn in
      let h = ltb-false past (draws p g) drawn in
      let low = among.low in
      let high = among.high in
      (omega arith, omega arith))
      (cases_Bool (ltb past (draws p g)))

  -- each round has a bound
  draw_without_bound : (round : ℕ) → round ≡ round_of p count g past → bound_at p g round ≡ None → round ≡ 0
  draw_without_bound zero is none = refl
  draw_without_bound (suc round) is none =
      let some = sym (slice_get-get_or (bounds p g) round 0 (own_round round is).1) ∙ none in absurd cc

module _ (p : Plan) (count : ℕ) (g : Stage) where
  round_due : (at : ℕ × ℕ) (bound : ℕ) → place p count ≡ at → stage_at p at.0 ≡ Some g → bound_at p g at.1 ≡ Some bound → RoundDue p count at g bound
  round_due at bound placed stage bounded = by at.1 refl bounded
    where
      found : Among p count (at.0 - 1) g × (at.1 ≡ round_of p count g (count - challenges_before p (at.0 - 1)))
      found = at_place p count at g placed stage

      by : (round : ℕ) → at.1 ≡ round → bound_at p g round ≡ Some bound → RoundDue p count at g bound
      by zero e bounded = absurd cc
      by (suc round) e bounded =
          let own = own_round p count (at.0 - 1) g found.0 round (sym e ∙ found.1) in
          let less : at.1 - 1 ≡ round = omega arith in
          let same : Some (get_or (bounds p g) round 0) ≡ Some bound = sym (slice_get-get_or (bounds p g) round 0 own.1) ∙ bounded in
          let bound_is : get_or (bounds p g) round 0 ≡ bound = cc in
          let own_count = own.0 in
          let own_within = own.1 in
          record {
            placed = placed;
            stage = stage;
            some_round = omega arith;
            planned_stage = planned p.kind p.sizes.d (at.0 - 1) g found.0.is;
            point_before = λ value. point_before_value p (at.0 - 1) (found.0.is ∙ ap Some value);
            count_is = omega arith;
            within = omega arith;
            bound_is = ap (λ n. get_or (bounds p g) n 0) less ∙ bound_is;
          }

  -- where the next is a draw, nothing is due
  draw_due : (at : ℕ × ℕ) → place p count ≡ at → stage_at p at.0 ≡ Some g → bound_at p g at.1 ≡ None → at.1 ≡ 0
  draw_due at placed stage none =
      let found = at_place p count at g placed stage in draw_without_bound p count (at.0 - 1) g found.0 at.1 found.1 none

-- an output list that is given the coefficients of a polynomial that begins with the message q
module _ {F : Type 0} (f : FieldOf F) (q coefficients output : List F) (count : ℕ) (e : length q ≡ count) (h : count ≤ length output) where
  enough : leb count (length output) ≡ true
  enough = le-leb count (length output) h

  message-written : padded f (length q) coefficients ≡ q → written f count coefficients output ≡ q ++ drop (length q) output
  message-written is =
      cond-true (leb count (length output)) _ _ enough
      ∙ ap (λ n. padded f n coefficients ++ drop n output) (sym e)
      ∙ ap (λ x. x ++ drop (length q) output) is

  written_answer : write_answer f count output ≡ Ok tt
  written_answer = cond-true (leb count (length output)) _ _ enough

-- a call where the message q is due
module _ {F : Type 0} (fit : Bool) (output q : List F) (due : Option (List F)) (is : due ≡ Some q) where
  abbrev long : Bool
  long = leb (length q) (length output)

  answer_by : message_answer fit output due ≡ cond (leb (length q) (length output)) (cond fit (Ok tt) (Err TablesDoNotFit)) (Err TooShort)
  answer_by = ap (message_answer fit output) is

  output_by : message_output fit output due ≡ cond (leb (length q) (length output) && fit) (q ++ drop (length q) output) output
  output_by = ap (message_output fit output) is

  too_short : length output < length q → (message_answer fit output due ≡ Err TooShort) × (message_output fit output due ≡ output)
  too_short h =
      let no : leb (length q) (length output) ≡ false = lt-leb (length q) (length output) h in
      (answer_by ∙ cond-false long _ _ no, output_by ∙ cond-false (long && fit) _ _ (and_left long fit no))

  do_not_fit : length q ≤ length output → fit ≡ false → (message_answer fit output due ≡ Err TablesDoNotFit) × (message_output fit output due ≡ output)
  do_not_fit h misfit =
      let yes : leb (length q) (length output) ≡ true = le-leb (length q) (length output) h in
      (answer_by ∙ cond-true long _ _ yes ∙ cond-false fit _ _ misfit, output_by ∙ cond-false (long && fit) _ _ (and_right long fit misfit))

  made : length q ≤ length output → fit ≡ true → (message_answer fit output due ≡ Ok tt) × (message_output fit output due ≡ q ++ drop (length q) output)
  made h fits =
      let yes : leb (length q) (length output) ≡ true = le-leb (length q) (length output) h in
      (answer_by ∙ cond-true long _ _ yes ∙ cond-true fit _ _ fits, output_by ∙ cond-true (long && fit) _ _ (and_from long fit yes fits))

module _ {F : Type 0} (f : FieldOf F) (p : Plan) (m : Memory F) (challenges : List F) (at : ℕ × ℕ) (g : Stage) where
  message_due : (bound : ℕ) → RoundDue p (length challenges) at g bound → due_message f p m challenges ≡ Some (message_from f p m challenges (challenges_before p (at.0 - 1)) g)
  message_due bound due = ap (message_of_place f p m challenges) due.placed ∙ by at.1 due.some_round
    where
      start : ℕ
      start = challenges_before p (at.0 - 1)

      by : (round : ℕ) → 1 ≤ round → message_at f p m challenges start (stage_at p at.0) round ≡ Some (message_from f p m challenges start g)
      by zero h = absurd (omega arith)
      by (suc round) h = ap (λ o. message_at f p m challenges start o (suc round)) due.stage

  due_length : (bound : ℕ) → RoundDue p (length challenges) at g bound → length (message_from f p m challenges (challenges_before p (at.0 - 1)) g) ≡ bound + 1
  due_length bound due =
      message_from-length f p m challenges (challenges_before p (at.0 - 1)) g (at.1 - 1) due.count_is ∙ omega (arith, due.bound_is)

  no_message_due : place p (length challenges) ≡ at → stage_at p at.0 ≡ Some g → bound_at p g at.1 ≡ None → due_message f p m challenges ≡ None
  no_message_due placed stage none =
      let start = challenges_before p (at.0 - 1) in
      ap (message_of_place f p m challenges) placed
      ∙ ap₂ (λ o round. message_at f p m challenges start o round) stage (draw_due p (length challenges) g at placed stage none)

-- the calls at a round that is due, as the code answers them
module _ {F : Type 0} (f : FieldOf F) (p : Plan) (m : Memory F) (challenges : List F) (at : ℕ × ℕ) (g : Stage) (bound : ℕ) (due : RoundDue p (length challenges) at g bound)
    (fit : Bool) (output : List F) where
  abbrev owed : List F
  owed = message_from f p m challenges (challenges_before p (at.0 - 1)) g

  owed_is : due_message f p m challenges ≡ Some owed
  owed_is = message_due f p m challenges at g bound due

  owed-length : length owed ≡ bound + 1
  owed-length = due_length f p m challenges at g bound due

  pub short_output : length output ≤ bound
      → (Err TooShort ≡ message_answer fit output (due_message f p m challenges)) × (output ≡ message_output fit output (due_message f p m challenges))
  short_output h = let r = too_short fit output owed (due_message f p m challenges) owed_is (omega (arith, owed-length)) in (sym r.0, sym r.1)

  pub unfit_tables : bound < length output → fit ≡ false
      → (Err TablesDoNotFit ≡ message_answer fit output (due_message f p m challenges)) × (output ≡ message_output fit output (due_message f p m challenges))
  unfit_tables h misfit = let r = do_not_fit fit output owed (due_message f p m challenges) owed_is (omega (arith, owed-length)) misfit in (sym r.0, sym r.1)

  -- the polynomial that is written begins with the message from the start that the code has
  pub message_made : (coefficients : List F) (start : ℕ) → bound < length output → fit ≡ true → start ≡ challenges_before p (at.0 - 1)
      → Begins f start g coefficients p m challenges
      → (write_answer f (bound + 1) output ≡ message_answer fit output (due_message f p m challenges))
      × (written f (bound + 1) coefficients output ≡ message_output fit output (due_message f p m challenges))
  message_made coefficients start h fits start_is begins =
      let room : bound + 1 ≤ length output = omega arith in
      let r = made fit output owed (due_message f p m challenges) owed_is (omega (arith, owed-length)) fits in
      let owed_begins = subst (λ n. Begins f n g coefficients p m challenges) start_is begins in (
        written_answer f owed coefficients output (bound + 1) owed-length room ∙ sym r.0,
        message-written f owed coefficients output (bound + 1) owed-length room owed_begins ∙ sym r.1,
      )

-- the same by what the code finds, at the plan that it has
module _ {found p : Plan} (same : found ≡ p) where
  pub round_found : {count : ℕ} {at : ℕ × ℕ} {g : Stage} {bound : ℕ} → at ≡ place found count → stage_at found at.0 ≡ Some g → bound_at found g at.1 ≡ Some bound
      → RoundDue p count at g bound
  round_found {count} {at} {g} {bound} placed stage bounded =
      subst (λ x. RoundDue x count at g bound) same (round_due found count g at bound (sym placed) stage bounded)

  pub no_message_found : {F : Type 0} (f : FieldOf F) (m : Memory F) (challenges : List F) {at : ℕ × ℕ} {g : Stage}
      → at ≡ place found (length challenges) → stage_at found at.0 ≡ Some g → bound_at found g at.1 ≡ None → due_message f p m challenges ≡ None
  no_message_found f m challenges {at} {g} placed stage bounded =
      subst (λ x. due_message f x m challenges ≡ None) same (no_message_due f found m challenges at g (sym placed) stage bounded)
