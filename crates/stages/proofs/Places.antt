-- The place of a count: the walk over the stages finds the first whose challenges go past it.
use Rattle.std.proofs.Common.{◌≡◌, ℕ, zero, suc, ◌+◌, ◌-◌, ◌<◌, ◌≤◌, Bool, true, false, ltb, length, get_or, take, Some, None, sum_by, Option, sym, refl, ap, ◌∙◌, subst, ap₂, ⊎_elim, arith, take_all, take-take}
use Rattle.std.specs.List.{slice_get}
use Rattle.std.proofs.lemmas.Option.{slice_get-get_or, slice_get_past, slice_get_within, get_or_from_slice_get}
use Rattle.std.proofs.lemmas.List.Sums.{sum_by_more, sum_by-take-le}
use Rattle.std.proofs.lemmas.Bool.{lt-ltb, le-ltb, ltb-true, ltb-false, cond-true, cond-false, cases_lt, cases_Bool}
use Rattle.stages.specs.declared.plan.Stage.{Stage}
use Rattle.stages.specs.declared.plan.Stage.TheVariants.{Read}
use Rattle.stages.specs.declared.plan.Plan.{Plan}
use Rattle.stages.specs.Plan.{stages, stage_at, draws, rounds, challenges, challenges_before, challenge_count}
use Rattle.stages.specs.Places.{first, first_past, round_of, place_in, place}

pub first_is : (test : ℕ → Bool) (n i : ℕ) → i < n → test i ≡ true → ((j : ℕ) → j < i → test j ≡ false) → first test n ≡ i
first_is test zero i h passes below = absurd (omega arith)
first_is test (suc n) zero h passes below = cond-true (test 0) 0 (suc (first (λ i. test (suc i)) n)) passes
first_is test (suc n) (suc i) h passes below =
    cond-false (test 0) 0 (suc (first (λ i. test (suc i)) n)) (below 0 (omega arith))
    ∙ ap suc (first_is (λ i. test (suc i)) n i (omega arith) passes (λ j k. below (suc j) (omega arith)))

pub first_none : (test : ℕ → Bool) (n : ℕ) → ((j : ℕ) → j < n → test j ≡ false) → first test n ≡ n
first_none test zero below = refl
first_none test (suc n) below =
    cond-false (test 0) 0 (suc (first (λ i. test (suc i)) n)) (below 0 (omega arith))
    ∙ ap suc (first_none (λ i. test (suc i)) n (λ j k. below (suc j) (omega arith)))

first_passes : (test : ℕ → Bool) (n : ℕ) → first test n < n → test (first test n) ≡ true
first_passes test zero h = absurd (omega arith)
first_passes test (suc n) h =
    let rest = first (λ i. test (suc i)) n in
    ⊎_elim (λ yes. ap test (cond-true (test 0) 0 (suc rest) yes) ∙ yes)
    (λ no. let e = cond-false (test 0) 0 (suc rest) no in ap test e ∙ first_passes (λ i. test (suc i)) n (omega (arith, e)))
    (cases_Bool (test 0))

first_not_before : (test : ℕ → Bool) (n i : ℕ) → i < first test n → test i ≡ false
first_not_before test zero i h = absurd (omega arith)
first_not_before test (suc n) zero h =
    ⊎_elim (λ yes. absurd (omega (arith, cond-true (test 0) 0 (suc (first (λ i. test (suc i)) n)) yes))) (λ no. no) (cases_Bool (test 0))
first_not_before test (suc n) (suc i) h =
    let rest = first (λ i. test (suc i)) n in
    ⊎_elim (λ yes. absurd (omega (arith, cond-true (test 0) 0 (suc rest) yes)))
    (λ no. first_not_before (λ i. test (suc i)) n i (omega (arith, cond-false (test 0) 0 (suc rest) no)))
    (cases_Bool (test 0))

module _ (p : Plan) where
  pub before-suc : (i : ℕ) (g : Stage) → slice_get (stages p) i ≡ Some g → challenges_before p (suc i) ≡ challenges_before p i + challenges p g
  before-suc i g is =
      let stage : get_or (stages p) i Read ≡ g = get_or_from_slice_get (stages p) i g Read is in
      let next : suc i ≡ i + 1 = omega arith in
      ap (challenges_before p) next
      ∙ sum_by_more (challenges p) (stages p) i Read (slice_get_within (stages p) i g is)
      ∙ ap (λ g. challenges_before p i + challenges p g) stage

  pub before_mono : (i j : ℕ) → i ≤ j → challenges_before p i ≤ challenges_before p j
  before_mono i j h =
      let same : sum_by (challenges p) (take i (take j (stages p))) ≡ challenges_before p i = ap (sum_by (challenges p)) (take-take i j (stages p) h) in
      omega (arith, sum_by-take-le (challenges p) (take j (stages p)) i)

  before_count : (i : ℕ) → challenges_before p i ≤ challenge_count p
  before_count i = sum_by-take-le (challenges p) (stages p) i

  -- all stages before i end at or before the count
  not_past : (count i : ℕ) → challenges_before p i ≤ count → (j : ℕ) → j < i → ltb count (challenges_before p (suc j)) ≡ false
  not_past count i h j k = le-ltb count (challenges_before p (suc j)) (omega (arith, before_mono (suc j) i k))

  pub place-within : (count i : ℕ) (g : Stage) → slice_get (stages p) i ≡ Some g → challenges_before p i ≤ count → count < challenges_before p i + challenges p g
      → place p count ≡ (suc i, round_of p count g (count - challenges_before p i))
  place-within count i g is low high =
      let found : first_past p count ≡ i = first_is (λ j. ltb count (challenges_before p (suc j))) (length (stages p)) i (slice_get_within (stages p) i g is)
      (lt-ltb count (challenges_before p (suc i)) (omega (arith, before-suc i g is))) (not_past count i low) in
      ap (λ j. place_in p count j (slice_get (stages p) j)) found ∙ ap (place_in p count i) is

  pub count_past : (count : ℕ) → challenge_count p ≤ count → place p count ≡ (0, 0)
  count_past count h =
      let none : first_past p count ≡ length (stages p) = first_none (λ j. ltb count (challenges_before p (suc j))) (length (stages p))
      (λ j k. le-ltb count (challenges_before p (suc j)) (omega (arith, before_count (suc j)))) in
      ap (λ j. place_in p count j (slice_get (stages p) j)) none ∙ ap (place_in p count (length (stages p))) (slice_get_past (stages p) (length (stages p)) (omega arith))

  pub place-past : (count i : ℕ) → slice_get (stages p) i ≡ None → challenges_before p i ≤ count → place p count ≡ (0, 0)
  place-past count i is low =
      ⊎_elim
      (λ h. let never : None ≡ Some (get_or (stages p) i Read) = sym is ∙ slice_get-get_or (stages p) i Read h in absurd cc)
      (λ h. count_past count (omega (arith, ap (sum_by (challenges p)) (take_all i (stages p) h))))
      (cases_lt i (length (stages p)))

  -- a stage by its number less one
  pub stage_index : (n : ℕ) → 1 ≤ n → stage_at p n ≡ slice_get (stages p) (n - 1)
  stage_index zero h = absurd (omega arith)
  stage_index (suc n) h = let e : n ≡ suc n - 1 = omega arith in ap (slice_get (stages p)) e

  -- the walk stands at stage n, with what is left of the count after the stages before
  module _ (count n left : ℕ) (some : 1 ≤ n) (so_far : challenges_before p (n - 1) + left ≡ count) where
    left_is : count - challenges_before p (n - 1) ≡ left
    left_is = omega arith

    number : suc (n - 1) ≡ n
    number = omega arith

    module _ (g : Stage) (is : stage_at p n ≡ Some g) where
      at : slice_get (stages p) (n - 1) ≡ Some g
      at = sym (stage_index n some) ∙ is

      pub walk_below : n ≤ length (stages p)
      walk_below = omega (arith, slice_get_within (stages p) (n - 1) g at)

      walk_within : (i : ℕ) → left < challenges p g → round_of p count g left ≡ i → place p count ≡ (n, i)
      walk_within i h round =
          place-within count (n - 1) g at (omega arith) (omega arith)
          ∙ ap (λ m. (suc (n - 1), round_of p count g m)) left_is
          ∙ ap (λ r. (suc (n - 1), r)) round
          ∙ ap (λ m. (m, i)) number

      pub walk_draw : left < draws p g → place p count ≡ (n, 0)
      walk_draw h = walk_within 0 (omega arith) (cond-true (ltb left (draws p g)) 0 (suc (left - draws p g)) (lt-ltb left (draws p g) h))

      pub walk_round : (i : ℕ) → draws p g + i ≡ left → i < rounds p g → place p count ≡ (n, i + 1)
      walk_round i e h =
          let round : suc (left - draws p g) ≡ i + 1 = omega arith in
          walk_within (i + 1) (omega arith) (cond-false (ltb left (draws p g)) 0 (suc (left - draws p g)) (le-ltb left (draws p g) (omega arith)) ∙ round)

      pub walk_on : (rest : ℕ) → challenges p g + rest ≡ left → challenges_before p (n + 1 - 1) + rest ≡ count
      walk_on rest e = let next : n + 1 - 1 ≡ suc (n - 1) = omega arith in omega (arith, ap (challenges_before p) next, before-suc (n - 1) g at)

    pub walk_past : stage_at p n ≡ None → place p count ≡ (0, 0)
    walk_past is = place-past count (n - 1) (sym (stage_index n some) ∙ is) (omega arith)

-- the count falls among the challenges of stage i, from 0
pub record Among (p : Plan) (count i : ℕ) (g : Stage) : Type 0 where
  pub is : slice_get (stages p) i ≡ Some g
  pub low : challenges_before p i ≤ count
  pub high : count < challenges_before p i + challenges p g

module _ (p : Plan) (count : ℕ) where
  before_first : (i : ℕ) → i ≡ first_past p count → challenges_before p i ≤ count
  before_first zero e = omega arith
  before_first (suc i) e =
      ltb-false count (challenges_before p (suc i)) (first_not_before (λ j. ltb count (challenges_before p (suc j))) (length (stages p)) i (omega arith))

  among_first : (g : Stage) → slice_get (stages p) (first_past p count) ≡ Some g → Among p count (first_past p count) g
  among_first g is =
      let passes = first_passes (λ j. ltb count (challenges_before p (suc j))) (length (stages p)) (slice_get_within (stages p) (first_past p count) g is) in
      record {
        is = is;
        low = before_first (first_past p count) refl;
        high = omega (arith, ltb-true count (challenges_before p (suc (first_past p count))) passes, before-suc p (first_past p count) g is);
      }

  -- of a place with a stage, the count falls among the challenges of that stage, and the round is the stage's own
  pub at_place : (at : ℕ × ℕ) (g : Stage) → place p count ≡ at → stage_at p at.0 ≡ Some g
      → Among p count (at.0 - 1) g × (at.1 ≡ round_of p count g (count - challenges_before p (at.0 - 1)))
  at_place at g placed stage = by (slice_get (stages p) (first_past p count)) refl placed
    where
      by : (o : Option Stage) → slice_get (stages p) (first_past p count) ≡ o → place_in p count (first_past p count) o ≡ at
          → Among p count (at.0 - 1) g × (at.1 ≡ round_of p count g (count - challenges_before p (at.0 - 1)))
      by None is placed =
          let never : None ≡ Some g = ap (λ x. stage_at p x.0) placed ∙ stage in absurd cc
      by (Some h) is placed =
          let here : Some h ≡ Some g = sym is ∙ ap (λ x. stage_at p x.0) placed ∙ stage in
          let same : h ≡ g = cc in
          let number : suc (first_past p count) ≡ at.0 = ap (λ x. x.0) placed in
          let index : first_past p count ≡ at.0 - 1 = omega arith in (
            subst (λ i. Among p count i g) index (among_first g (is ∙ here)),
            sym (ap (λ x. x.1) placed) ∙ ap₂ (λ s i. round_of p count s (count - challenges_before p i)) same index,
          )
