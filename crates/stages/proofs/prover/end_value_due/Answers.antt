use Rattle.std.proofs.Common.{◌≡◌, suc, ◌+◌, false, ◌&&◌, eqb, [], ◌∷◌, ◌++◌, length, sym, ap, ◌∙◌, ⊎_elim, add-one, arith, length-append}
use Rattle.std.proofs.lemmas.Bool.{eq-eqb, ne_eqb, and_from, and_left, and_right, or_from}
use Rattle.std.proofs.lemmas.Option.{slice_get_within}
use Rattle.stages.specs.Plan.{stages, challenges_before}
use Rattle.stages.specs.Due.{asks, asks_at, some_below}
use Rattle.stages.proofs.Stages.{few_stages}
use Rattle.stages.proofs.StageWalk.{stage_here, seen_after}
use Rattle.stages.proofs.EndValues.{asks_of, few_challenges, some_found, end_of_turn}
use Rattle.stages.proofs.prover.end_value_due.Goals as goal

pub overflow_add-end-in-loop-stage : goal.overflow_add-end-in-loop-stage
overflow_add-end-in-loop-stage c =
    let p = c.args.plan in
    let seen = c.loop-stage.yielded in
    let here = stage_here p seen _ _ c.in-Some.stage c.in-Some.ensures.steps c.loop-stage.invariant.0 in
    omega (arith, few_challenges p c.in-Some.stage, few_stages p, slice_get_within (stages p) (length seen) c.in-Some.stage here, c.loop-stage.invariant.2, c.draws.ensures, c.rounds.ensures)

pub returns-then-end-count : goal.returns-then-end-count
returns-then-end-count c =
    let p = c.args.plan in
    let seen = c.loop-stage.yielded in
    let i = length seen in
    let stage = c.in-Some.stage in
    let here = stage_here p seen _ _ stage c.in-Some.ensures.steps c.loop-stage.invariant.0 in
    let end_is : c.loop-stage.end + (c.draws.result + c.rounds.result) ≡ challenges_before c.args.plan (suc (length c.loop-stage.yielded)) =
    end_of_turn p i c.loop-stage.end c.draws.result c.rounds.result stage here c.loop-stage.invariant.1 c.draws.ensures c.rounds.ensures in
    sym
    (some_found (asks_at p c.args.count) (length (stages p)) i (slice_get_within (stages p) i stage here)
    (asks_of p c.args.count i stage here
    ∙ and_from (asks p.kind stage) (eqb (challenges_before p (suc i)) c.args.count) (sym c.if-asks.ensures)
    (eq-eqb (challenges_before p (suc i)) c.args.count (sym end_is ∙ c.if-end-count.true))))

pub loop-stage-preserved : goal.loop-stage-preserved
loop-stage-preserved c =
    let p = c.args.plan in
    let seen = c.loop-stage.yielded in
    let i = length seen in
    let count = c.args.count in
    let stage = c.in-Some.stage in
    let here = stage_here p seen _ _ stage c.in-Some.ensures.steps c.loop-stage.invariant.0 in
    let end_is : c.loop-stage.end + (c.draws.result + c.rounds.result) ≡ challenges_before c.args.plan (suc (length c.loop-stage.yielded)) =
    end_of_turn p i c.loop-stage.end c.draws.result c.rounds.result stage here c.loop-stage.invariant.1 c.draws.ensures c.rounds.ensures in
    let longer : length (c.loop-stage.yielded ++ (c.in-Some.stage ∷ [])) ≡ suc (length c.loop-stage.yielded) = length-append seen (stage ∷ []) ∙ add-one i in
    let passes_not : (asks c.args.plan.kind c.in-Some.stage && eqb (challenges_before c.args.plan (suc (length c.loop-stage.yielded))) c.args.count) ≡ false =
    ⊎_elim
    (λ ends_not.
    and_right (asks p.kind stage) (eqb (challenges_before p (suc i)) count) (ne_eqb (challenges_before p (suc i)) count (λ e. ends_not.1 (end_is ∙ e))))
    (λ asks_not. and_left (asks p.kind stage) (eqb (challenges_before p (suc i)) count) (sym c.asks.ensures ∙ asks_not))
    c.else-asks.either in (
      seen_after p seen _ _ stage c.in-Some.ensures.steps c.loop-stage.invariant.0,
      end_is ∙ ap (challenges_before p) (sym longer),
      omega (arith, longer, few_challenges p stage, c.loop-stage.invariant.2, c.draws.ensures, c.rounds.ensures),
      ap (some_below (asks_at p count)) longer
          ∙ or_from (some_below (asks_at p count) i) (asks_at p count i) c.loop-stage.invariant.3 (asks_of p count i stage here ∙ passes_not),
    )
