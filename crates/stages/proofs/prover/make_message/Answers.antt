use Rattle.std.proofs.Common.{◌≡◌, ℕ, ◌-◌, length, Err, sym, ap, ◌∙◌, subst, arith, rules}
use Rattle.fields.specs.declared.refusal.Refusal.TheVariants.{TablesDoNotFit, NothingDue}
use Rattle.rounds.specs.Accumulators.{coefficients}
use Rattle.stages.specs.declared.plan.Stage.{Stage}
use Rattle.stages.specs.declared.plan.Plan.{Plan}
use Rattle.stages.specs.Models.{plan_of, tables_fit, memory}
use Rattle.stages.specs.Plan.{Planned, draws, rounds, challenges_before}
use Rattle.stages.specs.Due.{point_size, message_answer, message_output}
use Rattle.stages.proofs.Due.{Begins, round_found, no_message_found, short_output, unfit_tables, message_made}
use Rattle.stages.proofs.prover.make_message.Goals as goal

-- the draws of a stage, as the code counts them at the plan that it has
drawn : {made p : Plan} {count : ℕ} (stage : Stage) → made ≡ p → count ≡ draws made stage → count ≡ draws p stage
drawn stage same is = is ∙ ap (λ p. draws p stage) same

pub returns-in_err-bound : goal.returns-in_err-bound
returns-in_err-bound g c =
    let m = memory g.A.Committed.table g.M.Committed.table g.V.Committed.table c.args.tables.now in
    let fit = tables_fit g.A.Committed.table g.M.Committed.table g.V.Committed.table c.args.sizes c.args.tables.now in
    let none =
    no_message_found c.plan-plan.ensures g.F.Field.field m c.args.challenges.now c.place-number.ensures.place (sym c.stage_at.ensures ∙ c.in_ok-stage.ensures.ok_part) (sym c.bound_at.ensures ∙ c.in_err-bound.ensures.ok_part) in
    let refused : c.from_residual-in_err-bound.result ≡ Err NothingDue = search rules in
    record { answer = refused ∙ sym (ap (message_answer fit c.args.output.now) none); output = sym (ap (message_output fit c.args.output.now) none) }

pub returns-then-output-bound : goal.returns-then-output-bound
returns-then-output-bound g c =
    let m = memory g.A.Committed.table g.M.Committed.table g.V.Committed.table c.args.tables.now in
    let fit = tables_fit g.A.Committed.table g.M.Committed.table g.V.Committed.table c.args.sizes c.args.tables.now in
    let due =
    round_found c.plan-plan.ensures c.place-number.ensures.place (sym c.stage_at.ensures ∙ c.in_ok-stage.ensures.ok_part) (sym c.bound_at.ensures ∙ c.in_ok-bound.ensures.ok_part) in
    let refused = short_output g.F.Field.field (plan_of c.args.sizes c.args.tables.now) m c.args.challenges.now c.place-number.result c.in_ok-stage.stage c.in_ok-bound.bound due fit c.args.output.now c.if-output-bound.true in
    record { answer = refused.0; output = refused.1 }

pub returns-in_err-prover : goal.returns-in_err-prover
returns-in_err-prover g c =
    let m = memory g.A.Committed.table g.M.Committed.table g.V.Committed.table c.args.tables.now in
    let fit = tables_fit g.A.Committed.table g.M.Committed.table g.V.Committed.table c.args.sizes c.args.tables.now in
    let due =
    round_found c.plan-plan.ensures c.place-number.ensures.place (sym c.stage_at.ensures ∙ c.in_ok-stage.ensures.ok_part) (sym c.bound_at.ensures ∙ c.in_ok-bound.ensures.ok_part) in
    let unfit = c.in_err-prover.ensures in
    let refused : c.from_residual-in_err-prover.result ≡ Err TablesDoNotFit = search rules in
    let answer = unfit_tables g.F.Field.field (plan_of c.args.sizes c.args.tables.now) m c.args.challenges.now c.place-number.result c.in_ok-stage.stage c.in_ok-bound.bound due fit c.args.output.now c.if-output-bound.false unfit.0 in
    record { answer = refused ∙ answer.0; output = answer.1 }

pub overflow_sub-start-2 : goal.overflow_sub-start-2
overflow_sub-start-2 g c =
    let due =
    round_found c.plan-plan.ensures c.place-number.ensures.place (sym c.stage_at.ensures ∙ c.in_ok-stage.ensures.ok_part) (sym c.bound_at.ensures ∙ c.in_ok-bound.ensures.ok_part) in
    omega (arith, due.count_is)

pub overflow_sub-start-3 : goal.overflow_sub-start-3
overflow_sub-start-3 g c =
    let due =
    round_found c.plan-plan.ensures c.place-number.ensures.place (sym c.stage_at.ensures ∙ c.in_ok-stage.ensures.ok_part) (sym c.bound_at.ensures ∙ c.in_ok-bound.ensures.ok_part) in
    omega (arith, due.count_is, drawn c.in_ok-stage.stage c.plan-plan.ensures c.draws.ensures)

pub round_polynomial-requires : goal.round_polynomial-requires
round_polynomial-requires g c =
    let due =
    round_found c.plan-plan.ensures c.place-number.ensures.place (sym c.stage_at.ensures ∙ c.in_ok-stage.ensures.ok_part) (sym c.bound_at.ensures ∙ c.in_ok-bound.ensures.ok_part) in
    let stage = c.in_ok-stage.stage in
    let start = length c.args.challenges.now - (c.place-number.result.1 - 1) - c.draws.result in
    let (fits, plan, memory_is, challenges) = c.in_ok-prover.ensures in
    let at = sym plan in
    let count = ap length challenges in
    let own = drawn c.in_ok-stage.stage c.plan-plan.ensures c.draws.ensures in
    record {
      planned = subst (λ p. Planned p.kind p.sizes.d stage) at due.planned_stage;
      before = λ value. omega (arith, due.point_before value, due.count_is, own, ap point_size plan);
      drawn = omega (arith, due.count_is, own, count, ap (λ p. draws p stage) plan);
      left = omega (arith, due.count_is, due.within, own, count, ap (λ p. draws p stage) plan, ap (λ p. rounds p stage) plan);
    }

pub returns : goal.returns
returns g c =
    let f = g.F.Field.field in
    let job = memory g.A.Committed.table g.M.Committed.table g.V.Committed.table in
    let fit = tables_fit g.A.Committed.table g.M.Committed.table g.V.Committed.table c.args.sizes c.args.tables.now in
    let p = plan_of c.args.sizes c.args.tables.now in
    let stage = c.in_ok-stage.stage in
    let from = length c.args.challenges.now - (c.place-number.result.1 - 1) - c.draws.result in
    let q = coefficients c.round_polynomial.result in
    let made = c.in_ok-prover.prover in
    let due =
    round_found c.plan-plan.ensures c.place-number.ensures.place (sym c.stage_at.ensures ∙ c.in_ok-stage.ensures.ok_part) (sym c.bound_at.ensures ∙ c.in_ok-bound.ensures.ok_part) in
    let (fits, plan, memory_is, challenges) = c.in_ok-prover.ensures in
    let start : length c.args.challenges.now - (c.place-number.result.1 - 1) - c.draws.result
    ≡ challenges_before (plan_of c.args.sizes c.args.tables.now) (c.place-number.result.0 - 1) =
    omega (arith, due.count_is, drawn c.in_ok-stage.stage c.plan-plan.ensures c.draws.ensures) in
    let begins =
    subst (λ xs. Begins f from stage q p (job c.args.tables.now) xs) challenges
    (subst (λ m. Begins f from stage q p m made.challenges) memory_is
    (subst (λ x. Begins f from stage q x made.memory made.challenges) plan c.round_polynomial.ensures)) in
    let done =
    message_made f p (job c.args.tables.now) c.args.challenges.now c.place-number.result stage c.in_ok-bound.bound due fit c.args.output.now q _ c.if-output-bound.false
    fits start begins in
    record { answer = c.write.ensures.answer ∙ done.0; output = c.write.ensures.places ∙ done.1 }
