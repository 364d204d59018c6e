use Rattle.std.proofs.Common.{length, sym, ap, ◌∙◌, subst, arith}
use Rattle.std.specs.Iterator.{YieldsFirst}
use Rattle.stages.specs.declared.plan.Stages.{Stages}
use Rattle.stages.specs.Plan.{stages_from}
use Rattle.stages.proofs.Stages.{few_stages}
use Rattle.stages.proofs.StageWalk.{next_stage, no_stage, stage_number}
use Rattle.stages.proofs.plan.StagesIterator.next.Goals as goal

pub returns-in_err-stage-clause-steps : goal.returns-in_err-stage-clause-steps
returns-in_err-stage-clause-steps c =
    let s = c.args.self.now in
    let none = no_stage s.plan s.next (sym c.stage_at.ensures ∙ c.in_err-stage.was) in
    subst (λ r. YieldsFirst (λ (s : Stages). stages_from s.plan s.next) s r s) (sym c.from_residual.ensures) (none, none)

pub overflow_add-self : goal.overflow_add-self
overflow_add-self c =
    let s = c.args.self.now in
    omega (arith, stage_number s.plan s.next c.in_ok-stage.stage (sym c.stage_at.ensures ∙ c.in_ok-stage.was), few_stages s.plan)

pub returns-clause-steps : goal.returns-clause-steps
returns-clause-steps c =
    let s = c.args.self.now in next_stage s.plan s.next c.in_ok-stage.stage (sym c.stage_at.ensures ∙ c.in_ok-stage.was)

pub returns-clause-goes : goal.returns-clause-goes
returns-clause-goes c =
    let s = c.args.self.now in
    let next = next_stage s.plan s.next c.in_ok-stage.stage (sym c.stage_at.ensures ∙ c.in_ok-stage.was) in
    record { on = λ h. (tt, tt, omega (arith, ap length next)); keeps = tt; rests = λ h. tt }
