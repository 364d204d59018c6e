use Rattle.std.proofs.Common.{◌-◌, length, sym, ap, ◌∙◌, arith, length-drop}
use Rattle.stages.specs.Due.{point_size}
use Rattle.stages.proofs.Coordinates.{back_part}
use Rattle.stages.proofs.EndValues.{end_point-long}
use Rattle.stages.proofs.prover.make_end_value.Goals as goal

pub overflow_sub-from : goal.overflow_sub-from
overflow_sub-from g c =
    omega (arith, c.point_size.ensures, end_point-long c.plan-plan.result (length c.args.challenges.now) (sym c.end_value_due.ensures ∙ c.if-not-end_value_due.false))

pub held_at-requires : goal.held_at-requires
held_at-requires g c =
    let xs = c.args.challenges.now in
    let long = end_point-long c.plan-plan.result (length xs) (sym c.end_value_due.ensures ∙ c.if-not-end_value_due.false) in
    let (fits, plan, memory_is, challenges) = c.in_ok-prover.ensures in
    ap length (back_part xs (length xs - c.point_size.result) (omega arith)) ∙ length-drop (length xs - c.point_size.result) xs
    ∙ omega (arith, long, c.point_size.ensures, ap point_size c.plan-plan.ensures, ap point_size plan)
