use Rattle.std.proofs.Common.{◌≤◌, length, sym, ◌∙◌, arith}
use Rattle.stages.specs.Plan.{stages}
use Rattle.stages.proofs.Stages.{few_stages}
use Rattle.stages.proofs.Places.{count_past, walk_below, walk_draw, walk_round, walk_on, walk_past}
use Rattle.stages.proofs.plan.Plan.place.Goals as goal

below : (c : goal.After-loop-round) → c.walk.number ≤ length (stages c.args.self)
below c = walk_below c.args.self c.args.count c.walk.number c.walk.left c.walk.invariant.0 c.walk.invariant.1 c.in-Some.stage (sym c.in-Some.ensures)

pub overflow_add-number : goal.overflow_add-number
overflow_add-number c = omega (arith, below c, few_stages c.args.self)

pub walk-smaller : goal.walk-smaller
walk-smaller c = omega (arith, below c)

pub walk-preserved : goal.walk-preserved
walk-preserved c = (
  omega arith,
  walk_on c.args.self c.args.count c.walk.number c.walk.left c.walk.invariant.0 c.walk.invariant.1 c.in-Some.stage (sym c.in-Some.ensures)
      c.loop-round.left (omega arith),
)

pub returns-in_default-clause-place : goal.returns-in_default-clause-place
returns-in_default-clause-place c =
    sym (walk_past c.args.self c.args.count c.walk.number c.walk.left c.walk.invariant.0 c.walk.invariant.1 (sym c.in_default.ensures))

pub returns-then-left-draws : goal.returns-then-left-draws
returns-then-left-draws c =
    let e = walk_draw c.args.self c.args.count c.walk.number c.walk.left c.walk.invariant.0 c.walk.invariant.1 c.in-Some.stage (sym c.in-Some.ensures) (omega arith) in
    record { place = sym e; past = λ h. sym e ∙ count_past c.args.self c.args.count h }

pub returns-then-left-eq0 : goal.returns-then-left-eq0
returns-then-left-eq0 c =
    let e = walk_round c.args.self c.args.count c.walk.number c.walk.left c.walk.invariant.0 c.walk.invariant.1 c.in-Some.stage (sym c.in-Some.ensures)
    c.loop-round.round (omega arith) (omega arith) in
    record { place = sym e; past = λ h. sym e ∙ count_past c.args.self c.args.count h }
