use Rattle.std.proofs.Common.{◌/◌, ap, ◌∙◌, add-zero, arith, rules}
use Rattle.tables.specs.Tables.{entry}
use Rattle.stages.proofs.Halving.{from, halved, all_of_one, before_of_one, all_halves, before_halves}
use Rattle.stages.proofs.increments.+cell_sums.Goals as goal

pub returns-in_default : goal.returns-in_default
returns-in_default g t c =
    let f = g.F.Field.field in
    let e = entry f (g.M.Committed.table c.args.inc.now).entries in
    let start = c.args.start in
    let first = ap e (add-zero start) in
    record {
      all = cc (first, all_of_one f (from e start) c.args.cycle.now c.in_default.ensures.cases);
      before = c.zero_element.ensures ∙ before_of_one f (from e start) c.args.cycle.now c.in_default.ensures.cases;
    }

pub cell_sums-low-requires : goal.cell_sums-low-requires
cell_sums-low-requires g t c κs within =
    let half = halved c.args.cycle.now c.in-Some.rest.now _ c.args.count c.in-Some.ensures.cases.0 c.requires.count in
    (search rules, (search rules, (search rules, (half.0, omega arith))))

pub cell_sums-high-requires : goal.cell_sums-high-requires
cell_sums-high-requires g t c κs within =
    let half = halved c.args.cycle.now c.in-Some.rest.now _ c.args.count c.in-Some.ensures.cases.0 c.requires.count in
    (search rules, (search rules, (search rules, (half.0, omega arith))))

pub returns : goal.returns
returns g t c =
    let f = g.F.Field.field in
    let e = entry f (g.M.Committed.table c.args.inc.now).entries in
    let p = c.args.cycle.now in
    let rest = c.in-Some.rest.now in
    let parts = c.in-Some.ensures.cases.0 in
    let half = (halved p rest _ c.args.count parts c.requires.count).0 in
    record {
      all = cc (all_halves f e c.args.start (c.args.count / 2) _ p rest parts half);
      before = cc (before_halves f e c.args.start (c.args.count / 2) _ p rest parts half);
    }
