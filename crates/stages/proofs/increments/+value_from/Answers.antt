use Rattle.std.proofs.Common.{◌/◌, ◌^◌, ◌++◌, length, ap, ◌∙◌, arith, rules}
use Rattle.std.proofs.lemmas.List.{nil_from_length}
use Rattle.tables.specs.Tables.{entry}
use Rattle.stages.proofs.Halving.{from, halved, value_of_cell, value_halves}
use Rattle.stages.proofs.increments.+value_from.Goals as goal

pub cell_sums-requires : goal.cell_sums-requires
cell_sums-requires g t c =
    record {
      count = c.requires.count ∙ ap (λ z. 2 ^ length (z ++ c.args.cycle.now)) (nil_from_length c.args.address.now c.in_default.ensures.cases);
      inside = c.requires.inside;
    }

pub returns-in_default : goal.returns-in_default
returns-in_default g t c =
    let f = g.F.Field.field in
    let e = entry f (g.M.Committed.table c.args.inc.now).entries in
    cc (value_of_cell f (from e c.args.start) c.args.address.now c.args.cycle.now c.in_default.ensures.cases)

pub value_from-low-requires : goal.value_from-low-requires
value_from-low-requires g t c κs within =
    let j = c.args.cycle.now in
    let half = halved (c.args.address.now ++ j) (c.in-Some.rest.now ++ j) _ c.args.count (ap (λ z. z ++ j) c.in-Some.ensures.cases.0) c.requires.count in
    (search rules, (search rules, (search rules, (half.0, omega arith))))

pub value_from-high-requires : goal.value_from-high-requires
value_from-high-requires g t c κs within =
    let j = c.args.cycle.now in
    let half = halved (c.args.address.now ++ j) (c.in-Some.rest.now ++ j) _ c.args.count (ap (λ z. z ++ j) c.in-Some.ensures.cases.0) c.requires.count in
    (search rules, (search rules, (search rules, (half.0, omega arith))))

pub returns : goal.returns
returns g t c =
    let f = g.F.Field.field in
    let e = entry f (g.M.Committed.table c.args.inc.now).entries in
    let p = c.args.address.now in
    let rest = c.in-Some.rest.now in
    let j = c.args.cycle.now in
    let parts = c.in-Some.ensures.cases.0 in
    let half = (halved (p ++ j) (rest ++ j) _ c.args.count (ap (λ z. z ++ j) parts) c.requires.count).0 in
    cc (value_halves f e c.args.start (c.args.count / 2) _ p rest j parts half)
