use Rattle.std.proofs.Common.{◌≡◌, ℕ, ◌*◌, ◌<◌, ◌≤◌, length, refl, ap, ◌∙◌, subst, ap₂, arith, pow_pos}
use Rattle.std.proofs.lemmas.List.{get_or_read}
use Rattle.tables.specs.Sizes.{k, cell_count, cycle_count}
use Rattle.tables.specs.Maker.{placed}
use Rattle.tables.proofs.Filling.{Entered, filling_is, inc_none, inc_all, room_left, place_left, entered_more}
use Rattle.tables.proofs.maker.RunLists.fill.Goals as goal

pub loop-j-init : goal.loop-j-init
loop-j-init g c =
    let f = g.F.Field.field in
    let inc = c.args.self.now.inc.now in
    record {
      same = record { reads = refl; writes = refl; rv = refl; wv = refl; inc = refl };
      reads = refl;
      writes = refl;
      rv = refl;
      wv = refl;
      inc =
          c.clear.ensures
          ∙ ap₂ (λ (k t : ℕ). placed (k * t) (λ _. f.zero) inc) c.cells.ensures c.cycles-cycles.ensures
          ∙ inc_none f c.args.sizes c.args.operations.now inc;
    }

pub enter_cycle-requires-clause-lengths : goal.enter_cycle-requires-clause-lengths
enter_cycle-requires-clause-lengths g c =
    let below : c.loop-j.j < cycle_count c.args.sizes = omega (arith, c.requires.operations.few) in
    room_left g.F.Field.field c.args.sizes c.args.operations.now c.loop-j.j c.args.self.now c.loop-j.self c.requires.lengths below c.loop-j.invariant

pub loop-j-preserved : goal.loop-j-preserved
loop-j-preserved g c =
    let s = c.args.sizes in
    let ops = c.args.operations.now in
    let o = c.index-operations-j.result in
    let l = c.loop-j in
    let entered = c.enter_cycle.ensures in
    let below : l.j < cycle_count s = omega (arith, c.requires.operations.few) in
    let cell_below : o.write < cell_count s = omega (arith, ap (λ z. z.write) c.index-operations-j.is, c.requires.operations.writes_below l.j o c.loop-j-test.true) in
    entered_more g.F.Field.field s ops l.j c.args.self.now l.self c.requires.lengths below l.invariant
    o (get_or_read ops l.j o c.loop-j-test.true c.index-operations-j.is (record { read = 0; write = 0; value = g.F.Field.field.zero })) cell_below
    _ entered.same_lists entered.reads entered.writes entered.rv entered.wv entered.inc

pub loop-j-2-init : goal.loop-j-2-init
loop-j-2-init g c =
    let all : c.loop-j.j ≡ length c.args.operations.now = omega arith in
    subst (λ (j : ℕ). Entered g.F.Field.field c.args.sizes c.args.operations.now j c.args.self.now c.loop-j.self) all c.loop-j.invariant

pub enter_cycle-requires-in-loop-j-2-clause-lengths : goal.enter_cycle-requires-in-loop-j-2-clause-lengths
enter_cycle-requires-in-loop-j-2-clause-lengths g c =
    let below : c.loop-j-2.j < cycle_count c.args.sizes = omega (arith, c.cycles-cycles.ensures) in
    room_left g.F.Field.field c.args.sizes c.args.operations.now c.loop-j-2.j c.args.self.now c.loop-j-2.self c.requires.lengths below c.loop-j-2.invariant

pub enter_cycle-requires-in-loop-j-2-clause-place : goal.enter_cycle-requires-in-loop-j-2-clause-place
enter_cycle-requires-in-loop-j-2-clause-place g c =
    let below : c.loop-j-2.j < cycle_count c.args.sizes = omega (arith, c.cycles-cycles.ensures) in
    place_left g.F.Field.field c.args.sizes c.args.operations.now c.loop-j-2.j c.args.self.now c.loop-j-2.self c.requires.lengths below c.loop-j-2.invariant 0 (pow_pos (k c.args.sizes))

pub loop-j-2-preserved : goal.loop-j-2-preserved
loop-j-2-preserved g c =
    let s = c.args.sizes in
    let ops = c.args.operations.now in
    let l = c.loop-j-2 in
    let entered = c.enter_cycle-in-loop-j-2.ensures in
    let below : l.j < cycle_count s = omega (arith, c.cycles-cycles.ensures) in
    entered_more g.F.Field.field s ops l.j c.args.self.now l.self c.requires.lengths below l.invariant
    _ (filling_is g.F.Field.field s ops c.zero_element.result l.j c.zero_element.ensures (omega arith)) (pow_pos (k s))
    _ entered.same_lists entered.reads entered.writes entered.rv entered.wv entered.inc

pub returns-clause-inc : goal.returns-clause-inc
returns-clause-inc g c =
    let s = c.args.sizes in
    let ops = c.args.operations.now in
    let few : length ops ≤ c.cycles-cycles.result = omega (arith, c.cycles-cycles.ensures, c.requires.operations.few) in
    let all : c.loop-j-2.j ≡ cycle_count s = omega (arith, c.cycles-cycles.ensures, c.loop-j-2.auto.j-end few) in
    let inv = subst (λ (j : ℕ). Entered g.F.Field.field s ops j c.args.self.now c.loop-j-2.self) all c.loop-j-2.invariant in
    inv.inc ∙ inc_all g.F.Field.field s ops c.args.self.now.inc.now
