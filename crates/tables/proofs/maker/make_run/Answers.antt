use Rattle.std.proofs.Common.{sym}
use Rattle.tables.proofs.Runs.{fitting, placed_run}
use Rattle.tables.proofs.maker.make_run.Goals as goal

pub fill-requires-clause-operations : goal.fill-requires-clause-operations
fill-requires-clause-operations g c = fitting c.args.sizes c.args.operations.now (sym c.in_ok-check_operations.ensures)

pub returns-clause-run : goal.returns-clause-run
returns-clause-run g c = λ _.
    let lists = c.args.lists.now in
    let made = c.fill.ensures in
    placed_run g.F.Field.field c.args.sizes c.args.operations.now (fitting c.args.sizes c.args.operations.now (sym c.in_ok-check_operations.ensures))
    lists.reads.now lists.writes.now lists.rv.now lists.wv.now lists.inc.now
    _ _ _ _ _ made.reads made.writes made.rv made.wv made.inc
