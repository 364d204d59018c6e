use Rattle.std.proofs.Common.{◌≡◌, ap, ◌∙◌, arith}
use Rattle.fields.specs.Fields.{ones}
use Rattle.tables.proofs.Made.{passed}
use Rattle.tables.proofs.Entries.{gives}
use Rattle.tables.proofs.counting.CountingListed.entry.Goals as goal

pub returns : goal.returns
returns g c =
    let f = g.F.Field.field in
    let m = c.args.self.now in
    let all : c.loop.counter ≡ c.args.index = omega arith in
    gives f m.variables m.few (ones f) c.args.index _ (passed _ (c.in_ok-check_index.ensures m.few)) (c.loop.invariant ∙ ap (ones f) all)
