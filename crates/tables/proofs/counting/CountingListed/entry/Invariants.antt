use Rattle.std.proofs.Common.{◌≡◌}
use Rattle.fields.specs.Fields.{ones}
use Rattle.tables.proofs.counting.CountingListed.entry.Given as goal

abbrev pub invariant-loop : goal.invariant-loop
invariant-loop g l = l.sum ≡ ones g.F.Field.field l.counter
