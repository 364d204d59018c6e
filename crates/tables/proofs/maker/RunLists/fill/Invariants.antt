use Rattle.tables.proofs.Filling.{Entered}
use Rattle.tables.proofs.maker.RunLists.fill.Given as goal

abbrev pub invariant-loop-j : goal.invariant-loop-j
invariant-loop-j g l = Entered g.F.Field.field l.sizes l.operations l.j l.fn.self l.self

abbrev pub invariant-loop-j-2 : goal.invariant-loop-j-2
invariant-loop-j-2 g l = Entered g.F.Field.field l.sizes l.operations l.j l.fn.self l.self
