use Rattle.std.proofs.Common.{◌≡◌, ◌+◌, ◌*◌, ◌++◌}
use Rattle.fields.specs.Fields.{elements}
use Rattle.tables.specs.Formulas.{eq}
use Rattle.tables.specs.Sizes.{cycle_count}
use Rattle.tables.specs.Sums.{sum_below, corner}
use Rattle.tables.specs.Kinds.{chunk_of}
use Rattle.tables.proofs.one_hot.OneHotCommitted.open.Given as goal

abbrev pub invariant-loop-j : goal.invariant-loop-j
invariant-loop-j g l =
    let f = g.F.Field.field in
    let m = l.self in
    let s = m.sizes in
    l.sum ≡ sum_below f l.j (λ j. eq f (elements f) (corner f (s.c + s.t) (chunk_of s m.chunk m.addresses.now j * cycle_count s + j)) (l.head ++ l.tail))
