use Rattle.std.proofs.Common.{◌≡◌, map}
use Rattle.rounds.specs.Accumulators.{coefficients, kept}
use Rattle.stages.specs.Terms.{times_chunks}
use Rattle.stages.proofs.prover.ChunkTables.times.Given as goal

-- the lines of the tables gone through are multiplied
abbrev pub invariant-loop-i : goal.invariant-loop-i
invariant-loop-i g l =
    let f = g.F.Field.field in
    coefficients l.product
    ≡ kept f (times_chunks f l.self.sizes l.ends.low.now l.ends.high.now (map (λ m. (g.A.Committed.table m).entries) l.self.tables.now) l.i (coefficients l.initial.product))
