use Rattle.std.proofs.Common.{◌≡◌}
use Rattle.rounds.specs.Accumulators.{coefficients, kept}
use Rattle.stages.specs.Terms.{corner_term, poly_sum}
use Rattle.stages.proofs.prover.Round.sum.Given as goal

-- the terms at the corners gone through are added up
abbrev pub invariant-loop-index : goal.invariant-loop-index
invariant-loop-index g l =
    let f = g.F.Field.field in
    let job = l.self.prover.now in
    coefficients l.sum
    ≡ kept f (poly_sum f l.index
    (corner_term f job.plan job.memory l.self.stage l.self.draws.now l.self.before.now l.self.r.now l.self.left))
