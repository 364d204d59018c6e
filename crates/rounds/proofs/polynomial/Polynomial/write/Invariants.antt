use Rattle.std.proofs.Common.{◌≡◌, ◌++◌, drop}
use Rattle.rounds.specs.Polynomials.{padded}
use Rattle.rounds.specs.Accumulators.{coefficients}
use Rattle.rounds.proofs.polynomial.Polynomial.write.Given as goal

abbrev pub invariant-loop-i : goal.invariant-loop-i
invariant-loop-i g l = l.place-items ≡ padded g.F.Field.field l.i (coefficients l.self) ++ drop l.i l.initial.place-items
