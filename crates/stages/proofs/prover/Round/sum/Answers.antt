use Rattle.std.proofs.Common.{◌≡◌, ◌^◌, ◌≤◌, ◌∙◌, add-one, arith}
use borrow.Author.Numbers.{two_to_63}
use Rattle.stages.proofs.Kept.{kept-plus}
use Rattle.stages.proofs.Stages.{rounds-within}
use Rattle.stages.proofs.prover.Round.sum.Goals as goal

pub loop-index-preserved : goal.loop-index-preserved
loop-index-preserved g c = rw add-one (c.plus-sum.ensures ∙ kept-plus g.F.Field.field _ _ _ _ c.loop-index.invariant c.corner_term.ensures)

pub returns : goal.returns
returns g c =
    let few : c.args.self.now.left ≤ 63 = omega (arith, c.requires.variables, rounds-within c.args.self.now.prover.now.plan c.args.self.now.stage) in
    let all : 2 ^ c.args.self.now.left ≡ c.loop-index.index = omega (arith, two_to_63 c.args.self.now.left few) in
    rw all c.loop-index.invariant
