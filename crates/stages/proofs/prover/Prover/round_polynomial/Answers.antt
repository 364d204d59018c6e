use Rattle.std.proofs.Common.{◌≡◌, List, ◌+◌, ◌-◌, length, take, drop, ap, ◌∙◌, arith, length-drop}
use lib.Seq.{slice}
use Rattle.std.proofs.lemmas.Slice.{between_is}
use Rattle.rounds.specs.Accumulators.{coefficients}
use Rattle.stages.specs.declared.plan.Plan.{Plan}
use Rattle.stages.specs.Plan.{draws, rounds}
use Rattle.stages.specs.Due.{point_size}
use Rattle.stages.specs.Proving.{Proving}
use Rattle.stages.proofs.Coordinates.{back_part}
use Rattle.stages.proofs.Due.{message_from-kept}
use Rattle.stages.proofs.prover.Prover.round_polynomial.Goals as goal

pub returns : goal.returns
returns g c =
    let job = c.args.self.now in
    let p = job.plan in
    let start = c.args.start in
    let stage = c.args.stage in
    let xs = c.self.inside.challenges.now in
    let plan_of : Proving g.row.F.Denot → Plan = λ v. v.plan in
    let challenges_of : Proving g.row.F.Denot → List g.row.F.Denot = λ v. v.challenges in
    let plan = ap plan_of c.self.view_is in
    let challenges = ap challenges_of c.self.view_is in
    let count = ap length challenges in
    let drawn = c.draws.ensures ∙ ap (λ x. draws x stage) plan in
    let own = ap (λ n. start + n) drawn in
    let from : c.saturating_sub-from.result ≡ c.args.start - point_size c.args.self.now.plan = omega (arith, c.saturating_sub-from.ensures, c.point_size.ensures, ap point_size plan) in
    let rest = back_part xs (start + c.draws.result) (omega (arith, c.requires.drawn, drawn, count)) ∙ ap (λ n. drop n xs) own ∙ ap (drop (start + draws p stage)) challenges in
    let done = ap length rest ∙ length-drop (start + draws p stage) job.challenges in
    message_from-kept g.F.Field.field p job.memory job.challenges start stage
    (coefficients c.sum.result) _ _
    (take (length c.self.inside.challenges.now - (c.args.start + c.draws.result)) (drop (c.args.start + c.draws.result) c.self.inside.challenges.now))
    (c.rounds.result - 1 - length (take (length c.self.inside.challenges.now - (c.args.start + c.draws.result)) (drop (c.args.start + c.draws.result) c.self.inside.challenges.now)))
    (omega (arith, c.requires.left, c.requires.drawn, c.rounds.ensures, ap (λ x. rounds x stage) plan))
    (between_is xs start (start + c.draws.result) ∙ ap (λ n. slice start n xs) own ∙ ap (slice start (start + draws p stage)) challenges)
    (between_is xs c.saturating_sub-from.result start ∙ ap (λ n. slice n start xs) from ∙ ap (slice (start - point_size p) start) challenges)
    rest
    c.sum.ensures
