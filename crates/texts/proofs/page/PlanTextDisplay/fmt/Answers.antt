use Rattle.std.proofs.Common.{◌≡◌, ◌+◌, ◌^◌, ◌<◌, rules, inl, length, sym, ap, ◌∙◌, arith}
use Rattle.std.proofs.Output.{has_written_append, has_written_of_eq}
use Rattle.stages.specs.Plan.{stages, stages_from}
use Rattle.stages.proofs.Stages.{few_stages}
use Rattle.texts.proofs.Pages.{left_after, line_after, all_lines}
use Rattle.texts.proofs.page.PlanTextDisplay.fmt.Goals as goal

pub loop-index-init-derived : goal.loop-index-init-derived
loop-index-init-derived g c =
    let given = c.into_iter-index-iterator.ensures.into_iter_gives in
    let none : c.into_iter-index-iterator.result.count ≡ 0 = ap (λ it. it.count) given ∙ c.enumerate-index-items.ensures.count in
    let all : length (stages_from c.into_iter-index-iterator.result.iter.plan c.into_iter-index-iterator.result.iter.next) ≡ length (stages c.args.self.now.0) =
    ap (λ it. length (stages_from it.iter.plan it.iter.next)) given
    ∙ ap (λ s. length (stages_from s.plan s.next)) c.enumerate-index-items.ensures.source
    ∙ ap length c.stages.ensures in
    let fits : c.into_iter-index-iterator.result.count + length (stages_from c.into_iter-index-iterator.result.iter.plan c.into_iter-index-iterator.result.iter.next) < 2 ^ 64 =
    omega (arith, none, all, few_stages c.args.self.now.0) in
    ((tt, tt, inl fits), tt)

pub loop-index-preserved : goal.loop-index-preserved
loop-index-preserved g c =
    let p = c.args.self.now.0 in
    let i = c.loop-index.index-iterator.count in
    let here = c.loop-index.invariant.0 in
    let step = c.in-Some.ensures.steps in (
      left_after p i _ _ c.in-Some.stage here step.0 c.next.new.self.count step.2,
      λ plain. has_written_of_eq _ _ _ _ _ (line_after p i _ _ c.in-Some.stage here step.0 c.in-Some.index c.next.new.self.count step.1 step.2)
          (has_written_append _ _ _ _ _ _ (c.loop-index.invariant.1 plain) (search rules)),
    )

pub returns-clause-writes : goal.returns-clause-writes
returns-clause-writes g c plain ok =
    has_written_of_eq _ _ _ _ _
    (all_lines c.args.self.now.0 c.loop-index.index-iterator.count (sym c.loop-index.invariant.0 ∙ c.in-None.ensures.steps.0.0))
    (c.loop-index.invariant.1 plain)
