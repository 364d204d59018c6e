use Rattle.std.proofs.Common.{◌-◌, ◌*◌, [], ◌∷◌, ◌++◌, Some, sym, refl, ap, ◌∙◌, arith}
use Rattle.std.proofs.lemmas.Option.{slice_get_past}
use Rattle.stages.specs.declared.plan.Kind.TheVariants.{Shout, Twist}
use Rattle.stages.specs.declared.plan.ChunkTable.TheVariants.{Ra, Wa}
use Rattle.stages.specs.declared.plan.Stage.TheVariants.{Read}
use Rattle.stages.specs.Plan.{chunk_stages, memory_stages, stages_of}
use Rattle.stages.proofs.Stages.{stage_by_index, nth_reads, nth_chunks, nth_after_chunks, length-shout}
use Rattle.stages.proofs.plan.Plan.stage_at.Goals as goal

pub returns-then-index-chunk_stages : goal.returns-then-index-chunk_stages
returns-then-index-chunk_stages c =
    let p = c.args.self in
    let i = c.in_ok-index.index in
    ap Some c.chunk_stage.ensures ∙ sym (stage_by_index p p.kind c.args.number i refl (omega arith) ∙ nth_reads p.kind p.sizes.d i (omega arith))

pub returns-in-Shout : goal.returns-in-Shout
returns-in-Shout c =
    let d = c.args.self.sizes.d in
    let i = c.in_ok-index.index in
    sym (stage_by_index c.args.self Shout c.args.number i c.in-Shout.is (omega arith) ∙ nth_after_chunks Ra d i 0 (Read ∷ []) (omega arith))

pub returns-in-Shout-2 : goal.returns-in-Shout-2
returns-in-Shout-2 c =
    let d = c.args.self.sizes.d in
    let i = c.in_ok-index.index in
    sym (stage_by_index c.args.self Shout c.args.number i c.in-Shout.is (omega arith) ∙ slice_get_past (stages_of Shout d) i (omega (arith, length-shout d)))

pub returns-in-Twist : goal.returns-in-Twist
returns-in-Twist c =
    let d = c.args.self.sizes.d in
    let i = c.in_ok-index.index in
    let j = i - 2 * c.chunks-chunk_stages.result in
    ap Some c.chunk_stage-in-Twist.ensures
    ∙ sym (stage_by_index c.args.self Twist c.args.number i c.in-Twist.is (omega arith)
    ∙ nth_after_chunks Ra d i j (chunk_stages Wa d ++ memory_stages) (omega arith) ∙ nth_chunks Wa d j memory_stages (omega arith))

pub returns-in-Twist-2 : goal.returns-in-Twist-2
returns-in-Twist-2 c =
    let d = c.args.self.sizes.d in
    let i = c.in_ok-index.index in
    let j = i - 2 * c.chunks-chunk_stages.result in
    c.last_stage.ensures
    ∙ sym (stage_by_index c.args.self Twist c.args.number i c.in-Twist.is (omega arith)
    ∙ nth_after_chunks Ra d i j (chunk_stages Wa d ++ memory_stages) (omega arith)
    ∙ nth_after_chunks Wa d j (j - 2 * c.chunks-chunk_stages.result) memory_stages (omega arith))
