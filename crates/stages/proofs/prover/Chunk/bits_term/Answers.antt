use Rattle.std.proofs.Common.{◌≡◌, ap, ◌∙◌, rules}
use Rattle.fields.specs.Fields.{elements}
use Rattle.tables.specs.Formulas.{eq}
use Rattle.rounds.specs.Accumulators.{kept}
use Rattle.rounds.specs.Polynomials.{poly_mul, line}
use Rattle.stages.specs.Formulas.{chunk_value}
use Rattle.stages.specs.Terms.{line_of}
use Rattle.stages.proofs.Kept.{kept_less, times_is}
use Rattle.stages.proofs.prover.Chunk.bits_term.Goals as goal

pub returns : goal.returns
returns g c =
    let f = g.F.Field.field in
    let entries = line_of f c.args.ends.now.low.now c.args.ends.now.high.now (chunk_value f c.args.self.now.sizes (elements f) (g.A.Committed.table c.args.self.now.table.now).entries) in
    let w = line_of f c.args.ends.now.low.now c.args.ends.now.high.now (eq f (elements f) c.args.draws.now) in
    let entry : line g.F.Field.field c.line-entry.result.low c.line-entry.result.high ≡ line_of g.F.Field.field c.args.ends.now.low.now c.args.ends.now.high.now (chunk_value g.F.Field.field c.args.self.now.sizes (elements g.F.Field.field) (g.A.Committed.table c.args.self.now.table.now).entries) = search rules in
    let weight : line g.F.Field.field c.line.result.low c.line.result.high ≡ line_of g.F.Field.field c.args.ends.now.low.now c.args.ends.now.high.now (eq g.F.Field.field (elements g.F.Field.field) c.args.draws.now) = search rules in
    let weighted = times_is f _ _ w _ entries (c.alone-weight.ensures ∙ ap (kept f) weight) entry c.times-weighted.ensures in
    let squared = times_is f _ _ (poly_mul f w entries) _ entries weighted entry c.times.ensures in
    c.minus.ensures ∙ kept_less f _ (poly_mul f (poly_mul f w entries) entries) _ (poly_mul f w entries) squared weighted
