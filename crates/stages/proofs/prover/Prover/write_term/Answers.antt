use Rattle.std.proofs.Common.{◌≡◌, map, ap, ◌∙◌, rules}
use Rattle.fields.specs.Fields.{elements}
use Rattle.tables.specs.Formulas.{eq}
use Rattle.rounds.specs.Accumulators.{coefficients, kept}
use Rattle.rounds.specs.Polynomials.{line}
use Rattle.stages.specs.Terms.{line_of, times_chunks, written_factor}
use Rattle.stages.proofs.Kept.{product_is}
use Rattle.stages.proofs.prover.Prover.write_term.Goals as goal

pub returns : goal.returns
returns g c =
    let f = g.F.Field.field in
    let weight : line g.F.Field.field c.line.result.low c.line.result.high ≡ line_of g.F.Field.field c.args.ends.now.low.now c.args.ends.now.high.now (eq g.F.Field.field (elements g.F.Field.field) c.args.draws.now) = search rules in
    let written : line g.F.Field.field c.line-2.result.low c.line-2.result.high ≡ line_of g.F.Field.field c.args.ends.now.low.now c.args.ends.now.high.now (written_factor g.F.Field.field c.args.self.now.plan c.args.self.now.memory) = search rules in
    let low = c.args.ends.now.low.now in
    let high = c.args.ends.now.high.now in
    let tables = map (λ m. (g.A.Committed.table m).entries) c.args.wa.now.tables.now in
    let product = c.times-product.ensures ∙ ap (λ s. kept f (times_chunks f s low high tables s.d (coefficients c.alone-weight.result))) c.requires.sizes in
    product_is f c.args.self.now.plan.sizes low high tables _ _ _ _ _ _ (c.alone-weight.ensures ∙ ap (kept f) weight) product written c.times.ensures
