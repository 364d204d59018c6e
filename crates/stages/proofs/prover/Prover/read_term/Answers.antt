use Rattle.std.proofs.Common.{◌≡◌, ℕ, ◌+◌, ◌-◌, List, length, take, drop, sym, ap, ◌∙◌, ap₂, arith, rules}
use Rattle.fields.specs.Fields.{elements}
use Rattle.tables.specs.Formulas.{eq}
use Rattle.tables.specs.Sizes.{k}
use Rattle.rounds.specs.Accumulators.{coefficients, kept}
use Rattle.rounds.specs.Polynomials.{line}
use Rattle.stages.specs.Formulas.{held_at}
use Rattle.stages.specs.Proving.{Proving}
use Rattle.stages.specs.Terms.{line_of, times_chunks}
use Rattle.stages.proofs.Coordinates.{back_part_from}
use Rattle.stages.proofs.Kept.{product_is}
use Rattle.stages.proofs.prover.Prover.read_term.Goals as goal

pub returns : goal.returns
returns g c =
    let f = g.F.Field.field in
    let s = c.args.self.now.plan.sizes in
    let low = c.args.ends.now.low.now in
    let high = c.args.ends.now.high.now in
    let size : Proving g.row.F.Denot → ℕ = λ v. k v.plan.sizes in
    let bits = c.address_bits-k.ensures.value ∙ ap size c.self.view_is in
    let cycle : (point : List g.row.F.Denot) → length point ≡ k s + s.t → take (length point - c.address_bits-k.result) (drop c.address_bits-k.result point) ≡ drop (k s) point =
    λ point h. back_part_from point c.address_bits-k.result (k s) bits (omega (arith, bits)) in
    let weight : List g.row.F.Denot → g.row.F.Denot = λ point. eq f (elements f) c.args.draws.now point in
    let ends : line g.F.Field.field c.line.result.low c.line.result.high ≡ line g.F.Field.field (eq g.F.Field.field (elements g.F.Field.field) c.args.draws.now (take (length c.args.ends.now.low.now - c.address_bits-k.result) (drop c.address_bits-k.result c.args.ends.now.low.now))) (eq g.F.Field.field (elements g.F.Field.field) c.args.draws.now (take (length c.args.ends.now.high.now - c.address_bits-k.result) (drop c.address_bits-k.result c.args.ends.now.high.now))) = search rules in
    let held : line g.F.Field.field c.line-2.result.low c.line-2.result.high ≡ line_of g.F.Field.field c.args.ends.now.low.now c.args.ends.now.high.now (held_at g.F.Field.field c.args.self.now.plan c.args.self.now.memory (elements g.F.Field.field)) = search rules in
    let first = c.alone-weight.ensures ∙ ap (kept f) (ends ∙ ap₂ (λ a b. line f (weight a) (weight b)) (cycle low c.requires.ends) (cycle high (omega (arith, c.requires.ends)))) in
    let product = c.times-product.ensures ∙ ap₂ (λ s tables. kept f (times_chunks f s low high tables s.d (coefficients c.alone-weight.result))) c.ra.ensures.sizes (sym c.ra.ensures.entries) in
    product_is f s low high c.args.self.now.memory.ra _ _ _ _ _ _ first product held c.times.ensures
