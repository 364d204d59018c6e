use Rattle.std.proofs.Common.{◌/◌, sym, ap, ◌∙◌}
use Rattle.tables.proofs.Weights.{weight, weight_last}
use Rattle.tables.proofs.formulas.weight.Goals as goal

pub loop-x-preserved : goal.loop-x-preserved
loop-x-preserved g c =
    let f = g.F.Field.field in
    let l = c.loop-x in
    let left = c.next.new.self.iter.rest.now in
    ap (f.mul (weight f (l.rest / 2) left)) c.times-product.ensures
    ∙ sym (f.mul_assoc (weight f (l.rest / 2) left) c.bit_weight.result l.product)
    ∙ ap (λ z. f.mul (f.mul (weight f (l.rest / 2) left) z) l.product) c.bit_weight.ensures
    ∙ ap (λ z. f.mul z l.product) (weight_last f left l.x-iterator.iter.rest.now c.in-Some.x.now l.rest c.in-Some.ensures.steps)
    ∙ l.invariant
