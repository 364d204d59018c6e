use Rattle.std.proofs.Common.{ℕ, ◌*◌, ◌%◌, refl, ◌∙◌, ap₂}
use Rattle.fields.proofs.Powers.{powers_product}
use Rattle.fields.proofs.f257.F257ModuloPrimeMODULUS.product.Goals as goal

pub returns : goal.returns
returns c =
    c.power.ensures
    ∙ powers_product 3 256 257 refl c.exponent.result c.exponent-2.result
    ∙ ap₂ (λ (x y : ℕ). (x * y) % 257) c.exponent.ensures.power c.exponent-2.ensures.power
