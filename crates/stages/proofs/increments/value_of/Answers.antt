use Rattle.std.proofs.Common.{◌≡◌, ℕ, ◌+◌, ◌*◌, ◌^◌, ◌++◌, length, sym, ap, ◌∙◌, ap₂, arith, length-append, pow-add}
use Rattle.tables.specs.Sizes.{k}
use Rattle.stages.proofs.Halving.{value_of_memory}
use Rattle.stages.proofs.increments.value_of.Goals as goal

pub value_from-requires : goal.value_from-requires
value_from-requires g c =
    let s = c.args.sizes in
    let all : c.cells.result * c.cycles.result ≡ 2 ^ (k s + s.t) = ap₂ ◌*◌ c.cells.ensures c.cycles.ensures ∙ sym (pow-add 2 (k s) s.t) in
    let joined : length (c.args.address.now ++ c.args.cycle.now) ≡ k s + s.t = length-append c.args.address.now c.args.cycle.now ∙ ap₂ ◌+◌ c.requires.address c.requires.cycle in
    let inside : 2 ^ (g.M.Committed.table c.args.inc.now).variables ≡ 2 ^ (k s + s.t) = ap (λ (n : ℕ). 2 ^ n) c.requires.fits in
    record { count = all ∙ ap (λ (n : ℕ). 2 ^ n) (sym joined); inside = omega arith }

pub returns : goal.returns
returns g c =
    c.value_from.ensures
    ∙ value_of_memory g.F.Field.field c.args.sizes (g.M.Committed.table c.args.inc.now).entries c.args.address.now c.args.cycle.now c.requires.address c.requires.cycle
