use Rattle.fields.specs.Laws.Solve.{con, ◌⊕◌, ◌⊖◌, ◌⊗◌, ◌≐◌, solve3}
use Rattle.tables.proofs.formulas.line_at.Goals as goal

pub returns : goal.returns
returns g c = cc (solve3 g.F.Field.field (λ x low high. low ⊕ x ⊗ (high ⊖ low) ≐ (con 1 ⊖ x) ⊗ low ⊕ x ⊗ high) tt c.args.x c.args.low c.args.high)
