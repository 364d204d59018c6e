use Rattle.std.proofs.Common.{refl, ap, ◌∙◌, sym, rules}
use Rattle.fields.specs.Fields.{elements}
use Rattle.tables.specs.Formulas.{eq, eq_pair}
use Rattle.tables.specs.Tables.{on_points}
use Rattle.tables.proofs.Folds.{folded_is}
use Rattle.tables.proofs.formulas.eq_at.Goals as goal

pub returns : goal.returns
returns g c =
    let f = g.F.Field.field in
    let xs = c.args.x.now in
    let ys = c.args.y.now in
    let step = λ (z a b : g.row.F.Denot). f.mul (eq_pair f (elements f) a b) z in
    c.fold_pairs.ensures step (λ z a b r k. search rules)
    ∙ ap (on_points f xs ys) (folded_is step c.one_element.result (eq f (elements f)) (λ ys. sym c.one_element.ensures) (λ x xs. sym c.one_element.ensures) (λ x xs y ys. refl) xs ys)
