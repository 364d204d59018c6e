use Rattle.std.proofs.Common.{refl, ap, ◌∙◌, sym, rules}
use Rattle.fields.specs.Fields.{elements, less}
use Rattle.tables.specs.Formulas.{lt, eq_pair}
use Rattle.tables.specs.Tables.{on_points}
use Rattle.tables.proofs.Folds.{folded_is}
use Rattle.tables.proofs.formulas.lt_at.Goals as goal

pub returns : goal.returns
returns g c =
    let f = g.F.Field.field in
    let xs = c.args.x.now in
    let ys = c.args.y.now in
    let step = λ (z a b : g.row.F.Denot). f.add (f.mul (less f f.one a) b) (f.mul (eq_pair f (elements f) a b) z) in
    c.fold_pairs.ensures step (λ z a b r k. search rules)
    ∙ ap (on_points f xs ys) (folded_is step c.zero_element.result (lt f (elements f)) (λ ys. sym c.zero_element.ensures) (λ x xs. sym c.zero_element.ensures) (λ x xs y ys. refl) xs ys)
