use Rattle.std.proofs.Common.{◌≡◌, [], length, Ok, fold, reverse, ap, ◌∙◌, rules, eq-eqb}
use Rattle.std.specs.List.{zip}
use Rattle.std.proofs.lemmas.Iterator.{YieldsList-from_zip}
use Rattle.std.proofs.lemmas.Iterator.Adapters.{YieldsList-from_rev_slice}
use Rattle.std.proofs.lemmas.Iterator.Consumers.{fold_from_yields_List}
use Rattle.tables.proofs.Folds.{fold_back}
use Rattle.tables.proofs.formulas.fold_pairs.Goals as goal

pub returns : goal.returns
returns g c = λ h by_step.
    let xs = c.args.x.now in
    let ys = c.args.y.now in
    let turn = λ (z : g.row.F.Denot) (ab : g.row.F.Denot × g.row.F.Denot). h z ab.0 ab.1 in
    let folded : c.fold.result ≡ fold turn c.args.start (zip (reverse xs) (reverse ys)) =
    fold_from_yields_List _ turn _ _ c.fold.ensures.ran
    (YieldsList-from_zip (YieldsList-from_rev_slice xs (cc)) (YieldsList-from_rev_slice ys (cc))) (λ a x b q k. search rules) in
    rw (eq-eqb (length xs) (length ys) c.if-x-y.false) (ap Ok (folded ∙ fold_back h c.args.start xs ys [] [] c.if-x-y.false))
