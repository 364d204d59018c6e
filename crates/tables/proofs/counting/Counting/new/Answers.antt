use Rattle.std.proofs.Common.{Ok, leb, ap, ◌∙◌}
use Rattle.std.proofs.Math.Bridge.{le_prop}
use Rattle.std.proofs.Math.Facts.{yes_leb}
use Rattle.tables.specs.Limits.{most_variables}
use Rattle.tables.proofs.Made.{made_if_holds}
use Rattle.tables.proofs.counting.Counting.new.Goals as goal

pub returns : goal.returns
returns c =
    let n = c.args.variables in
    ap (λ few. Ok (record { variables = n; few = few })) (le_prop _ _) ∙ made_if_holds (leb n most_variables) (yes_leb c.if-variables-gt-MOST_VARIABLES.false) _ _
