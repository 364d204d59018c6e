use Rattle.std.proofs.Common.{◌≤◌, ◌^◌, sym, ap, ◌∙◌, arith, pow_mono}
use Rattle.tables.specs.Limits.{most_variables}
use Rattle.tables.specs.Tables.{variables_upto, variables_in}
use Rattle.tables.proofs.Variables.{variables_by_logarithm}
use Rattle.tables.proofs.formulas.variables_of.Goals as goal

pub returns-then-count-eq0-clause-value : goal.returns-then-count-eq0-clause-value
unfolding variables_upto
returns-then-count-eq0-clause-value c = ap variables_in (sym c.if-count-eq0.true)

pub returns-clause-value : goal.returns-clause-value
returns-clause-value c =
    let log = c.ilog2.ensures in
    c.min.ensures ∙ sym (variables_by_logarithm most_variables c.ilog2.result c.args.count log.power_le log.next_power_gt)

pub returns-clause-enough : goal.returns-clause-enough
returns-clause-enough c = λ _.
    let fewer : c.min.result ≤ c.ilog2.result = omega arith in
    let power : 2 ^ c.min.result ≤ 2 ^ c.ilog2.result = pow_mono fewer in
    omega arith
