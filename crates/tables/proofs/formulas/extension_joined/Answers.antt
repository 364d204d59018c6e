use Rattle.std.proofs.Common.{◌≡◌, ◌++◌, length, ◌∙◌, rules}
use Rattle.tables.specs.Sums.{extension_sum}
use Rattle.tables.specs.Tables.{entry}
use Rattle.tables.proofs.Extension.{ext_flat}
use Rattle.tables.proofs.formulas.extension_joined.Goals as goal

pub returns-clause-sum : goal.returns-clause-sum
returns-clause-sum g c =
    let f = g.F.Field.field in
    let es = c.args.items.now in
    let p = c.args.head.now ++ c.args.tail.now in
    let flat : c.extend_joined.result ≡ extension_sum f (length p) (entry f es) p = c.extend_joined.ensures ∙ ext_flat f (length p) (entry f es) p in
    search rules
