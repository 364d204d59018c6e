use Rattle.std.proofs.Common.{◌-◌, sym, ap, ◌∙◌, arith}
use Rattle.stages.proofs.Fits.{fits_count, fits_variables}
use Rattle.stages.proofs.prover.ChunkTables.numbered.Goals as goal

pub invariant_of-result : goal.invariant_of-result
invariant_of-result g c =
    let e = g.A.Committed.table in
    let xs = c.args.self.now.tables.now in
    let s = c.args.self.now.sizes in
    let fit = c.args.self.now.fit in
    let x = c.index-self-number.result in
    record {
      variables = ap (λ y. (e y).variables) (sym c.index-self-number.is)
          ∙ fits_variables e xs s fit (c.args.number - 1) x (omega (arith, fits_count e xs s fit)) c.index-self-number.is;
    }
