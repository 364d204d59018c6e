use Rattle.std.proofs.Common.{List, map, sym, ap, ◌∙◌}
use Rattle.stages.specs.Models.{memory}
use Rattle.stages.specs.Memory.{chunk_at, chunk_table}
use Rattle.stages.specs.Proving.{Proving}
use Rattle.stages.proofs.prover.Prover.chunk_table.Goals as goal

pub returns-in-Wa-Twist-clause-entries : goal.returns-in-Wa-Twist-clause-entries
returns-in-Wa-Twist-clause-entries g c =
    let job = memory g.A.Committed.table g.M.Committed.table g.V.Committed.table in
    let numbered : Proving g.row.F.Denot → List g.row.F.Denot = λ v. chunk_at v.memory.wa c.in-Wa-Twist.number in
    ap (chunk_table c.args.self.now.memory) c.in-Wa-Twist.is-0
    ∙ sym (ap numbered c.self.view_is)
    ∙ ap (λ tables. chunk_at (job tables).wa c.in-Wa-Twist.number) c.in-Wa-Twist.is-1
    ∙ ap (λ (xs : List g.row.A.Denot). chunk_at (map (λ m. (g.A.Committed.table m).entries) xs) c.in-Wa-Twist.number) (sym c.new.ensures.tables)
    ∙ c.numbered-in-Wa-Twist.ensures.entries
