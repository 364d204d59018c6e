use Rattle.std.proofs.Common.{◌≡◌, ◌↔◌, IsTrue, map, sym, ap, ◌∙◌, rules}
use Rattle.std.specs.List.{All}
use Rattle.stages.specs.Models.{all_have}
use Rattle.stages.proofs.Fits.{right_count, fits_each}
use Rattle.stages.proofs.memory.chunks_fit.Goals as goal

pub returns-then-tables-chunks : goal.returns-then-tables-chunks
returns-then-tables-chunks g c =
    let e = g.A.Committed.table in
    let xs = c.args.tables.now in
    let each : IsTrue c.all.result ↔ All (λ x. (g.A.Committed.table x).variables ≡ c.chunk_variables-variables.result) c.args.tables.now = search rules in
    fits_each e xs c.chunk_variables-variables.result c.all.result each
    ∙ ap (λ n. all_have n (map e xs)) c.chunk_variables-variables.ensures.value
    ∙ sym (right_count e xs c.args.sizes (c.if-tables-chunks.true ∙ c.chunks.ensures.value))
