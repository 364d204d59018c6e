use Rattle.std.proofs.Common.{◌≡◌, ◌/◌, ◌%◌, sym, eq-eqb, ne_eqb}
use Rattle.tables.specs.Sizes.{cycle_count}
use Rattle.tables.specs.Kinds.{chunk_of}
use Rattle.tables.proofs.OneHots.{gives_of_row}
use Rattle.tables.proofs.one_hot.OneHotListed.entry.Goals as goal

pub returns-then-chunk_of-row : goal.returns-then-chunk_of-row
returns-then-chunk_of-row g c =
    let m = c.args.self.now in
    let here : chunk_of m.sizes m.chunk m.addresses.now (c.args.index % cycle_count m.sizes) ≡ c.args.index / cycle_count m.sizes = cc in
    gives_of_row g.F.Field.field m c.args.index _ _ _ c.chunk_variables.ensures.value (c.in_ok-check_index.ensures c.chunk_variables.ensures.bound) (sym (eq-eqb _ _ here)) c.one_element.ensures

pub returns-else-chunk_of-row : goal.returns-else-chunk_of-row
returns-else-chunk_of-row g c =
    let m = c.args.self.now in
    let apart : chunk_of m.sizes m.chunk m.addresses.now (c.args.index % cycle_count m.sizes) ≡ c.args.index / cycle_count m.sizes → ⊥ = λ e. c.if-chunk_of-row.false (cc) in
    gives_of_row g.F.Field.field m c.args.index _ _ _ c.chunk_variables.ensures.value (c.in_ok-check_index.ensures c.chunk_variables.ensures.bound) (sym (ne_eqb _ _ apart)) c.zero_element.ensures
