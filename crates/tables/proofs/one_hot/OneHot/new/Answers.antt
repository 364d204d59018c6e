use Rattle.std.proofs.Common.{◌<◌, ◌≤◌, sym, ◌∙◌, arith}
use Rattle.tables.specs.Kinds.{address_below}
use Rattle.tables.proofs.Ranged.{all_ranged, exit_ranged}
use Rattle.tables.proofs.OneHots.{no_chunk_below, no_chunk_above, counted, chunk_answer, wrong_count, right_count}
use Rattle.tables.proofs.one_hot.OneHot.new.Goals as goal
use Rattle.tables.proofs.one_hot.OneHot.new.Goals.{then-chunk-lt1-via-then-chunk-lt1, then-chunk-lt1-via-else-chunk-lt1+then-chunk-chunks}

pub returns-then-chunk-lt1 : goal.returns-then-chunk-lt1
returns-then-chunk-lt1 c =
    let s = c.args.sizes in
    elim c.then-chunk-lt1.branch [
      | then-chunk-lt1-via-then-chunk-lt1 w ↦ no_chunk_below s c.args.chunk c.args.addresses w.if-chunk-lt1.true
      | then-chunk-lt1-via-else-chunk-lt1+then-chunk-chunks w ↦
          let above : s.d < c.args.chunk = omega (arith, w.if-chunk-chunks.true, w.chunks.ensures.value) in
          no_chunk_above s c.args.chunk c.args.addresses w.if-chunk-lt1.false above
    ]

pub returns-in_err-check_addresses : goal.returns-in_err-check_addresses
returns-in_err-check_addresses c =
    let s = c.args.sizes in
    let low = c.if-chunk-lt1.false in
    let high : c.args.chunk ≤ s.d = omega (arith, c.chunks.ensures.value) in
    exit_ranged (address_below c.cells.result) c.args.addresses.now (counted s c.args.chunk c.args.addresses low high) _ _ c.from_residual.ensures.1 c.in_err-check_addresses.ensures
    ∙ chunk_answer s c.args.chunk c.args.addresses low high c.cells.result c.cells.ensures

pub returns-then-addresses-cycles : goal.returns-then-addresses-cycles
returns-then-addresses-cycles c =
    let s = c.args.sizes in
    let low = c.if-chunk-lt1.false in
    let high : c.args.chunk ≤ s.d = omega (arith, c.chunks.ensures.value) in
    wrong_count s c.args.chunk c.args.addresses low high (λ e. c.if-addresses-cycles.true (e ∙ sym c.cycles.ensures))
    ∙ sym (all_ranged (address_below c.cells.result) 0 c.args.addresses.now (counted s c.args.chunk c.args.addresses low high) (sym c.in_ok-check_addresses.ensures))
    ∙ chunk_answer s c.args.chunk c.args.addresses low high c.cells.result c.cells.ensures

pub returns : goal.returns
returns c =
    let s = c.args.sizes in
    let i = c.args.chunk in
    let addresses = c.args.addresses in
    right_count s i addresses _ _ _
    ∙ sym (all_ranged (address_below c.cells.result) 0 addresses.now _ (sym c.in_ok-check_addresses.ensures))
    ∙ chunk_answer s i addresses _ _ c.cells.result c.cells.ensures
