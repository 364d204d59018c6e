use Rattle.std.proofs.Common.{◌≡◌, ◌+◌, ◌-◌, length, take, drop, decimal, sym, arith}
use Rattle.std.proofs.lemmas.Slice.{between_to_end}
use Rattle.texts.proofs.Numbers.{no_place, no_number, parted}
use Rattle.texts.proofs.job.number.Goals as goal

pub returns-in_err-count : goal.returns-in_err-count
returns-in_err-count c = rw c.from_residual.ensures (no_place c.args.bytes.now c.args.end c.requires (sym c.in_err-count.ensures))

pub returns-in_err-number : goal.returns-in_err-number
returns-in_err-number c =
    rw c.from_residual-in_err-number.ensures (no_number c.args.bytes.now c.args.end c.in_ok-count.count c.requires (sym c.in_ok-count.ensures) c.in_err-number.ensures)

pub returns : goal.returns
returns c =
    let bytes = c.args.bytes.now in
    let count = c.in_ok-count.count in
    let tail : take (length bytes - (count + 1)) (drop (count + 1) bytes) ≡ drop (count + 1) bytes = between_to_end bytes (count + 1) (length bytes) (omega arith) in
    (c.in_ok-number.ensures.0, rw tail (parted bytes (decimal c.in_ok-number.number) c.args.end count (sym c.in_ok-count.ensures) c.in_ok-number.ensures.1))
