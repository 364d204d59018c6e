use Rattle.std.proofs.Common.{ℕ, ◌<◌, ◌≤◌, Ok, Err, Result, cond, leb, length, sym, ap, ◌∙◌, arith, le-leb}
use borrow.Author.Tests.{lt-leb}
use Rattle.fields.specs.declared.refusal.Refusal.{Refusal}
use Rattle.fields.specs.declared.refusal.Refusal.TheVariants.{WrongCount}
use Rattle.tables.specs.Sizes.{cycle_count}
use Rattle.tables.specs.Kinds.{if_all}
use Rattle.tables.specs.Maker.{addressed_below}
use Rattle.tables.proofs.Ranged.{all_ranged, exit_ranged}
use Rattle.tables.proofs.maker.check_operations.Goals as goal

pub returns-in_err-check_addresses : goal.returns-in_err-check_addresses
returns-in_err-check_addresses g c =
    let ops = c.args.operations.now in
    let v : Result (Unit {0}) Refusal = cond (leb (length ops) (cycle_count c.args.sizes)) (Ok tt) (Err WrongCount) in
    exit_ranged (addressed_below c.cells.result) ops v _ _ c.from_residual.ensures.1 c.in_err-check_addresses.ensures
    ∙ ap (λ (k : ℕ). if_all (addressed_below k) 0 ops v) c.cells.ensures

pub returns-then-operations-cycles : goal.returns-then-operations-cycles
returns-then-operations-cycles g c =
    let ops = c.args.operations.now in
    let T = cycle_count c.args.sizes in
    let v : Result (Unit {0}) Refusal = cond (leb (length ops) T) (Ok tt) (Err WrongCount) in
    let many : T < length ops = omega (arith, c.cycles.ensures) in
    sym (ap (λ b. cond b (Ok tt) (Err WrongCount)) (lt-leb (length ops) T many))
    ∙ sym (all_ranged (addressed_below c.cells.result) 0 ops v (sym c.in_ok-check_addresses.ensures))
    ∙ ap (λ (k : ℕ). if_all (addressed_below k) 0 ops v) c.cells.ensures

pub returns : goal.returns
returns g c =
    let ops = c.args.operations.now in
    let T = cycle_count c.args.sizes in
    let v : Result (Unit {0}) Refusal = cond (leb (length ops) T) (Ok tt) (Err WrongCount) in
    let few : length ops ≤ T = omega (arith, c.cycles.ensures) in
    sym (ap (λ b. cond b (Ok tt) (Err WrongCount)) (le-leb (length ops) T few))
    ∙ sym (all_ranged (addressed_below c.cells.result) 0 ops v (sym c.in_ok-check_addresses.ensures))
    ∙ ap (λ (k : ℕ). if_all (addressed_below k) 0 ops v) c.cells.ensures
