use Rattle.std.proofs.Common.{◌≡◌, ℕ, ◌+◌, ◌<◌, ◌∷◌, ◌++◌, length, get_or}
use Rattle.tables.specs.Sums.{corner}
use Rattle.stages.proofs.prover.Point.new.Given as goal

-- the places gone through have their coordinates
abbrev pub invariant-loop-i : goal.invariant-loop-i
invariant-loop-i g l =
    let f = g.F.Field.field in
    (length l.place-items ≡ length l.r + 1 + l.left)
    × ((j : ℕ) → j < l.i → get_or l.place-items j f.zero ≡ get_or (l.r ++ (l.x ∷ corner f l.left l.index)) j f.zero)
