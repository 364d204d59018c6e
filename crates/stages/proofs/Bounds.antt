-- The degree bound of each round of a stage, by its number.
use Rattle.std.proofs.Common.{◌≡◌, ℕ, ◌+◌, ◌-◌, ◌<◌, ◌≤◌, ◌++◌, replicate, Some, ◌∙◌, arith}
use lib.ListN.{length-replicate}
use Rattle.std.specs.List.{slice_get}
use Rattle.stages.proofs.Lists.{nth_append-left, nth_append_right, nth_replicate}

-- n address rounds of bound a, and m cycle rounds of bound b
pub nth_address : (n m a b i : ℕ) → i < n → slice_get (replicate n a ++ replicate m b) i ≡ Some a
nth_address n m a b i h =
    nth_append-left (replicate n a) (replicate m b) i (omega (arith, length-replicate n a)) ∙ nth_replicate n a i h

pub nth_cycle : (n m a b i : ℕ) → n ≤ i → i < n + m → slice_get (replicate n a ++ replicate m b) i ≡ Some b
nth_cycle n m a b i low high =
    nth_append_right (replicate n a) (replicate m b) i (i - n) (omega (arith, length-replicate n a)) ∙ nth_replicate m b (i - n) (omega arith)
