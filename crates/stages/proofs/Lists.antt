-- What stands at a place of two joined lists, and of a list of one value.
use Rattle.std.proofs.Common.{◌≡◌, ℕ, zero, suc, ◌+◌, ◌<◌, List, [], ◌∷◌, ◌++◌, length, replicate, Some, refl, ap, arith}
use Rattle.std.specs.List.{slice_get}

pub nth_append-left : {X : Type 0} (xs ys : List X) (i : ℕ) → i < length xs → slice_get (xs ++ ys) i ≡ slice_get xs i
nth_append-left [] ys i h = absurd (omega arith)
nth_append-left (x ∷ xs) ys zero h = refl
nth_append-left (x ∷ xs) ys (suc i) h = nth_append-left xs ys i (omega arith)

pub nth_append_right : {X : Type 0} (xs ys : List X) (i j : ℕ) → length xs + j ≡ i → slice_get (xs ++ ys) i ≡ slice_get ys j
nth_append_right [] ys i j h = let e : i ≡ j = omega arith in ap (slice_get ys) e
nth_append_right (x ∷ xs) ys zero j h = absurd (omega arith)
nth_append_right (x ∷ xs) ys (suc i) j h = nth_append_right xs ys i j (omega arith)

pub nth_replicate : {X : Type 0} (n : ℕ) (x : X) (i : ℕ) → i < n → slice_get (replicate n x) i ≡ Some x
nth_replicate zero x i h = absurd (omega arith)
nth_replicate (suc n) x zero h = refl
nth_replicate (suc n) x (suc i) h = nth_replicate n x i (omega arith)
