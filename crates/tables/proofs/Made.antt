-- A value that is made where a test passes, and a test that was passed.
use Rattle.std.proofs.Common.{◌≡◌, Bool, true, false, T, cond, Ok, Err, refl}
use Rattle.tables.specs.Sizes.{if_holds}

pub made_if_holds : {A : Type 0} (b : Bool) (h : T b) (made : T b → A) (other : A) → made h ≡ if_holds b made other
made_if_holds true h made other = refl
made_if_holds false h made other = absurd h

pub other_if_fails : {A : Type 0} (b : Bool) (made : T b → A) (other : A) → b ≡ false → other ≡ if_holds b made other
other_if_fails true made other e = cc
other_if_fails false made other e = refl

pub passed : {E : Type 0} {b : Bool} (e : E) → Ok tt ≡ cond b (Ok (tt {0})) (Err e) → true ≡ b
passed {b = true} e h = refl
passed {b = false} e h = absurd (cc)
