-- Items with their addresses in range: the first that is not, and none.
use Rattle.std.proofs.Common.{◌≡◌, ℕ, suc, ◌+◌, Bool, true, false, cond, not, List, [], ◌∷◌, Option, Some, None, Ok, Err, Result, sym, refl, ap, ◌∙◌, add-one}
use Rattle.std.specs.List.{position, position_from}
use Rattle.std.proofs.lemmas.Iterator.Adapters.{position_from-zero}
use Rattle.std.specs.Result.{IsErrAnd}
use Rattle.std.proofs.lemmas.Result.{err_from_is_err_and}
use Rattle.fields.specs.declared.refusal.Refusal.{Refusal}
use Rattle.fields.specs.declared.refusal.Refusal.TheVariants.{AddressTooLarge}
use Rattle.tables.specs.Kinds.{if_all}

-- an item is out of range
abbrev pub outside : {X : Type 0} → (X → Bool) → X → Bool
outside ranged x = not (ranged x)

module _ {X A : Type 0} (ranged : X → Bool) where
  -- the answer by the first item that is out of range
  abbrev by_first : Option ℕ → Result A Refusal → Result A Refusal
  by_first (Some i) v = Err (AddressTooLarge i)
  by_first None v = v

  by_first_from : (j : ℕ) (xs : List X) (v : Result A Refusal) → by_first (position_from (outside ranged) j xs) v ≡ if_all ranged j xs v
  by_first_from j [] v = refl
  by_first_from j (x ∷ xs) v = by (ranged x) (by_first_from (j + 1) xs v)
    where
      by : (b : Bool) → by_first (position_from (outside ranged) (j + 1) xs) v ≡ if_all ranged (j + 1) xs v
          → by_first (cond (not b) (Some j) (position_from (outside ranged) (j + 1) xs)) v ≡ cond b (if_all ranged (suc j) xs v) (Err (AddressTooLarge j))
      by true e = e ∙ ap (λ (k : ℕ). if_all ranged k xs v) (add-one j)
      by false e = refl

  pub by_position : (xs : List X) (o : Option ℕ) (v : Result A Refusal) → o ≡ position (outside ranged) xs → by_first o v ≡ if_all ranged 0 xs v
  by_position xs o v e = ap (λ o. by_first o v) (e ∙ position_from-zero (outside ranged) xs) ∙ by_first_from 0 xs v

-- a walk that found no item out of range goes on, and one that found one ends there
pub all_ranged : {X A : Type 0} (ranged : X → Bool) (j : ℕ) (xs : List X) (v : Result A Refusal) → if_all ranged j xs (Ok (tt {0})) ≡ Ok tt → if_all ranged j xs v ≡ v
all_ranged ranged j [] v h = refl
all_ranged ranged j (x ∷ xs) v h = by (ranged x) h (all_ranged ranged (suc j) xs v)
  where
    by : (b : Bool) → cond b (if_all ranged (suc j) xs (Ok (tt {0}))) (Err (AddressTooLarge j)) ≡ Ok tt → (if_all ranged (suc j) xs (Ok (tt {0})) ≡ Ok tt → if_all ranged (suc j) xs v ≡ v)
        → cond b (if_all ranged (suc j) xs v) (Err (AddressTooLarge j)) ≡ v
    by true e rest = rest e
    by false e rest = cc

not_ranged : {X A : Type 0} (ranged : X → Bool) (j : ℕ) (xs : List X) (v : Result A Refusal) (e : Refusal) → if_all ranged j xs (Ok (tt {0})) ≡ Err e → if_all ranged j xs v ≡ Err e
not_ranged ranged j [] v e h = cc
not_ranged ranged j (x ∷ xs) v e h = by (ranged x) h (not_ranged ranged (suc j) xs v e)
  where
    by : (b : Bool) → cond b (if_all ranged (suc j) xs (Ok (tt {0}))) (Err (AddressTooLarge j)) ≡ Err e → (if_all ranged (suc j) xs (Ok (tt {0})) ≡ Err e → if_all ranged (suc j) xs v ≡ Err e)
        → cond b (if_all ranged (suc j) xs v) (Err (AddressTooLarge j)) ≡ Err e
    by true h rest = rest h
    by false h rest = cc

-- what the exit of a `?` on such a walk returns
pub exit_ranged : {X A : Type 0} (ranged : X → Bool) (xs : List X) (v r : Result A Refusal) (e : Refusal) → IsErrAnd r (λ y. y ≡ e) → Err e ≡ if_all ranged 0 xs (Ok (tt {0}))
    → r ≡ if_all ranged 0 xs v
exit_ranged ranged xs v r e h k = let p = err_from_is_err_and r h in rw (p.1, p.2) (sym (not_ranged ranged 0 xs v e (sym k)))
