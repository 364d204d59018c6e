-- Two lists of one length, folded from their ends.
use Rattle.std.proofs.Common.{◌≡◌, List, [], ◌∷◌, length, fold, sym, ap, ◌∙◌, refl, arith}
use Rattle.std.specs.List.{zip}
use mathlib.Core.List.{reverse_aux}
use Rattle.tables.specs.Tables.{folded_pairs}

module _ {A B : Type 0} (h : B → A → A → B) (start : B) where
  -- a fold over the pairs of the reversed lists
  pub fold_back : (xs ys us vs : List A) → length xs ≡ length ys
      → fold (λ z (ab : A × A). h z ab.0 ab.1) start (zip (reverse_aux xs us) (reverse_aux ys vs)) ≡ fold (λ z (ab : A × A). h z ab.0 ab.1) (folded_pairs h start xs ys) (zip us vs)
  fold_back [] [] us vs e = refl
  fold_back [] (y ∷ ys) us vs e = absurd (omega arith)
  fold_back (x ∷ xs) [] us vs e = absurd (omega arith)
  fold_back (x ∷ xs) (y ∷ ys) us vs e = fold_back xs ys (x ∷ us) (y ∷ vs) (omega arith)

  -- a formula over two lists that takes a step at each pair, and else begins anew
  pub folded_is : (g : List A → List A → B) → ((ys : List A) → g [] ys ≡ start) → ((x : A) (xs : List A) → g (x ∷ xs) [] ≡ start)
      → ((x : A) (xs : List A) (y : A) (ys : List A) → h (g xs ys) x y ≡ g (x ∷ xs) (y ∷ ys)) → (xs ys : List A) → folded_pairs h start xs ys ≡ g xs ys
  folded_is g none short step [] ys = sym (none ys)
  folded_is g none short step (x ∷ xs) [] = sym (short x xs)
  folded_is g none short step (x ∷ xs) (y ∷ ys) = ap (λ z. h z x y) (folded_is g none short step xs ys) ∙ step x xs y ys
