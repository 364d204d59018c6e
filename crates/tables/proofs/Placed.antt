-- Lists of which the first places are written.
use Rattle.std.proofs.Common.{◌≡◌, ℕ, zero, suc, ◌+◌, ◌<◌, ◌≤◌, ◌≢◌, List, [], ◌∷◌, ◌++◌, length, get_or, take, drop, set, sym, refl, ap, ◌∙◌, ap₂, append_assoc, add-one, arith, length-append, length-drop, length-set, drop-cons, get_or-set_other, get_or-set_same, take_at}
use native.Mathlib.Decide.{ℕ_discrete}
use lib.ListN.{get_or-append}
use lib.Seq.{set_at, set-append_left}
use Rattle.std.specs.List.{FoldsTo}
use Rattle.std.proofs.lemmas.List.FromFn.{length-map-range_with_len, map-range_with_len_more, fill_by_all}
use Rattle.tables.specs.Tables.{tabulate}
use Rattle.tables.specs.Maker.{placed}
use Rattle.tables.proofs.Entries.{get_or-tabulate}

pub length-tabulate : {A : Type 0} (n : ℕ) (g : ℕ → A) → length (tabulate n g) ≡ n
length-tabulate n g = length-map-range_with_len g 0 n

module _ {A : Type 0} (g : ℕ → A) (old : List A) where
  pub length-placed : (n : ℕ) → n ≤ length old → length (placed n g old) ≡ length old
  length-placed n h = simp (length-append, length-drop) (omega (arith, length-tabulate n g))

  pub get_or-placed : (n i : ℕ) (d : A) → i < n → get_or (placed n g old) i d ≡ g i
  get_or-placed n i d h =
      get_or-append (tabulate n g) (drop n old) d i (omega (arith, length-tabulate n g)) ∙ get_or-tabulate n i g d h

  pub take-placed : (n : ℕ) → take n (placed n g old) ≡ tabulate n g
  take-placed n = take_at (tabulate n g) (drop n old) n (length-tabulate n g)

  -- one more place
  pub placed_more : (n : ℕ) → n < length old → set (placed n g old) n (g n) ≡ placed (n + 1) g old
  placed_more n h =
      ap (λ z. set (tabulate n g ++ z) n (g n)) (drop-cons old n (g n) h)
      ∙ set_at (tabulate n g) (get_or old n (g n)) (drop (suc n) old) (g n) n (length-tabulate n g)
      ∙ sym (append_assoc (tabulate n g) (g n ∷ []) (drop (suc n) old))
      ∙ ap₂ (λ z (m : ℕ). z ++ drop m old) (sym (map-range_with_len_more g 0 n n (omega arith))) (sym (add-one n))

-- another value at one of the places
pub placed-set : {A : Type 0} (g h : ℕ → A) (old : List A) (n i : ℕ) (v : A) → i < n → h i ≡ v → ((k : ℕ) → k < n → k ≢ i → h k ≡ g k) → set (placed n g old) i v ≡ placed n h old
placed-set g h old n i v below here others =
    set-append_left (tabulate n g) (drop n old) i v (omega (arith, length-tabulate n g))
    ∙ ap (λ z. z ++ drop n old) (fill_by_all h (set (tabulate n g) i v) n v (length-set (tabulate n g) i v ∙ length-tabulate n g) at)
  where
    at : (k : ℕ) → k < n → get_or (set (tabulate n g) i v) k v ≡ h k
    at k b = elim (ℕ_discrete k i) [
      | yes e ↦ ap (λ (z : ℕ). get_or (set (tabulate n g) i v) z v) e ∙ get_or-set_same (tabulate n g) i v v (omega (arith, length-tabulate n g)) ∙ sym here ∙ ap h (sym e)
      | no e ↦ get_or-set_other (tabulate n g) i k v v e ∙ get_or-tabulate n k g v b ∙ sym (others k b e)
    ]

pub placed_cong : {A : Type 0} (g h : ℕ → A) (old : List A) (n : ℕ) → A → ((k : ℕ) → k < n → g k ≡ h k) → placed n g old ≡ placed n h old
placed_cong g h old n d e =
    ap (λ z. z ++ drop n old) (fill_by_all h (tabulate n g) n d (length-tabulate n g) (λ k b. get_or-tabulate n k g d b ∙ e k b))

-- a list whose items were all given as v, one after another
pub given_alike : {A P : Type 0} (v : A) (gives : P → A → P → Type 0) (p q : P) (xs : List A) → FoldsTo gives p xs q → ((p : P) (x : A) (q : P) → gives p x q → x ≡ v) → xs ≡ tabulate (length xs) (λ _. v)
given_alike {A} {P} v gives p q xs run alike = fill_by_all (λ _. v) xs (length xs) v refl (at xs p run)
  where
    at : (xs : List A) (p : P) → FoldsTo gives p xs q → (k : ℕ) → k < length xs → get_or xs k v ≡ v
    at [] p run k b = absurd (omega arith)
    at (x ∷ xs) p run zero b = alike p x run.0 run.1
    at (x ∷ xs) p run (suc k) b = at xs run.0 run.2 k (omega arith)
