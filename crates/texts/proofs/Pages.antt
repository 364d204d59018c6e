-- Text that is written piece by piece, a piece for each element of a list.
use Rattle.std.proofs.Common.{◌≡◌, ℕ, zero, suc, ◌+◌, ◌-◌, ◌<◌, ◌≤◌, List, [], ◌∷◌, ◌++◌, length, get_or, take, drop, Some, decimal, sym, ap, ◌∙◌, ap₂, add-one, arith, length-drop, drop-drop}
use Rattle.std.specs.List.{flat_map, enumerate_from, slice_get}
use Rattle.std.proofs.lemmas.List.{flat_map_more, take_more, take_all, get_or-drop}
use Rattle.std.proofs.lemmas.List.FromFn.{get_or-enumerate_from, length-enumerate_from}
use Rattle.std.proofs.lemmas.Option.{slice_get_within, get_or_from_slice_get}
use Rattle.stages.specs.declared.plan.Stage.{Stage}
use Rattle.stages.specs.declared.plan.Plan.{Plan}
use Rattle.stages.specs.Plan.{stages, stage_at, bounds, bound_at, rounds}
use Rattle.texts.specs.Pages.{after_comma, comma_list, stage_line, numbered_line, plan_text}

-- the piece of the element at i, after those of the elements before it
next_piece : {X : Type 0} (f : X → List ℕ) (xs : List X) (i m n : ℕ) (x : X) → i < length xs → get_or xs i x ≡ x → m ≡ i → n ≡ i + 1 → flat_map f (take m xs) ++ f x ≡ flat_map f (take n xs)
next_piece f xs i m n x within here before after =
    ap (λ k. flat_map f (take k xs) ++ f x) before
    ∙ flat_map_more f [] (take i xs) x
    ∙ ap (flat_map f) (sym (ap (λ k. take k xs) after ∙ take_more xs i x within ∙ ap (λ y. take i xs ++ (y ∷ [])) here))

nth_of_drop : {X : Type 0} (xs : List X) (i : ℕ) (x : X) (rest : List X) → drop i xs ≡ x ∷ rest → slice_get xs i ≡ Some x
nth_of_drop [] zero x rest h = absurd cc
nth_of_drop [] (suc i) x rest h = absurd cc
nth_of_drop (y ∷ xs) zero x rest h = let e : y ≡ x = cc in ap Some e
nth_of_drop (y ∷ xs) (suc i) x rest h = nth_of_drop xs i x rest h

first_number : (bs : List ℕ) (b : ℕ) → slice_get bs 0 ≡ Some b → decimal b ++ flat_map after_comma (drop 1 bs) ≡ comma_list bs
first_number [] b at = absurd (cc)
first_number (x ∷ xs) b at = let same : b ≡ x = cc in ap (λ n. decimal n ++ flat_map after_comma xs) same

module _ (p : Plan) where
  -- the lines of the stages before the one of a number
  abbrev pub lines_before : ℕ → List ℕ
  lines_before n = flat_map (numbered_line p) (take (n - 1) (enumerate_from 1 (stages p)))

  pub next_stage : (n : ℕ) (g : Stage) → stage_at p n ≡ Some g → lines_before n ++ stage_line p n g ≡ lines_before (n + 1)
  next_stage zero g at = absurd (cc)
  next_stage (suc i) g at =
      let within : i < length (stages p) = slice_get_within (stages p) i g at in
      let number : 1 + i ≡ suc i = omega arith in
      next_piece (numbered_line p) (enumerate_from 1 (stages p)) i (suc i - 1) (suc i + 1 - 1) (suc i, g)
      (omega (arith, within, length-enumerate_from 1 (stages p)))
      (get_or-enumerate_from 1 (stages p) i (suc i, g) within ∙ ap₂ (λ n g. (n, g)) number (get_or_from_slice_get (stages p) i g g at))
      (omega arith)
      (omega arith)

  pub all_lines : (i : ℕ) → drop i (stages p) ≡ [] → lines_before (i + 1) ≡ plan_text p
  all_lines i none =
      let past = ap length none in
      ap (flat_map (numbered_line p)) (take_all (i + 1 - 1) (enumerate_from 1 (stages p)) (omega (arith, past, length-drop i (stages p), length-enumerate_from 1 (stages p))))

  -- of the stages that are left from an index on, the first has the next line
  module _ (i : ℕ) (left rest : List Stage) (g : Stage) (here : left ≡ drop i (stages p)) (next : left ≡ g ∷ rest) where
    pub left_after : (j : ℕ) → j ≡ i + 1 → rest ≡ drop j (stages p)
    left_after j e = ap (drop 1) (sym next ∙ here) ∙ drop-drop 1 i (stages p) ∙ ap (λ n. drop n (stages p)) (let one : i + 1 ≡ j = omega arith in one)

    pub line_after : (k j : ℕ) → k ≡ i → j ≡ i + 1 → lines_before (i + 1) ++ stage_line p (k + 1) g ≡ lines_before (j + 1)
    line_after k j same e =
        let number : k + 1 ≡ i + 1 = omega arith in
        ap (λ n. lines_before (i + 1) ++ stage_line p n g) number
        ∙ next_stage (i + 1) g (ap (stage_at p) (add-one i) ∙ nth_of_drop (stages p) i g rest (sym here ∙ next))
        ∙ ap (λ n. lines_before (n + 1)) (sym e)

module _ (p : Plan) (g : Stage) where
  -- the bounds of the rounds from 2 on before a round, each after a comma
  abbrev pub bounds_before : ℕ → List ℕ
  bounds_before r = flat_map after_comma (take (r - 2) (drop 1 (bounds p g)))

  pub next_bound : (r b : ℕ) → 2 ≤ r → bound_at p g r ≡ Some b → bounds_before r ++ after_comma b ≡ bounds_before (r + 1)
  next_bound zero b low at = absurd (omega arith)
  next_bound (suc i) b low at =
      let within : i < length (bounds p g) = slice_get_within (bounds p g) i b at in
      let place : 1 + (i - 1) ≡ i = omega arith in
      next_piece after_comma (drop 1 (bounds p g)) (i - 1) (suc i - 2) (suc i + 1 - 2) b
      (omega (arith, within, length-drop 1 (bounds p g)))
      (get_or-drop 1 (bounds p g) (i - 1) b ∙ ap (λ k. get_or (bounds p g) k b) place ∙ get_or_from_slice_get (bounds p g) i b b at)
      (omega arith)
      (omega arith)

  pub last_bound : (r a b : ℕ) → 2 ≤ r → rounds p g ≤ r → bound_at p g 1 ≡ Some a → bound_at p g r ≡ Some b
      → decimal a ++ (bounds_before r ++ after_comma b) ≡ comma_list (bounds p g)
  last_bound r a b low end first at =
      ap (λ s. decimal a ++ s)
      (next_bound r b low at ∙ ap (flat_map after_comma) (take_all (r + 1 - 2) (drop 1 (bounds p g)) (omega (arith, length-drop 1 (bounds p g)))))
      ∙ first_number (bounds p g) a first
