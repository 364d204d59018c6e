-- The extension of the counting table: a point read as a number in base two.
use Rattle.std.proofs.Common.{◌≡◌, ◌+◌, ◌^◌, List, [], ◌∷◌, length, fold, sym, ap, ◌∙◌, ap₂}
use native.Mathlib.Nat.{two-pow-succ}
use Rattle.fields.specs.Fields.{FieldOf, elements, ones}
use Rattle.fields.specs.Laws.Derived.{zero-add, ones-add}
use Rattle.fields.specs.Laws.Solve.{con, ◌⊕◌, ◌⊖◌, ◌⊗◌, ◌≐◌, solve1, solve2, solve4}
use Rattle.tables.specs.Formulas.{between, extension}
use Rattle.tables.proofs.Extension.{ext_cong, ext_none, ext_halves}

module _ {F : Type 0} (f : FieldOf F) where
  -- each element times its power of two, added up
  abbrev number : List F → F
  number [] = f.zero
  number (x ∷ p) = f.add (f.mul x (ones f (2 ^ length p))) (number p)

  -- the next element added to what stands, doubled
  abbrev pub doubled : F → F → F
  doubled a x = f.add (f.add a a) x

  shifted : (p : List F) (k : F) → extension f (elements f) (length p) (λ i. f.add k (ones f i)) p ≡ f.add k (number p)
  shifted [] k = ext_none f (λ i. f.add k (ones f i)) []
  shifted (x ∷ p) k =
      let n = length p in
      let o = ones f (2 ^ n) in
      let upper = ext_cong f n (λ i. f.add k (ones f (2 ^ n + i))) (λ i. f.add (f.add k o) (ones f i)) p
      (λ i h. ap (f.add k) (ones-add f (2 ^ n) i) ∙ sym (f.add_assoc k o (ones f i)))
      ∙ shifted p (f.add k o) in
      ext_halves f n (λ i. f.add k (ones f i)) x p
      ∙ ap₂ (between f (elements f) x) (shifted p k) upper
      ∙ solve4 f (λ x k o v. (con 1 ⊖ x) ⊗ (k ⊕ v) ⊕ x ⊗ (k ⊕ o ⊕ v) ≐ k ⊕ (x ⊗ o ⊕ v)) tt x k o (number p)

  -- the same, from the first element on
  doubled-number : (a : F) (p : List F) → fold doubled a p ≡ f.add (f.mul a (ones f (2 ^ length p))) (number p)
  doubled-number a [] = solve1 f (λ a. a ≐ a ⊗ (con 0 ⊕ con 1) ⊕ con 0) tt a
  doubled-number a (x ∷ p) =
      let n = length p in
      let o = ones f (2 ^ n) in
      let twice : ones f (2 ^ length (x ∷ p)) ≡ f.add o o = ap (ones f) (two-pow-succ n) ∙ ones-add f (2 ^ n) (2 ^ n) in
      doubled-number (doubled a x) p
      ∙ solve4 f (λ a x o v. (a ⊕ a ⊕ x) ⊗ o ⊕ v ≐ a ⊗ (o ⊕ o) ⊕ (x ⊗ o ⊕ v)) tt a x o (number p)
      ∙ ap (λ z. f.add (f.mul a z) (number (x ∷ p))) (sym twice)

  pub ext_counting : (p : List F) → fold doubled f.zero p ≡ extension f (elements f) (length p) (ones f) p
  ext_counting p =
      doubled-number f.zero p
      ∙ solve2 f (λ o v. con 0 ⊗ o ⊕ v ≐ con 0 ⊕ v) tt (ones f (2 ^ length p)) (number p)
      ∙ sym (shifted p f.zero)
      ∙ ext_cong f (length p) (λ i. f.add f.zero (ones f i)) (ones f) p (λ i h. zero-add f (ones f i))
