-- Errors bound at draws.
use Rattle.std.proofs.Common.{◌≡◌, ℕ, zero, suc, ◌+◌, ◌-◌, ◌^◌, ◌<◌, ◌≤◌, true, false, cond, ◌⊎◌, List, [], ◌∷◌, ◌++◌, map, length, sym, ap, ◌∙◌, subst, ap₂, inl, inr, arith}
use native.Mathlib.Decide.{dec_lt}
use native.Mathlib.Nat.{two-pow-succ}
use Rattle.std.specs.List.{range_with_len}
use Rattle.fields.specs.Fields.{FieldOf, elements}
use Rattle.fields.specs.Laws.Solve.{con, ◌⊕◌, ◌⊖◌, ◌⊗◌, ◌≐◌, solve1, solve6}
use Rattle.fields.specs.Laws.Derived.{equal_of_less}
use Rattle.tables.specs.Formulas.{between, extension}
use Rattle.tables.proofs.Extension.{ext_none, ext_halves}
use Rattle.rounds.specs.Polynomials.{Degree, Root, Zero, Nonzero, line, value, is_zero}
use Rattle.rounds.specs.Errors.{AllZero, bind, bound_at, first_nonzero, draw_gap, Draw, Draws}
use Rattle.rounds.proofs.Values.{line-value}
use Rattle.rounds.proofs.Zeros.{element-zero_or_not, zero_or_not}

-- one more draw
bound_more : {F : Type 0} (f : FieldOf F) (n : ℕ) (e : ℕ → F) (gs : List F) (g : F) → length gs < n
    → bound_at f n e (gs ++ (g ∷ [])) ≡ bind f (n - suc (length gs)) (bound_at f n e gs) g
bound_more f zero e [] g h = absurd (omega arith)
bound_more f zero e (k ∷ gs) g h = absurd (omega arith)
bound_more f (suc n) e [] g h = ap (λ (z : ℕ). bind f z e g) (omega arith)
bound_more f (suc n) e (k ∷ gs) g h =
    bound_more f n (bind f n e k) gs g (omega arith) ∙ ap (λ (z : ℕ). bind f z (bound_at f n (bind f n e k) gs) g) (omega arith)

module _ {F : Type 0} (f : FieldOf F) where
  abbrev ext : ℕ → (ℕ → F) → List F → F
  ext = extension f (elements f)

  abbrev mix : F → F → F → F
  mix = between f (elements f)

  -- the extension of errors that lie between others lies between theirs
  ext-between : (n : ℕ) (g : F) (e h : ℕ → F) (p : List F) → length p ≡ n → ext n (λ i. mix g (e i) (h i)) p ≡ mix g (ext n e p) (ext n h p)
  ext-between zero g e h p s = ext_none f (λ i. mix g (e i) (h i)) p ∙ sym (ap₂ (mix g) (ext_none f e p) (ext_none f h p))
  ext-between (suc n) g e h [] s = absurd (omega arith)
  ext-between (suc n) g e h (x ∷ p) s =
      ext_halves f n (λ i. mix g (e i) (h i)) x p
      ∙ ap₂ (mix x) (ext-between n g e h p (omega arith)) (ext-between n g (λ i. e (2 ^ n + i)) (λ i. h (2 ^ n + i)) p (omega arith))
      ∙ solve6 f (λ g x a b c d. (con 1 ⊖ x) ⊗ ((con 1 ⊖ g) ⊗ a ⊕ g ⊗ b) ⊕ x ⊗ ((con 1 ⊖ g) ⊗ c ⊕ g ⊗ d)
      ≐ (con 1 ⊖ g) ⊗ ((con 1 ⊖ x) ⊗ a ⊕ x ⊗ c) ⊕ g ⊗ ((con 1 ⊖ x) ⊗ b ⊕ x ⊗ d)) tt
      g x (ext n e p) (ext n h p) (ext n (λ i. e (2 ^ n + i)) p) (ext n (λ i. h (2 ^ n + i)) p)
      ∙ sym (ap₂ (mix g) (ext_halves f n e x p) (ext_halves f n h x p))

  bound_all : (n : ℕ) (e : ℕ → F) (gs : List F) → length gs ≡ n → bound_at f n e gs 0 ≡ ext n e gs
  bound_all zero e [] h = sym (ext_none f e [])
  bound_all zero e (g ∷ gs) h = absurd (omega arith)
  bound_all (suc n) e [] h = absurd (omega arith)
  bound_all (suc n) e (g ∷ gs) h =
      bound_all n (bind f n e g) gs (omega arith)
      ∙ ext-between n g e (λ i. e (2 ^ n + i)) gs (omega arith)
      ∙ sym (ext_halves f n e g gs)

  pub draws : (n : ℕ) (e : ℕ → F) (gs : List F) → Draws f n e gs
  draws n e gs = record { one_more = bound_more f n e gs; all = bound_all n e gs }

  -- a line that is zero has zeros at both ends
  zero_ends : (low high : F) → Zero f (line f low high) → (low ≡ f.zero) × (high ≡ f.zero)
  zero_ends low high z = (z 0, equal_of_less f high low (z 1) ∙ z 0)

  -- the polynomials ps from number a on, n of them
  abbrev first : (ℕ → List F) → ℕ → ℕ → List F
  first ps a n = first_nonzero f (map ps (range_with_len a n))

  -- the first of them that is not zero, or all are zero
  pub data Search (ps : ℕ → List F) (a n : ℕ) : Type 0 where
    found : (b : ℕ) → b < a + n → Nonzero f (ps b) → first ps a n ≡ ps b → Search ps a n
    none : ((b : ℕ) → a ≤ b → b < a + n → Zero f (ps b)) → Search ps a n

  searched : (ps : ℕ → List F) (a n : ℕ) → Search ps a n
  searched ps a zero = none (λ b h k. absurd (omega arith))
  searched ps a (suc n) = elim (zero_or_not f (ps a)) [
    | inr h ↦ found a (omega arith) h.1 (ap (λ t. cond t (first ps (a + 1) n) (ps a)) h.0)
    | inl h ↦ elim (searched ps (a + 1) n) [
      | found b k z e ↦ found b (omega arith) z (ap (λ t. cond t (first ps (a + 1) n) (ps a)) h.0 ∙ e)
      | none z ↦ none (λ b k l. elim (dec_lt a b) [
        | yes m ↦ z b (omega arith) (omega arith)
        | no m ↦ let s : a ≡ b = omega arith in subst (λ (x : ℕ). Zero f (ps x)) s h.1
      ])
    ]
  ]

  first_degree : (d : ℕ) (ps : ℕ → List F) (a n : ℕ) → ((b : ℕ) → Degree d (ps b)) → Degree d (first ps a n)
  first_degree d ps a zero h = record { within = omega arith }
  first_degree d ps a (suc n) h =
      elim (is_zero f (ps a)) as (λ t. Degree d (cond t (first ps (a + 1) n) (ps a))) [ true ↦ first_degree d ps (a + 1) n h | false ↦ h a ]

  module _ (n : ℕ) (e : ℕ → F) (g : F) where
    abbrev lines : ℕ → List F
    lines b = line f (e b) (e (2 ^ n + b))

    sound : Root f (draw_gap f n e) g ⊎ (AllZero f n (bind f n e g) → AllZero f (suc n) e)
    sound = elim (searched lines 0 (2 ^ n)) [
      | found b k z s ↦ elim (element-zero_or_not f (bind f n e g b)) [
        | inl v ↦ inl (record { nonzero = subst (Nonzero f) (sym s) z; vanishes = ap (λ p. value f p g) s ∙ line-value f (e b) (e (2 ^ n + b)) g ∙ v.1 })
        | inr v ↦ inr (λ h. absurd (v.1 (h b (omega arith))))
      ]
      | none z ↦ inr (λ h i k. elim (dec_lt i (2 ^ n)) [
        | yes l ↦ (zero_ends (e i) (e (2 ^ n + i)) (z i (omega arith) (omega arith))).0
        | no l ↦
            let b = i - 2 ^ n in
            let s : 2 ^ n + b ≡ i = omega arith in
            ap e (sym s) ∙ (zero_ends (e b) (e (2 ^ n + b)) (z b (omega arith) (omega (arith, two-pow-succ n)))).1
      ])
    ]

    complete : AllZero f (suc n) e → AllZero f n (bind f n e g)
    complete h b k =
        ap₂ (mix g) (h b (omega (arith, two-pow-succ n))) (h (2 ^ n + b) (omega (arith, two-pow-succ n)))
        ∙ solve1 f (λ g. (con 1 ⊖ g) ⊗ con 0 ⊕ g ⊗ con 0 ≐ con 0) tt g

    pub draw : Draw f n e g
    draw = record { sound = sound; gap_degree = first_degree 1 lines 0 (2 ^ n) (λ b. record { within = omega arith }); complete = complete }
