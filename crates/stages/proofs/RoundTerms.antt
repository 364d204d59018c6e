-- The terms of a round at all corners add up to its message.
use Rattle.std.proofs.Common.{◌≡◌, ℕ, zero, suc, ◌+◌, ◌-◌, ◌^◌, ◌<◌, List, [], ◌∷◌, ◌++◌, length, get_or, take, drop, sym, refl, ap, ◌∙◌, ap₂, append_assoc, map-id, arith}
use mathlib.Core.Path.{fun_ext}
use Rattle.fields.specs.Fields.{FieldOf, elements}
use Rattle.fields.specs.Laws.Solve.{◌⊖◌, ◌⊗◌, ◌≐◌, solve2}
use Rattle.tables.specs.Formulas.{less, eq, lt}
use Rattle.tables.specs.Sizes.{k}
use Rattle.tables.specs.declared.size.Sizes.{Sizes}
use Rattle.tables.specs.Sums.{sum_below, corner}
use Rattle.rounds.specs.Polynomials.{Degree, poly_mul, value, padded}
use Rattle.rounds.specs.Summands.{Summand, round_polynomial}
use Rattle.rounds.specs.Rounds.{RoundSums}
use Rattle.rounds.proofs.Values.{value-add, value-mul}
use Rattle.rounds.proofs.Zeros.{value-less}
use Rattle.rounds.proofs.Degrees.{weaken, degree_plus, degree_times, degree_less}
use Rattle.rounds.proofs.Padding.{padding}
use Rattle.rounds.proofs.Rounds.{round_sums}
use Rattle.rounds.proofs.Determined.{values_determine}
use Rattle.stages.specs.declared.plan.Stage.{Stage}
use Rattle.stages.specs.declared.plan.Stage.TheVariants.{Bits, Row, Read, Write, Value}
use Rattle.stages.specs.declared.plan.Plan.{Plan}
use Rattle.stages.specs.Plan.{bounds, rounds}
use Rattle.stages.specs.Memory.{Memory, chunk_table}
use Rattle.stages.specs.Formulas.{chunk_value, chunk_product, inc_value, address_of, cycle_of, held_at, summand}
use Rattle.stages.specs.Messages.{stage_summand, message}
use Rattle.stages.specs.Terms.{line_of, chunk_factor, times_chunks, written_factor, term, corner_term, poly_sum}
use Rattle.stages.proofs.Agreement.{summand_agrees}
use Rattle.stages.proofs.RoundBounds.{most_degree, limits, bound_most}
use Rattle.stages.proofs.Degrees.{summand_bounded}
use Rattle.stages.proofs.Linear.{IsLine}
use Rattle.stages.proofs.Factors.{eq-line, lt-line, entries-line, row_line, inc-line, chunk-line, held-line, written-line}

module _ {F : Type 0} (f : FieldOf F) where
  poly_sum-value : (n : ℕ) (q : ℕ → List F) (x : F) → value f (poly_sum f n q) x ≡ sum_below f n (λ i. value f (q i) x)
  poly_sum-value zero q x = refl
  poly_sum-value (suc n) q x = value-add f (poly_sum f n q) (q n) x ∙ ap (λ z. f.add z (value f (q n) x)) (poly_sum-value n q x)

  poly_sum_degree : {d : ℕ} (n : ℕ) (q : ℕ → List F) → ((i : ℕ) → Degree d (q i)) → Degree d (poly_sum f n q)
  poly_sum_degree zero q h = record { within = omega arith }
  poly_sum_degree (suc n) q h = degree_plus f (poly_sum_degree n q h) (h n)

module _ {F : Type 0} (f : FieldOf F) (low high : List F) where
  degree_line : (factor : List F → F) → Degree 1 (line_of f low high factor)
  degree_line factor = record { within = omega arith }

  degree_times_chunks : (s : Sizes) (tables : List (List F)) (n : ℕ) {q : List F} → Degree 1 q → Degree (1 + n) (times_chunks f s low high tables n q)
  degree_times_chunks s tables zero d = weaken (omega arith) d
  degree_times_chunks s tables (suc n) d = weaken (omega arith) (degree_times f (degree_times_chunks s tables n d) (degree_line (chunk_factor f s tables n)))

  -- a term is a product of few lines
  term_degree : (p : Plan) (m : Memory F) (g : Stage) (draws before : List F) → Degree most_degree (term f p m low high g draws before)
  term_degree p m (Bits w) draws before =
      let entries = degree_line (chunk_value f p.sizes (elements f) (chunk_table m w)) in
      let weighted = degree_times f (degree_line (eq f (elements f) draws)) entries in
      weaken (omega arith) (degree_less f (degree_times f weighted entries) (weaken (omega arith) weighted))
  term_degree p m (Row w) draws before = weaken (omega arith) (degree_line (λ point. chunk_value f p.sizes (elements f) (chunk_table m w) (point ++ draws)))
  term_degree p m Read draws before =
      weaken (omega (arith, (limits p).chunks))
      (degree_times f (degree_times_chunks p.sizes m.ra p.sizes.d (degree_line (λ point. eq f (elements f) draws (cycle_of f p.sizes (elements f) point))))
      (degree_line (held_at f p m (elements f))))
  term_degree p m Write draws before =
      weaken (omega (arith, (limits p).chunks))
      (degree_times f (degree_times_chunks p.sizes m.wa p.sizes.d (degree_line (eq f (elements f) draws))) (degree_line (written_factor f p m)))
  term_degree p m Value draws before =
      weaken (omega arith)
      (degree_times f (degree_line (λ point. inc_value f p.sizes (elements f) m.inc (take (k p.sizes) before ++ point)))
      (degree_line (λ point. lt f (elements f) point (drop (k p.sizes) before))))

module _ {F : Type 0} (f : FieldOf F) (r b : List F) (x : F) where
  -- the ends of the lines, and the point where the round's variable is x
  abbrev low : List F
  low = r ++ (f.zero ∷ b)

  abbrev high : List F
  high = r ++ (f.one ∷ b)

  abbrev here : List F
  here = r ++ (x ∷ b)

  -- the first n chunk tables there
  abbrev chunks : Sizes → List (List F) → ℕ → F
  chunks s tables n = chunk_product f s (elements f) tables n (address_of f s (elements f) here) (cycle_of f s (elements f) here)

  times_chunks_value : (s : Sizes) (tables : List (List F)) (n : ℕ) (q : List F)
      → value f (times_chunks f s low high tables n q) x ≡ f.mul (value f q x) (chunks s tables n)
  times_chunks_value s tables zero q = sym (f.mul-one (value f q x))
  times_chunks_value s tables (suc n) q =
      value-mul f (times_chunks f s low high tables n q) (line_of f low high (chunk_factor f s tables n)) x
      ∙ ap₂ f.mul (times_chunks_value s tables n q) (chunk-line f r b x s tables n)
      ∙ f.mul_assoc (value f q x) (chunks s tables n) (chunk_factor f s tables n here)

  -- the chunk tables between a weight and a last factor
  around_chunks : (s : Sizes) (tables : List (List F)) (weight last : List F → F) → IsLine f r b x weight → IsLine f r b x last
      → value f (poly_mul f (times_chunks f s low high tables s.d (line_of f low high weight)) (line_of f low high last)) x
      ≡ f.mul (weight here) (f.mul (chunks s tables s.d) (last here))
  around_chunks s tables weight last e h =
      value-mul f (times_chunks f s low high tables s.d (line_of f low high weight)) (line_of f low high last) x
      ∙ ap₂ f.mul (times_chunks_value s tables s.d (line_of f low high weight) ∙ ap (λ w. f.mul w (chunks s tables s.d)) e) h
      ∙ f.mul_assoc (weight here) (chunks s tables s.d) (last here)

  module _ (p : Plan) (m : Memory F) where
    abbrev s : Sizes
    s = p.sizes

    -- a term has at x the value of the summand where the variable is x
    term_value : (g : Stage) (draws before : List F) → value f (term f p m low high g draws before) x ≡ summand f p m (elements f) g draws before here
    term_value (Bits w) draws before =
        let entries = line_of f low high (chunk_value f s (elements f) (chunk_table m w)) in
        let weight = line_of f low high (eq f (elements f) draws) in
        let weighted = value-mul f weight entries x in
        value-less f (poly_mul f (poly_mul f weight entries) entries) (poly_mul f weight entries) x
        ∙ ap₂ (less f (elements f)) (value-mul f (poly_mul f weight entries) entries x ∙ ap (λ z. f.mul z (value f entries x)) weighted) weighted
        ∙ solve2 f (λ w e. w ⊗ e ⊗ e ⊖ w ⊗ e ≐ w ⊗ (e ⊗ e ⊖ e)) tt (value f weight x) (value f entries x)
        ∙ ap₂ (λ w e. f.mul w (less f (elements f) (f.mul e e) e)) (eq-line f r b x draws 0) (entries-line f r b x s (chunk_table m w))
        ∙ simp map-id
    term_value (Row w) draws before = row_line f r b x s (chunk_table m w) draws ∙ simp map-id
    term_value Read draws before =
        around_chunks s m.ra (λ point. eq f (elements f) draws (cycle_of f s (elements f) point)) (held_at f p m (elements f)) (eq-line f r b x draws (k s)) (held-line f r b x p m)
        ∙ simp map-id
    term_value Write draws before = around_chunks s m.wa (eq f (elements f) draws) (written_factor f p m) (eq-line f r b x draws 0) (written-line f r b x p m) ∙ simp map-id
    term_value Value draws before =
        let a = take (k s) before in
        let j = drop (k s) before in
        value-mul f (line_of f low high (λ point. inc_value f s (elements f) m.inc (a ++ point))) (line_of f low high (λ point. lt f (elements f) point j)) x
        ∙ ap₂ f.mul (inc-line f r b x s m.inc a) (lt-line f r b x j)
        ∙ simp map-id

module _ {F : Type 0} (f : FieldOf F) (p : Plan) (m : Memory F) where
  pub terms_add_up : (g : Stage) (draws before r : List F) → length r < rounds p g
      → padded f (suc (get_or (bounds p g) (length r) 0)) (poly_sum f (2 ^ (rounds p g - suc (length r))) (corner_term f p m g draws before r (rounds p g - suc (length r))))
      ≡ message f p m g draws before r
  terms_add_up g draws before r h =
      sym (cut terms) ∙ ap (padded f (suc bound)) (values_determine f most_degree terms polynomial (omega arith) terms_degree polynomial_degree same) ∙ cut polynomial
    where
      left : ℕ
      left = rounds p g - suc (length r)

      bound : ℕ
      bound = get_or (bounds p g) (length r) 0

      stage : Summand F
      stage = stage_summand f p m g draws before

      terms : List F
      terms = poly_sum f (2 ^ left) (corner_term f p m g draws before r left)

      polynomial : List F
      polynomial = round_polynomial f stage r left

      cut : (q : List F) → padded f (suc bound) (padded f (suc most_degree) q) ≡ padded f (suc bound) q
      cut q = (padding f (suc bound)).on_padded (suc most_degree) q (omega (arith, bound_most p g (length r) h))

      terms_degree : Degree most_degree terms
      terms_degree = poly_sum_degree f (2 ^ left) (corner_term f p m g draws before r left)
          (λ i. term_degree f (r ++ (f.zero ∷ corner f left i)) (r ++ (f.one ∷ corner f left i)) p m g draws before)

      sums : (r : List F) → RoundSums f stage r left
      sums r = round_sums f stage (summand_agrees f p m g draws before) r left

      polynomial_degree : Degree most_degree polynomial
      polynomial_degree = weaken (bound_most p g (length r) h) ((sums r).degree bound (summand_bounded f p m g draws before r h))

      same : (x : F) → value f terms x ≡ value f polynomial x
      same x =
          poly_sum-value f (2 ^ left) (corner_term f p m g draws before r left) x
          ∙ ap (sum_below f (2 ^ left))
          (fun_ext λ i. term_value f r (corner f left i) x p m g draws before ∙ ap stage.element_at (sym (append_assoc r (x ∷ []) (corner f left i))))
          ∙ sym (sums (r ++ (x ∷ []))).flat
          ∙ sym ((sums r).at_challenge x)
