-- A stage's summand along the variable of a round, as a product of lines: each factor by its values at two points
-- that differ in that variable alone, which is zero at the low point and one at the high one.
use Rattle.std.specs.Prelude.{◌≡◌, ℕ, zero, suc, ◌+◌, ◌-◌, ◌^◌, ◌<◌, List, [], ◌∷◌, ◌++◌, length, take, drop, slice_index}
use Rattle.fields.specs.Fields.{FieldOf, elements}
use Rattle.tables.specs.Formulas.{less, eq, lt, extension}
use Rattle.tables.specs.Sizes.{k}
use Rattle.tables.specs.declared.size.Sizes.{Sizes}
use Rattle.tables.specs.Sums.{corner}
use Rattle.tables.specs.Tables.{entry}
use Rattle.rounds.specs.Polynomials.{poly_add, poly_mul, polynomials, line, padded}
use Rattle.stages.specs.declared.plan.Stage.{Stage}
use Rattle.stages.specs.declared.plan.Stage.TheVariants.{Bits, Row, Read, Write, Value}
use Rattle.stages.specs.declared.plan.Plan.{Plan}
use Rattle.stages.specs.Memory.{Memory, chunk_at, chunk_table}
use Rattle.stages.specs.Plan.{Planned, draws, bounds, rounds}
use Rattle.stages.specs.Messages.{message}
use Rattle.stages.specs.Formulas.{chunk_value, chunk_part, inc_value, address_of, cycle_of, held_at}

module _ {F : Type 0} (f : FieldOf F) (low high : List F) where
  -- the line of a factor
  abbrev pub line_of : (List F → F) → List F
  line_of factor = line f (factor low) (factor high)

module _ {F : Type 0} (f : FieldOf F) (s : Sizes) where
  -- a chunk table at its chunk of a point's address and at the point's cycle; the first has the number 0
  abbrev pub chunk_at_point : List F → ℕ → List F → F
  chunk_at_point table n point =
      chunk_value f s (elements f) table (chunk_part f s (elements f) n (address_of f s (elements f) point) ++ cycle_of f s (elements f) point)

  abbrev pub chunk_factor : List (List F) → ℕ → List F → F
  chunk_factor tables n point = chunk_at_point (chunk_at tables (suc n)) n point

  -- a polynomial times the lines of the first n chunk tables
  abbrev pub times_chunks : List F → List F → List (List F) → ℕ → List F → List F
  times_chunks low high tables zero q = q
  times_chunks low high tables (suc n) q = poly_mul f (times_chunks low high tables n q) (line_of f low high (chunk_factor tables n))

  -- eq times the square of an entry less the entry
  abbrev pub bits_term : List F → List F → List F → List F → List F
  bits_term low high table draws =
      let entries = line_of f low high (chunk_value f s (elements f) table) in
      let weighted = poly_mul f (line_of f low high (eq f (elements f) draws)) entries in
      less f (polynomials f) (poly_mul f weighted entries) weighted

  abbrev pub row_term : List F → List F → List F → List F → List F
  row_term low high table draws = line_of f low high (λ point. chunk_value f s (elements f) table (point ++ draws))

  -- a line, times all chunk tables, times another
  abbrev pub product_term : List F → List F → List (List F) → List F → List F → List F
  product_term low high tables first last = poly_mul f (times_chunks low high tables s.d first) last

  abbrev pub value_term : List F → List F → List F → List F → List F
  value_term low high inc before =
      poly_mul f (line_of f low high (λ point. inc_value f s (elements f) inc (take (k s) before ++ point)))
      (line_of f low high (λ point. lt f (elements f) point (drop (k s) before)))

module _ {F : Type 0} (f : FieldOf F) (p : Plan) (m : Memory F) where
  abbrev s : Sizes
  s = p.sizes

  -- what is written in a cycle, less what the memory holds
  abbrev pub written_factor : List F → F
  written_factor point =
      less f (elements f) (extension f (elements f) s.t (entry f m.wv) (cycle_of f s (elements f) point)) (held_at f p m (elements f) point)

  abbrev pub term : List F → List F → Stage → List F → List F → List F
  term low high (Bits w) draws before = bits_term f s low high (chunk_table m w) draws
  term low high (Row w) draws before = row_term f s low high (chunk_table m w) draws
  term low high Read draws before =
      product_term f s low high m.ra (line_of f low high (λ point. eq f (elements f) draws (cycle_of f s (elements f) point))) (line_of f low high (held_at f p m (elements f)))
  term low high Write draws before = product_term f s low high m.wa (line_of f low high (eq f (elements f) draws)) (line_of f low high written_factor)
  term low high Value draws before = value_term f s low high m.inc before

  -- the term of a round at corner number i of the variables after the round's own
  abbrev pub corner_term : Stage → List F → List F → List F → ℕ → ℕ → List F
  corner_term g draws before r left i = term (r ++ (f.zero ∷ corner f left i)) (r ++ (f.one ∷ corner f left i)) g draws before

-- what a round has: a stage of the plan and its draws, a point before it if it is a value stage, and the challenges r of the rounds
-- before, with so many variables left after the round's own
pub record RoundOf {F : Type 0} (p : Plan) (g : Stage) (drawn before r : List F) (left : ℕ) : Type 0 where
  pub planned : Planned p.kind p.sizes.d g
  pub draws_are : length drawn ≡ draws p g
  pub point_is : g ≡ Value → length before ≡ k p.sizes + p.sizes.t
  pub variables : length r + 1 + left ≡ rounds p g

-- q 0 + q 1 + .. up to, and without, q n
abbrev pub poly_sum : {F : Type 0} → FieldOf F → ℕ → (ℕ → List F) → List F
poly_sum f zero q = []
poly_sum f (suc n) q = poly_add f (poly_sum f n q) (q n)

-- the terms of a round at all corners add up to its message
abbrev pub TermsAddUp : Type 0 → Type 0
TermsAddUp F = (f : FieldOf F) (p : Plan) (m : Memory F) (g : Stage) (draws before r : List F) → length r < rounds p g
    → padded f (suc (slice_index (bounds p g) (length r))) (poly_sum f (2 ^ (rounds p g - suc (length r))) (corner_term f p m g draws before r (rounds p g - suc (length r))))
    ≡ message f p m g draws before r
