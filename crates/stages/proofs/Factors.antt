-- The factors of a stage's summand: each is a line along the variable of a round.
use Rattle.std.proofs.Common.{◌≡◌, ℕ, suc, ◌+◌, ◌*◌, ◌≤◌, List, ◌++◌, map, drop, refl, ap, ◌∙◌, arith}
use mathlib.Core.List.{map-append}
use Rattle.std.proofs.lemmas.List.{take-map, drop-map}
use Rattle.fields.specs.Fields.{FieldOf, Ops, elements}
use Rattle.tables.specs.Formulas.{eq, lt, extension}
use Rattle.tables.specs.Sizes.{k}
use Rattle.tables.specs.declared.size.Sizes.{Sizes}
use Rattle.tables.specs.Tables.{entry}
use Rattle.rounds.specs.Polynomials.{polynomials}
use Rattle.rounds.specs.Readings.{degrees, values}
use Rattle.rounds.specs.Summands.{round_point}
use Rattle.rounds.proofs.Values.{value-add, value-neg}
use Rattle.rounds.proofs.Readings.{at_point, on_eq, on_lt, on_extension}
use Rattle.rounds.proofs.Degrees.{weaken, degrees-append, degrees-consts, degree_eq, degree_lt, degree_extension}
use Rattle.rounds.proofs.Rounds.{consts-value}
use Rattle.stages.specs.declared.plan.Plan.{Plan}
use Rattle.stages.specs.Memory.{Memory, chunk_at}
use Rattle.stages.specs.Formulas.{chunk_value, chunk_part, inc_value, address_of, cycle_of, held_at}
use Rattle.stages.specs.Terms.{chunk_factor, written_factor}
use Rattle.stages.proofs.Agreement.{on_held-at}
use Rattle.stages.proofs.Degrees.{degrees_split, degrees-round_point, degree_held-at, written, degree_written}
use Rattle.stages.proofs.Linear.{IsLine, is_line}

module _ {F : Type 0} (f : FieldOf F) (r b : List F) (x : F) where
  abbrev o : Ops F (List F)
  o = polynomials f

  abbrev constants : List F → List (List F)
  constants xs = map o.const xs

  -- the point of the round, which has the degree one
  abbrev point_over : List (List F)
  point_over = round_point f r b

  -- eq at the coordinates from n on
  pub eq-line : (draws : List F) (n : ℕ) → IsLine f r b x (λ point. eq f (elements f) draws (drop n point))
  eq-line draws n =
      is_line f r b (record { element_at = λ point. eq f (elements f) draws (drop n point); polynomial_at = λ point. eq f o (constants draws) (drop n point) })
      (λ point x. simp (on_eq f (at_point f x), consts-value f, drop-map))
      (weaken (omega (arith, degrees-consts draws, degrees_split n point_over, degrees-round_point f r b)) (degree_eq f (constants draws) (drop n point_over))) x

  pub lt-line : (j : List F) → IsLine f r b x (λ point. lt f (elements f) point j)
  lt-line j =
      is_line f r b (record { element_at = λ point. lt f (elements f) point j; polynomial_at = λ point. lt f o point (constants j) })
      (λ point x. simp (on_lt f (at_point f x), consts-value f))
      (weaken (omega (arith, degrees-consts j, degrees-round_point f r b)) (degree_lt f point_over (constants j))) x

  -- an extension at coordinates that are arranged from those of the point
  extension_line : (n : ℕ) (e : ℕ → F) (arranged : List F → List F) (arranged_over : List (List F) → List (List F))
      → ((point : List (List F)) (x : F) → values f x (arranged_over point) ≡ arranged (values f x point)) → degrees (arranged_over point_over) ≤ 1
      → IsLine f r b x (λ point. extension f (elements f) n e (arranged point))
  extension_line n e arranged arranged_over same h =
      is_line f r b (record { element_at = λ point. extension f (elements f) n e (arranged point); polynomial_at = λ point. extension f o n e (arranged_over point) })
      (λ point x. on_extension f (at_point f x) n e (arranged_over point) ∙ ap (extension f (elements f) n e) (same point x))
      (weaken h (degree_extension f n e (arranged_over point_over))) x

  module _ (s : Sizes) where
    pub entries-line : (table : List F) → IsLine f r b x (chunk_value f s (elements f) table)
    entries-line table =
        extension_line (s.c + s.t) (entry f table) (λ point. point) (λ point. point) (λ point x. refl) (omega (arith, degrees-round_point f r b))

    pub row_line : (table draws : List F) → IsLine f r b x (λ point. chunk_value f s (elements f) table (point ++ draws))
    row_line table draws =
        extension_line (s.c + s.t) (entry f table) (λ point. point ++ draws) (λ point. point ++ constants draws) (λ point x. simp (map-append, consts-value f))
        (omega (arith, degrees-append point_over (constants draws), degrees-consts draws, degrees-round_point f r b))

    pub inc-line : (inc a : List F) → IsLine f r b x (λ point. inc_value f s (elements f) inc (a ++ point))
    inc-line inc a =
        extension_line (k s + s.t) (entry f inc) (λ point. a ++ point) (λ point. constants a ++ point) (λ point x. simp (map-append, consts-value f))
        (omega (arith, degrees-append (constants a) point_over, degrees-consts a, degrees-round_point f r b))

    pub chunk-line : (tables : List (List F)) (n : ℕ) → IsLine f r b x (chunk_factor f s tables n)
    chunk-line tables n =
        extension_line (s.c + s.t) (entry f (chunk_at tables (suc n)))
        (λ point. chunk_part f s (elements f) n (address_of f s (elements f) point) ++ cycle_of f s (elements f) point)
        (λ point. chunk_part f s o n (address_of f s o point) ++ cycle_of f s o point)
        (λ point x. simp (map-append, take-map, drop-map))
        (let a = address_of f s o point_over in
        omega (arith, degrees-append (chunk_part f s o n a) (cycle_of f s o point_over), degrees_split (n * s.c) a, degrees_split s.c (drop (n * s.c) a), degrees_split (k s) point_over, degrees-round_point f r b))

  module _ (p : Plan) (m : Memory F) where
    pub held-line : IsLine f r b x (held_at f p m (elements f))
    held-line =
        is_line f r b (record { element_at = held_at f p m (elements f); polynomial_at = held_at f p m o }) (λ point x. on_held-at f (at_point f x) p m point)
        (weaken (omega (arith, degrees-round_point f r b)) (degree_held-at f p m point_over)) x

    pub written-line : IsLine f r b x (written_factor f p m)
    written-line =
        is_line f r b (record { element_at = written_factor f p m; polynomial_at = written f p m })
        (λ point x. simp (value-add f, value-neg f, on_extension f (at_point f x), drop-map, on_held-at f (at_point f x) p m))
        (weaken (omega (arith, degrees-round_point f r b)) (degree_written f p m point_over)) x
