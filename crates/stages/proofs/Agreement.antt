-- A stage's summand read over polynomials and then evaluated is the summand read over elements.
use Rattle.std.proofs.Common.{◌≡◌, ℕ, zero, suc, List, map}
use mathlib.Core.List.{map-append}
use Rattle.std.proofs.lemmas.List.{take-map, drop-map}
use Rattle.fields.specs.Fields.{FieldOf, Ops}
use Rattle.rounds.specs.Summands.{Agrees}
use Rattle.rounds.proofs.Readings.{Hom, at_point, on_eq, on_lt, on_cube_sum, on_consts, on_extension}
use Rattle.tables.specs.declared.size.Sizes.{Sizes}
use Rattle.stages.specs.declared.plan.Kind.{Kind}
use Rattle.stages.specs.declared.plan.Kind.TheVariants.{Shout, Twist}
use Rattle.stages.specs.declared.plan.Stage.{Stage}
use Rattle.stages.specs.declared.plan.Stage.TheVariants.{Bits, Row, Read, Write, Value}
use Rattle.stages.specs.declared.plan.Plan.{Plan}
use Rattle.stages.specs.Memory.{Memory}
use Rattle.stages.specs.Messages.{stage_summand}
use Rattle.stages.specs.Formulas.{chunk_product, val_value, held, held_at, summand}

module _ {F : Type 0} (f : FieldOf F) {R Q : Type 0} {o : Ops F R} {q : Ops F Q} (h : Hom o q) where
  open h use {at, on_const, on_plus, on_times, on_minus}

  module _ (s : Sizes) where
    on_chunk_product : (tables : List (List F)) (n : ℕ) (a j : List R) → at (chunk_product f s o tables n a j) ≡ chunk_product f s q tables n (map at a) (map at j)
    on_chunk_product tables zero a j = on_const f.one
    on_chunk_product tables (suc n) a j = simp (on_times, on_extension f h, map-append, ← take-map, ← drop-map, on_chunk_product tables n a j)

    on_val : (inc : List F) (a j : List R) → at (val_value f s o inc a j) ≡ val_value f s q inc (map at a) (map at j)
    on_val inc a j = simp (on_const, on_times, on_eq f h, on_lt f h, on_cube_sum f h, on_consts f h, map-append)

  module _ (p : Plan) (m : Memory F) where
    on_held : (x : Kind) (a j : List R) → at (held f p m o x a j) ≡ held f p m q x (map at a) (map at j)
    on_held Shout a j = on_extension f h _ _ a
    on_held Twist a j = on_val p.sizes m.inc a j

    pub on_held-at : (point : List R) → at (held_at f p m o point) ≡ held_at f p m q (map at point)
    on_held-at point = simp (on_held, ← take-map, ← drop-map)

    pub on_summand : (g : Stage) (draws before : List F) (point : List R) → at (summand f p m o g draws before point) ≡ summand f p m q g draws before (map at point)
    on_summand (Bits w) draws before point = simp (on_plus, on_times, on_minus, on_eq f h, on_consts f h, on_extension f h)
    on_summand (Row w) draws before point = simp (on_consts f h, on_extension f h, map-append)
    on_summand Read draws before point = simp (on_times, on_eq f h, on_consts f h, ← take-map, ← drop-map, on_chunk_product, on_held)
    on_summand Write draws before point = simp (on_plus, on_times, on_minus, on_eq f h, on_consts f h, on_extension f h, ← take-map, ← drop-map, on_chunk_product, on_held)
    on_summand Value draws before point = simp (on_times, on_lt f h, on_consts f h, on_extension f h, map-append)

module _ {F : Type 0} (f : FieldOf F) (p : Plan) (m : Memory F) where
  pub summand_agrees : (g : Stage) (draws before : List F) → Agrees f (stage_summand f p m g draws before)
  summand_agrees g draws before point x = on_summand f (at_point f x) p m g draws before point
