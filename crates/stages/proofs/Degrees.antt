-- The degree of a stage's summand in the variable of a round is within the bound of that round.
use Rattle.std.proofs.Common.{◌≡◌, ℕ, zero, suc, ◌+◌, ◌*◌, ◌<◌, List, ◌++◌, length, get_or, take, drop, sym, ap, ◌∙◌, subst₂, ⊎_elim, suc-mul, arith, take-append-drop, take-add}
use Rattle.std.proofs.lemmas.Bool.{cases_lt}
use Rattle.fields.specs.Fields.{FieldOf, Ops}
use Rattle.tables.specs.Formulas.{less, lt, extension}
use Rattle.tables.specs.Sizes.{k}
use Rattle.tables.specs.declared.size.Sizes.{Sizes}
use Rattle.tables.specs.Tables.{entry}
use Rattle.rounds.specs.Polynomials.{Degree, poly_mul, polynomials}
use Rattle.rounds.specs.Readings.{degrees}
use Rattle.rounds.specs.Summands.{round_point, Bounded}
use Rattle.rounds.proofs.Degrees.{weaken, degrees-append, degrees-consts, degree_const, degree_times, degree_less, degree_eq, degree_lt, degree_cube_sum, degree_extension, round_variable}
use Rattle.stages.specs.declared.plan.Kind.{Kind}
use Rattle.stages.specs.declared.plan.Kind.TheVariants.{Shout, Twist}
use Rattle.stages.specs.declared.plan.Stage.{Stage}
use Rattle.stages.specs.declared.plan.Stage.TheVariants.{Bits, Row, Read, Write, Value}
use Rattle.stages.specs.declared.plan.Plan.{Plan}
use Rattle.stages.specs.Plan.{bounds, rounds}
use Rattle.stages.specs.Memory.{Memory, chunk_at, chunk_table}
use Rattle.stages.specs.Formulas.{consts, chunk_part, chunk_product, inc_value, address_of, cycle_of, held, held_at, summand}
use Rattle.stages.specs.Messages.{stage_summand}
use Rattle.stages.proofs.RoundBounds.{held_degree, held_degree_most, stage_degree, Variable, in_address, in_cycle, bound_is}

-- the degrees of the two parts of a point
pub degrees_split : {F : Type 0} (n : ℕ) (point : List (List F)) → degrees point ≡ degrees (take n point) + degrees (drop n point)
degrees_split n point = ap degrees (sym (take-append-drop n point)) ∙ degrees-append (take n point) (drop n point)

module _ {F : Type 0} (f : FieldOf F) where
  abbrev o : Ops F (List F)
  o = polynomials f

  module _ (s : Sizes) where
    -- each chunk has its own part of the address, and all have the cycle
    degree_chunks : (tables : List (List F)) (n : ℕ) (a j : List (List F)) → Degree (degrees (take (n * s.c) a) + n * degrees j) (chunk_product f s o tables n a j)
    degree_chunks tables zero a j = degree_const f (degrees (take (0 * s.c) a) + 0 * degrees j) f.one
    degree_chunks tables (suc n) a j =
        weaken (omega (arith, grown, suc-mul n (degrees j), degrees-append (chunk_part f s o n a) j))
        (degree_times f (degree_chunks tables n a j) (degree_extension f (s.c + s.t) (entry f (chunk_at tables (suc n))) (chunk_part f s o n a ++ j)))
      where
        grown : degrees (take (suc n * s.c) a) ≡ degrees (take (n * s.c) a) + degrees (chunk_part f s o n a)
        grown =
            ap (λ (z : ℕ). degrees (take z a)) (suc-mul n s.c)
            ∙ ap degrees (take-add (n * s.c) s.c a)
            ∙ degrees-append (take (n * s.c) a) (chunk_part f s o n a)

    degree_all-chunks : (tables : List (List F)) (a j : List (List F)) → Degree (degrees a + s.d * degrees j) (chunk_product f s o tables s.d a j)
    degree_all-chunks tables a j = weaken (omega (arith, degrees_split (s.d * s.c) a)) (degree_chunks tables s.d a j)

  module _ (p : Plan) (m : Memory F) where
    abbrev s : Sizes
    s = p.sizes

    degree_held : (kind : Kind) (a j : List (List F)) → Degree (held_degree kind (degrees a) (degrees j)) (held f p m o kind a j)
    degree_held Shout a j = degree_extension f (k s) (entry f m.val) a
    degree_held Twist a j =
        degree_cube_sum f (degrees a + degrees j) s.t (λ i x. poly_mul f (inc_value f s o m.inc (a ++ consts f s o x)) (lt f o (consts f s o x) j))
        (λ i x. weaken (omega (arith, degrees-append a (consts f s o x), degrees-consts x))
        (degree_times f (degree_extension f (k s + s.t) (entry f m.inc) (a ++ consts f s o x)) (degree_lt f (consts f s o x) j)))

    pub degree_held-at : (point : List (List F)) → Degree (degrees point) (held_at f p m o point)
    degree_held-at point =
        weaken (omega (arith, held_degree_most p.kind (degrees (take (k s) point)) (degrees (drop (k s) point)), degrees_split (k s) point))
        (degree_held p.kind (address_of f s o point) (cycle_of f s o point))

    -- what is written in a cycle, less what the memory holds
    abbrev pub written : List (List F) → List F
    written point = less f o (extension f o s.t (entry f m.wv) (cycle_of f s o point)) (held_at f p m o point)

    pub degree_written : (point : List (List F)) → Degree (degrees point) (written point)
    degree_written point =
        degree_less f (weaken (omega (arith, degrees_split (k s) point)) (degree_extension f s.t (entry f m.wv) (cycle_of f s o point))) (degree_held-at point)

    degree_summand : (g : Stage) (draws before : List F) (point : List (List F))
        → Degree (stage_degree p g (degrees (take (k s) point)) (degrees (drop (k s) point))) (summand f p m o g draws before point)
    degree_summand (Bits w) draws before point =
        let e = degree_extension f (s.c + s.t) (entry f (chunk_table m w)) point in
        weaken (omega (arith, degrees_split (k s) point, degrees-consts draws))
        (degree_times f (degree_eq f (consts f s o draws) point) (degree_less f (degree_times f e e) (weaken (omega arith) e)))
    degree_summand (Row w) draws before point =
        weaken (omega (arith, degrees_split (k s) point, degrees-append point (consts f s o draws), degrees-consts draws))
        (degree_extension f (s.c + s.t) (entry f (chunk_table m w)) (point ++ consts f s o draws))
    degree_summand Read draws before point =
        let a = address_of f s o point in
        let j = cycle_of f s o point in
        weaken (omega (arith, degrees-consts draws))
        (degree_times f (degree_eq f (consts f s o draws) j) (degree_times f (degree_all-chunks s m.ra a j) (degree_held p.kind a j)))
    degree_summand Write draws before point =
        let a = address_of f s o point in
        let j = cycle_of f s o point in
        weaken (omega (arith, degrees_split (k s) point, degrees-consts draws))
        (degree_times f (degree_eq f (consts f s o draws) point) (degree_times f (degree_all-chunks s m.wa a j) (degree_written point)))
    degree_summand Value draws before point =
        let a = consts f s o (take (k s) before) in
        weaken (omega (arith, degrees_split (k s) point, degrees-append a point, degrees-consts (take (k s) before), degrees-consts (drop (k s) before)))
        (degree_times f (degree_extension f (k s + s.t) (entry f m.inc) (a ++ point)) (degree_lt f point (consts f s o (drop (k s) before))))

module _ {F : Type 0} (f : FieldOf F) where
  round_variable_is : (k : ℕ) (r b : List F) → Variable k (length r) (degrees (take k (round_point f r b))) (degrees (drop k (round_point f r b)))
  round_variable_is k r b =
      ⊎_elim (λ h. let e = (round_variable f k r b).before h in subst₂ (Variable k (length r)) (sym e.0) (sym e.1) (in_address h))
      (λ h. let e = (round_variable f k r b).after h in subst₂ (Variable k (length r)) (sym e.0) (sym e.1) (in_cycle h)) (cases_lt (length r) k)

  pub degrees-round_point : (r b : List F) → degrees (round_point f r b) ≡ 1
  degrees-round_point r b = ((round_variable f 0 r b).after (omega arith)).1

  -- the summand's degree in the variable of the round after r
  pub summand_bounded : (p : Plan) (m : Memory F) (g : Stage) (draws before r : List F) → length r < rounds p g
      → Bounded f (stage_summand f p m g draws before) (get_or (bounds p g) (length r) 0) r
  summand_bounded p m g draws before r h b =
      let point = round_point f r b in
      weaken (omega (arith, bound_is p g (length r) (degrees (take (k p.sizes) point)) (degrees (drop (k p.sizes) point)) (round_variable_is (k p.sizes) r b) h))
      (degree_summand f p m g draws before point)
