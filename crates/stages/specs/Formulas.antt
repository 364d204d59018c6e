-- The summand of each stage: one formula, read over elements or over polynomials.
use Rattle.std.specs.Prelude.{ℕ, zero, suc, ◌+◌, ◌*◌, List, ◌++◌, map, take, drop}
use Rattle.fields.specs.Fields.{FieldOf, Ops}
use Rattle.tables.specs.Formulas.{less, eq, lt, cube_sum, extension}
use Rattle.tables.specs.Sizes.{k}
use Rattle.tables.specs.declared.size.Sizes.{Sizes}
use Rattle.tables.specs.Tables.{entry}
use Rattle.stages.specs.declared.plan.Kind.{Kind}
use Rattle.stages.specs.declared.plan.Kind.TheVariants.{Shout, Twist}
use Rattle.stages.specs.declared.plan.Stage.{Stage}
use Rattle.stages.specs.declared.plan.Stage.TheVariants.{Bits, Row, Read, Write, Value}
use Rattle.stages.specs.declared.plan.Plan.{Plan}
use Rattle.stages.specs.Memory.{Memory, chunk_at, chunk_table}

module _ {F R : Type 0} (f : FieldOf F) (s : Sizes) (o : Ops F R) where
  -- a point of elements as what the formula is read over
  abbrev pub consts : List F → List R
  consts xs = map o.const xs

  -- a chunk table at a point of c + t coordinates
  abbrev pub chunk_value : List F → List R → R
  chunk_value table point = extension f o (s.c + s.t) (entry f table) point

  -- the coordinates of chunk n of an address, from 0
  abbrev pub chunk_part : ℕ → List R → List R
  chunk_part n a = take s.c (drop (n * s.c) a)

  -- ra or wa at an address a and a cycle j: the product of the first n chunk tables, each at its chunk of a and at j
  abbrev pub chunk_product : List (List F) → ℕ → List R → List R → R
  chunk_product tables zero a j = o.const f.one
  chunk_product tables (suc n) a j = o.times (chunk_product tables n a j) (chunk_value (chunk_at tables (suc n)) (chunk_part n a ++ j))

  -- INC at a point of k + t coordinates
  abbrev pub inc_value : List F → List R → R
  inc_value inc point = extension f o (k s + s.t) (entry f inc) point

  -- Val at an address and a cycle: what was added to the cell in the cycles before
  abbrev pub val_value : List F → List R → List R → R
  val_value inc a j = cube_sum f o s.t (λ i x. o.times (inc_value inc (a ++ consts x)) (lt f o (consts x) j))

  -- the address and the cycle of a point
  abbrev pub address_of : List R → List R
  address_of point = take (k s) point

  abbrev pub cycle_of : List R → List R
  cycle_of point = drop (k s) point

module _ {F R : Type 0} (f : FieldOf F) (p : Plan) (m : Memory F) (o : Ops F R) where
  abbrev s : Sizes
  s = p.sizes

  -- what the memory holds at an address and a cycle
  abbrev pub held : Kind → List R → List R → R
  held Shout a j = extension f o (k s) (entry f m.val) a
  held Twist a j = val_value f s o m.inc a j

  -- a stage's summand at a point without its factor eq, where h stands for what the memory holds there
  abbrev pub core_with : R → Stage → List R → R
  core_with h (Bits w) point = let e = chunk_value f s o (chunk_table m w) point in less f o (o.times e e) e
  core_with h (Row w) point = chunk_value f s o (chunk_table m w) point
  core_with h Read point = o.times (chunk_product f s o m.ra s.d (address_of f s o point) (cycle_of f s o point)) h
  core_with h Write point =
      o.times (chunk_product f s o m.wa s.d (address_of f s o point) (cycle_of f s o point))
      (less f o (extension f o s.t (entry f m.wv) (cycle_of f s o point)) h)
  core_with h Value point = o.const f.one

  -- a stage's summand at a point, with its draws and, for a value stage, the round challenges of the stage before; h as above
  abbrev pub summand_with : R → Stage → List F → List F → List R → R
  summand_with h (Bits w) draws before point = o.times (eq f o (consts f s o draws) point) (core_with h (Bits w) point)
  summand_with h (Row w) draws before point = core_with h (Row w) (point ++ consts f s o draws)
  summand_with h Read draws before point = o.times (eq f o (consts f s o draws) (cycle_of f s o point)) (core_with h Read point)
  summand_with h Write draws before point = o.times (eq f o (consts f s o draws) point) (core_with h Write point)
  summand_with h Value draws before point =
      o.times (inc_value f s o m.inc (consts f s o (take (k s) before) ++ point)) (lt f o point (consts f s o (drop (k s) before)))

  -- what the memory holds at a point of an address and a cycle
  abbrev pub held_at : List R → R
  held_at point = held p.kind (address_of f s o point) (cycle_of f s o point)

  abbrev pub core : Stage → List R → R
  core g point = let h = held_at point in core_with h g point

  abbrev pub summand : Stage → List F → List F → List R → R
  summand g draws before point = let h = held_at point in summand_with h g draws before point
