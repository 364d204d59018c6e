-- The lists of a run, after its first cycles.
use Rattle.std.proofs.Common.{◌≡◌, ℕ, ◌+◌, ◌*◌, ◌/◌, ◌%◌, ◌<◌, ◌≤◌, cond, ltb, ◌≢◌, List, length, get_or, set, sym, refl, ap, ◌∙◌, ap₂, mod-lt, arith, pow_pos, le-ltb, lt-ltb, eq-eqb, ne_eqb}
use native.Mathlib.Decide.{dec_lt, ℕ_discrete}
use lib.Arith.{digits_lt, digits_div, digits_mod}
use lib.ListN.{get_or-eq_default}
use lib.Pow.{split}
use Rattle.fields.specs.Fields.{FieldOf, less}
use Rattle.tables.specs.Sizes.{cell_count, cycle_count}
use Rattle.tables.specs.Tables.{entry}
use Rattle.tables.specs.Run.{cell}
use Rattle.tables.specs.Maker.{SameLists, Room, placed, operation, read_at, write_at, value_at, held_at, rv_at, increment_at, inc_at}
use Rattle.tables.specs.declared.size.Sizes.{Sizes}
use Rattle.tables.specs.declared.maker.Operation.{Operation}
use Rattle.tables.specs.declared.maker.RunLists.{RunLists}
use Rattle.tables.proofs.Placed.{length-placed, get_or-placed, placed_more, placed-set, placed_cong}
use Rattle.tables.proofs.Cells.{cell_cong}

module _ {F : Type 0} (f : FieldOf F) (s : Sizes) (ops : List (Operation F)) where
  -- INC after the first j cycles
  abbrev pub inc_upto : ℕ → ℕ → F
  inc_upto j x = cond (ltb (x % cycle_count s) j) (inc_at f s ops x) f.zero

  abbrev pub places : ℕ
  places = cell_count s * cycle_count s

  -- the lists after the first j cycles, from those before
  pub record Entered (j : ℕ) (old new : RunLists F) : Type 0 where
    pub same : SameLists old new
    pub reads : new.reads.now ≡ placed j (read_at f ops) old.reads.now
    pub writes : new.writes.now ≡ placed j (write_at f ops) old.writes.now
    pub rv : new.rv.now ≡ placed j (rv_at f ops) old.rv.now
    pub wv : new.wv.now ≡ placed j (value_at f ops) old.wv.now
    pub inc : new.inc.now ≡ placed places (inc_upto j) old.inc.now

  pub filling_is : (v : F) (j : ℕ) → v ≡ f.zero → length ops ≤ j → record { read = 0; write = 0; value = v } ≡ operation f ops j
  filling_is v j e h = ap (λ z. record { read = 0; write = 0; value = z }) e ∙ sym (get_or-eq_default ops (record { read = 0; write = 0; value = f.zero }) h)

  -- INC with zeros at its places is INC before the first cycle
  pub inc_none : (old : List F) → placed places (λ _. f.zero) old ≡ placed places (inc_upto 0) old
  inc_none old = placed_cong (λ _. f.zero) (inc_upto 0) old places f.zero (λ x b. ap (λ b. cond b (inc_at f s ops x) f.zero) (sym (le-ltb (x % cycle_count s) 0 (omega arith))))

  -- INC after all cycles
  pub inc_all : (old : List F) → placed places (inc_upto (cycle_count s)) old ≡ placed places (inc_at f s ops) old
  inc_all old =
      placed_cong (inc_upto (cycle_count s)) (inc_at f s ops) old places f.zero
      (λ x b. ap (λ z. cond z (inc_at f s ops x) f.zero) (lt-ltb (x % cycle_count s) (cycle_count s) (mod-lt x (pow_pos s.t))))

  -- where cycle j writes, and where it does not
  module _ (j : ℕ) (below : j < cycle_count s) where
    here : inc_upto (j + 1) (write_at f ops j * cycle_count s + j) ≡ less f (value_at f ops j) (held_at f ops (write_at f ops j) j)
    here =
        let r = digits_mod (write_at f ops j) below in
        let q = digits_div (write_at f ops j) below in
        ap₂ (λ (a b : ℕ). cond (ltb a (j + 1)) (increment_at f ops b a) f.zero) r q
        ∙ ap (λ b. cond b (increment_at f ops (write_at f ops j) j) f.zero) (lt-ltb j (j + 1) (omega arith))
        ∙ ap (λ b. cond b (less f (value_at f ops j) (held_at f ops (write_at f ops j) j)) f.zero) (eq-eqb (write_at f ops j) (write_at f ops j) refl)

    elsewhere : (x : ℕ) → x ≢ write_at f ops j * cycle_count s + j → inc_upto (j + 1) x ≡ inc_upto j x
    elsewhere x ne =
        let T = cycle_count s in
        let r = x % T in
        let v = inc_at f s ops x in
        elim (dec_lt r j) [
          | yes h ↦ ap (λ b. cond b v f.zero) (lt-ltb r (j + 1) (omega arith) ∙ sym (lt-ltb r j h))
          | no h ↦ elim (ℕ_discrete r j) [
            | yes e ↦
                ap (λ b. cond b v f.zero) (lt-ltb r (j + 1) (omega arith))
                ∙ ap (λ b. cond b (less f (value_at f ops r) (held_at f ops (x / T) r)) f.zero)
                (ne_eqb (x / T) (write_at f ops r) (λ q. ne (sym (split x s.t) ∙ ap₂ (λ (a b : ℕ). a * T + b) (q ∙ ap (write_at f ops) e) e)))
                ∙ sym (ap (λ b. cond b v f.zero) (le-ltb r j (omega arith)))
            | no e ↦ ap (λ b. cond b v f.zero) (le-ltb r (j + 1) (omega arith) ∙ sym (le-ltb r j (omega arith)))
          ]
        ]

  module _ (j : ℕ) (old lists : RunLists F) (room : Room s old) (below : j < cycle_count s) (e : Entered j old lists) where
    -- there is room for cycle j
    pub room_left : (j < length lists.reads.now) × (j < length lists.writes.now) × (j < length lists.rv.now) × (j < length lists.wv.now)
    room_left =
        let r = ap length e.reads ∙ length-placed (read_at f ops) old.reads.now j (omega (arith, room.in_reads)) in
        let w = ap length e.writes ∙ length-placed (write_at f ops) old.writes.now j (omega (arith, room.in_writes)) in
        let rv = ap length e.rv ∙ length-placed (rv_at f ops) old.rv.now j (omega (arith, room.in_rv)) in
        let wv = ap length e.wv ∙ length-placed (value_at f ops) old.wv.now j (omega (arith, room.in_wv)) in
        (omega (arith, r, room.in_reads), omega (arith, w, room.in_writes), omega (arith, rv, room.in_rv), omega (arith, wv, room.in_wv))

    pub place_left : (cell : ℕ) → cell < cell_count s → cell * cycle_count s + j < length lists.inc.now
    place_left cell h =
        let inc = ap length e.inc ∙ length-placed (inc_upto j) old.inc.now places room.in_inc in
        let place = digits_lt h below in
        omega (arith, inc, place, room.in_inc)

    held_is : (a : ℕ) → cell f (λ i. get_or lists.writes.now i 0) (entry f lists.wv.now) a j ≡ held_at f ops a j
    held_is a =
        cell_cong f (λ i. get_or lists.writes.now i 0) (write_at f ops) (entry f lists.wv.now) (value_at f ops) a j
        (λ i h. ap (λ z. get_or z i 0) e.writes ∙ get_or-placed (write_at f ops) old.writes.now j i 0 h)
        (λ i h. ap (λ z. entry f z i) e.wv ∙ get_or-placed (value_at f ops) old.wv.now j i f.zero h)

    pub entered_more : (o : Operation F) → o ≡ operation f ops j → o.write < cell_count s → (new : RunLists F) → SameLists lists new
        → new.reads.now ≡ set lists.reads.now j o.read → new.writes.now ≡ set lists.writes.now j o.write
        → new.rv.now ≡ set lists.rv.now j (cell f (λ i. get_or lists.writes.now i 0) (entry f lists.wv.now) o.read j) → new.wv.now ≡ set lists.wv.now j o.value
        → new.inc.now ≡ set lists.inc.now (o.write * cycle_count s + j) (less f o.value (cell f (λ i. get_or lists.writes.now i 0) (entry f lists.wv.now) o.write j))
        → Entered (j + 1) old new
    entered_more o is cell_below new same e₁ e₂ e₃ e₄ e₅ =
        let w = write_at f ops j in
        record {
          same = record {
            reads = same.reads ∙ e.same.reads;
            writes = same.writes ∙ e.same.writes;
            rv = same.rv ∙ e.same.rv;
            wv = same.wv ∙ e.same.wv;
            inc = same.inc ∙ e.same.inc;
          };
          reads = e₁ ∙ ap₂ (λ z x. set z j x) e.reads (ap (λ z. z.read) is) ∙ placed_more (read_at f ops) old.reads.now j (omega (arith, room.in_reads));
          writes = e₂ ∙ ap₂ (λ z x. set z j x) e.writes (ap (λ z. z.write) is) ∙ placed_more (write_at f ops) old.writes.now j (omega (arith, room.in_writes));
          rv = e₃ ∙ ap₂ (λ z x. set z j x) e.rv (held_is o.read ∙ ap (λ z. held_at f ops z.read j) is) ∙ placed_more (rv_at f ops) old.rv.now j (omega (arith, room.in_rv));
          wv = e₄ ∙ ap₂ (λ z x. set z j x) e.wv (ap (λ z. z.value) is) ∙ placed_more (value_at f ops) old.wv.now j (omega (arith, room.in_wv));
          inc =
              e₅
              ∙ ap₂ (λ z x. set z (o.write * cycle_count s + j) x) e.inc (ap (less f o.value) (held_is o.write))
              ∙ ap (λ z. set (placed places (inc_upto j) old.inc.now) (z.write * cycle_count s + j) (less f z.value (held_at f ops z.write j))) is
              ∙ placed-set (inc_upto j) (inc_upto (j + 1)) old.inc.now places (w * cycle_count s + j) (less f (value_at f ops j) (held_at f ops w j))
              (digits_lt (omega (arith, ap (λ z. z.write) is)) below) (here j below) (λ x b ne. elsewhere j below x ne);
        }
