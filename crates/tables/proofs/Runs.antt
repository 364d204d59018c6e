-- The lists of the run maker are a right run.
use Rattle.std.proofs.Common.{◌≡◌, ℕ, zero, suc, ◌+◌, ◌*◌, ◌^◌, ◌<◌, Bool, true, false, cond, eqb, List, [], ◌∷◌, length, get_or, take, Ok, Err, Result, sym, refl, ap, ◌∙◌, ap₂, arith, pow_pos, pow-add, leb-true}
use Rattle.std.proofs.lemmas.Bool.Decides.{nat_tests}
use mathlib.Core.Path.{transport}
use native.Mathlib.Decide.{dec_lt}
use lib.Arith.{digits_lt, digits_div, digits_mod}
use lib.ListN.{get_or-eq_default}
use Rattle.fields.specs.Fields.{FieldOf, less}
use Rattle.fields.specs.declared.refusal.Refusal.{Refusal}
use Rattle.fields.specs.declared.refusal.Refusal.TheVariants.{AddressTooLarge}
use Rattle.tables.specs.Sizes.{k, cell_count, cycle_count}
use Rattle.tables.specs.Tables.{tabulate, entry}
use Rattle.tables.specs.Kinds.{if_all, chunk, one_hot_entry, one_hot_table}
use Rattle.tables.specs.Run.{cell, Addressed}
use Rattle.tables.specs.Maker.{placed, addressed_below, operations_answer, Fitting, operation, read_at, write_at, value_at, held_at, rv_at, increment_at, inc_at, one_hots, RunOf}
use Rattle.tables.specs.declared.size.Sizes.{Sizes}
use Rattle.tables.specs.declared.maker.Operation.{Operation}
use Rattle.tables.proofs.Made.{passed}
use Rattle.tables.proofs.Entries.{get_or-tabulate}
use Rattle.tables.proofs.Placed.{take-placed}
use Rattle.tables.proofs.Cells.{cell_cong}

-- a walk that ended well passed every item
all_passed : {X A : Type 0} (ranged : X → Bool) (j : ℕ) (xs : List X) (v : Result A Refusal) (a : A) → if_all ranged j xs v ≡ Ok a
    → (v ≡ Ok a) × ((i : ℕ) (d : X) → i < length xs → ranged (get_or xs i d) ≡ true)
all_passed ranged j [] v a h = (h, λ i d b. absurd (omega arith))
all_passed {X = X} ranged j (x ∷ xs) v a h = by (ranged x) refl h (all_passed ranged (suc j) xs v a)
  where
    by : (b : Bool) → ranged x ≡ b → cond b (if_all ranged (suc j) xs v) (Err (AddressTooLarge j)) ≡ Ok a
        → (if_all ranged (suc j) xs v ≡ Ok a → (v ≡ Ok a) × ((i : ℕ) (d : X) → i < length xs → ranged (get_or xs i d) ≡ true))
        → (v ≡ Ok a) × ((i : ℕ) (d : X) → i < length (x ∷ xs) → ranged (get_or (x ∷ xs) i d) ≡ true)
    by true e q rest = ((rest q).0, each)
      where
        each : (i : ℕ) (d : X) → i < length (x ∷ xs) → ranged (get_or (x ∷ xs) i d) ≡ true
        each zero d b = e
        each (suc i) d b = (rest q).1 i d (omega arith)
    by false e q rest = absurd (cc)

pub fitting : {F : Type 0} (s : Sizes) (ops : List (Operation F)) → operations_answer s ops ≡ Ok tt → Fitting s ops
fitting s ops h =
    let all = all_passed (addressed_below (cell_count s)) 0 ops _ tt h in
    record {
      few = leb-true (length ops) (cycle_count s) (sym (passed _ (sym all.0)));
      reads_below = λ j o b. let both = all.1 j o b in grind (arith, nat_tests);
      writes_below = λ j o b. let both = all.1 j o b in grind (arith, nat_tests);
    }

module _ {F : Type 0} (f : FieldOf F) (s : Sizes) where
  hots_addressed : (at : ℕ → ℕ) → ((j : ℕ) → j < cycle_count s → at j < cell_count s) → Addressed f s (one_hots f s (tabulate (cycle_count s) at)) at
  hots_addressed at below = record {
    below = below;
    one_hot = λ i a j hi ha hj.
        let T = cycle_count s in
        let addresses = tabulate T at in
        let inside = digits_lt ha hj in
        ap (λ (z : List F). entry f z (a * T + j)) (get_or-tabulate s.d i (λ i. (one_hot_table f s (suc i) addresses).entries) [] hi)
        ∙ get_or-tabulate (2 ^ (s.c + s.t)) (a * T + j) (one_hot_entry f s (suc i) addresses) f.zero (omega (arith, pow-add 2 s.c s.t))
        ∙ ap₂ (λ (r q : ℕ). cond (eqb (chunk s (suc i) (get_or addresses r 0)) q) f.one f.zero) (digits_mod a hj) (digits_div a hj)
        ∙ ap (λ (z : ℕ). cond (eqb (chunk s (suc i) z) a) f.one f.zero) (get_or-tabulate T j at 0 hj);
  }

  module _ (ops : List (Operation F)) (fit : Fitting s ops) where
    ranged : (part : Operation F → ℕ) → part (record { read = 0; write = 0; value = f.zero }) ≡ 0
        → ((j : ℕ) (o : Operation F) → j < length ops → part (get_or ops j o) < cell_count s) → (j : ℕ) → part (operation f ops j) < cell_count s
    ranged part none below j = elim (dec_lt j (length ops)) [
      | yes h ↦ below j _ h
      | no h ↦
          let e : part (operation f ops j) ≡ 0 = ap part (get_or-eq_default ops (record { read = 0; write = 0; value = f.zero }) (omega arith)) ∙ none in
          let p : 0 < cell_count s = pow_pos (k s) in
          omega arith
    ]

    held_is : (a j : ℕ) → j < cycle_count s → held_at f ops a j ≡ cell f (write_at f ops) (entry f (tabulate (cycle_count s) (value_at f ops))) a j
    held_is a j h =
        cell_cong f (write_at f ops) (write_at f ops) (value_at f ops) (entry f (tabulate (cycle_count s) (value_at f ops))) a j (λ i b. refl)
        (λ i b. sym (get_or-tabulate (cycle_count s) i (value_at f ops) f.zero (omega arith)))

    tabulated_run : RunOf f s ops (tabulate (cycle_count s) (read_at f ops)) (tabulate (cycle_count s) (write_at f ops))
        (tabulate (cycle_count s) (rv_at f ops)) (tabulate (cycle_count s) (value_at f ops)) (tabulate (cell_count s * cycle_count s) (inc_at f s ops))
    tabulated_run = record {
      run = record {
        reads = read_at f ops;
        writes = write_at f ops;
        reads_addressed = hots_addressed (read_at f ops) (λ j h. ranged (λ o. o.read) refl fit.reads_below j);
        writes_addressed = hots_addressed (write_at f ops) (λ j h. ranged (λ o. o.write) refl fit.writes_below j);
        gives = λ j h. get_or-tabulate (cycle_count s) j (rv_at f ops) f.zero h ∙ held_is (read_at f ops j) j h;
        increments = λ a j ha hj.
            get_or-tabulate (cell_count s * cycle_count s) (a * cycle_count s + j) (inc_at f s ops) f.zero (digits_lt ha hj)
            ∙ ap₂ (increment_at f ops) (digits_div a hj) (digits_mod a hj)
            ∙ ap₂ (λ x y. cond (eqb a (write_at f ops j)) (less f x y) f.zero) (sym (get_or-tabulate (cycle_count s) j (value_at f ops) f.zero hj)) (held_is a j hj);
      };
      reads_given = λ j h. refl;
      writes_given = λ j h. refl;
      values_given = λ j h. get_or-tabulate (cycle_count s) j (value_at f ops) f.zero h;
    }

    pub placed_run : (reads₀ writes₀ : List ℕ) (rv₀ wv₀ inc₀ : List F) (reads writes : List ℕ) (rv wv inc : List F)
        → reads ≡ placed (cycle_count s) (read_at f ops) reads₀ → writes ≡ placed (cycle_count s) (write_at f ops) writes₀
        → rv ≡ placed (cycle_count s) (rv_at f ops) rv₀ → wv ≡ placed (cycle_count s) (value_at f ops) wv₀
        → inc ≡ placed (cell_count s * cycle_count s) (inc_at f s ops) inc₀
        → RunOf f s ops (take (cycle_count s) reads) (take (cycle_count s) writes) (take (cycle_count s) rv) (take (cycle_count s) wv) (take (cell_count s * cycle_count s) inc)
    placed_run reads₀ writes₀ rv₀ wv₀ inc₀ reads writes rv wv inc e₁ e₂ e₃ e₄ e₅ =
        let T = cycle_count s in
        let n = cell_count s * cycle_count s in
        let p₁ = sym (ap (take T) e₁ ∙ take-placed (read_at f ops) reads₀ T) in
        let p₂ = sym (ap (take T) e₂ ∙ take-placed (write_at f ops) writes₀ T) in
        let p₃ = sym (ap (take T) e₃ ∙ take-placed (rv_at f ops) rv₀ T) in
        let p₄ = sym (ap (take T) e₄ ∙ take-placed (value_at f ops) wv₀ T) in
        let p₅ = sym (ap (take n) e₅ ∙ take-placed (inc_at f s ops) inc₀ n) in
        transport (λ i. RunOf f s ops (p₁ i) (p₂ i) (p₃ i) (p₄ i) (p₅ i)) tabulated_run
