-- The answers of a table given by the entry at each index, and of an extension.
use Rattle.std.proofs.Common.{◌≡◌, ℕ, ◌^◌, ◌<◌, ◌≤◌, true, eqb, List, length, get_or, take, Ok, Result, sym, ap, ◌∙◌, arith, length-take-le, get_or-take, ltb, ltb-true, eq-eqb, true-eqb}
use Rattle.std.proofs.lemmas.List.FromFn.{get_or-map-range_with_len}
use Rattle.fields.specs.Fields.{FieldOf, elements}
use Rattle.fields.specs.declared.refusal.Refusal.{Refusal}
use Rattle.tables.specs.Limits.{most_variables}
use Rattle.tables.specs.Formulas.{extension}
use Rattle.tables.specs.Tables.{tabulate, table_of, entry, opened, entry_answer, variables_in, variables_upto_few, on_table}
use Rattle.tables.specs.Kinds.{plain_table}
use Rattle.tables.proofs.Extension.{ext_cong}
use Rattle.tables.proofs.Variables.{variables_of_power}

pub get_or-tabulate : {A : Type 0} (n i : ℕ) (g : ℕ → A) (d : A) → i < n → get_or (tabulate n g) i d ≡ g i
get_or-tabulate n i g d h = get_or-map-range_with_len g 0 n i i d h (omega arith)

module _ {F : Type 0} (f : FieldOf F) (n : ℕ) (few : n ≤ most_variables) (g : ℕ → F) where
  pub opens : (p : List F) (v : F) → true ≡ eqb (length p) n → v ≡ extension f (elements f) n g p → Ok v ≡ opened f (table_of n few g) p
  opens p v h e =
      let same = ext_cong f n (entry f (tabulate (2 ^ n) g)) g p (λ i k. get_or-tabulate (2 ^ n) i g f.zero k) in rw (sym h) (ap Ok (e ∙ sym same))

  pub gives : (i : ℕ) (v : F) → true ≡ ltb i (2 ^ n) → v ≡ g i → Ok v ≡ entry_answer f (table_of n few g) i
  gives i v h e = rw (sym h) (ap Ok (e ∙ sym (get_or-tabulate (2 ^ n) i g f.zero (ltb-true i (2 ^ n) (sym h)))))

-- the list is a table, and the point fits it
pub on_fitting_table : {F : Type 0} (f : FieldOf F) (es p : List F) (v : F) → length es ≡ 2 ^ variables_in (length es)
    → eqb (length p) (variables_in (length es)) ≡ true → Ok v ≡ on_table f es p v
on_fitting_table f es p v h k = rw (eq-eqb (2 ^ variables_in (length es)) (length es) (sym h), k)

-- a list opens as the first 2^n of its entries, for the largest n that it is long enough for
pub opens_part : {F : Type 0} (f : FieldOf F) (es p : List F) (m : ℕ) (r : Result F Refusal) → r ≡ on_table f (take m es) p (extension f (elements f) (length p) (entry f (take m es)) p)
    → m ≡ 2 ^ variables_in (length es) → m ≤ length es → true ≡ eqb (length p) (variables_in (length es)) → r ≡ opened f (plain_table f es) p
opens_part f es p m r e size enough fit =
    let n = variables_in (length es) in
    let few = variables_upto_few most_variables (length es) in
    let long : length (take m es) ≡ 2 ^ n = length-take-le m es enough ∙ size in
    let own : variables_in (length (take m es)) ≡ n = ap variables_in long ∙ variables_of_power most_variables n few in
    e
    ∙ sym (on_fitting_table f (take m es) p _ (long ∙ ap (λ (k : ℕ). 2 ^ k) (sym own)) (ap (eqb (length p)) own ∙ sym fit))
    ∙ opens f n few (entry f es) p _ fit
    (ap (λ (k : ℕ). extension f (elements f) k (entry f (take m es)) p) (true-eqb (length p) n fit)
    ∙ ext_cong f n (entry f (take m es)) (entry f es) p (λ i h. get_or-take m es i f.zero (omega arith)))
