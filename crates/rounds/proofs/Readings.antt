-- A map that keeps the operations keeps every formula; evaluating a polynomial at x is such a map.
use Rattle.std.proofs.Common.{◌≡◌, ℕ, zero, suc, ◌+◌, ◌^◌, List, [], ◌∷◌, map, refl, ◌∙◌, ap₂}
use Rattle.fields.specs.Fields.{FieldOf, Ops, elements}
use Rattle.tables.specs.Formulas.{eq, lt, cube_sum, extension}
use Rattle.rounds.specs.Polynomials.{polynomials, value}
use Rattle.rounds.specs.Readings.{Evaluates}
use Rattle.rounds.proofs.Values.{value-add, value-mul, value-neg, value-const}

-- a map between what two readings are over, which keeps the operations
pub record Hom {F R S : Type 0} (o : Ops F R) (q : Ops F S) : Type 0 where
  pub at : R → S
  pub on_const : (a : F) → at (o.const a) ≡ q.const a
  pub on_plus : (a b : R) → at (o.plus a b) ≡ q.plus (at a) (at b)
  pub on_times : (a b : R) → at (o.times a b) ≡ q.times (at a) (at b)
  pub on_minus : (a : R) → at (o.minus a) ≡ q.minus (at a)

-- evaluating at x
abbrev pub at_point : {F : Type 0} (f : FieldOf F) → F → Hom (polynomials f) (elements f)
at_point f x = record {
  at = λ p. value f p x;
  on_const = λ a. value-const f a x;
  on_plus = λ p q. value-add f p q x;
  on_times = λ p q. value-mul f p q x;
  on_minus = λ p. value-neg f p x;
}

module _ {F R S : Type 0} (f : FieldOf F) {o : Ops F R} {q : Ops F S} (h : Hom o q) where
  open h use {at, on_const, on_plus, on_times, on_minus}

  pub on_eq : (xs ys : List R) → at (eq f o xs ys) ≡ eq f q (map at xs) (map at ys)
  on_eq [] ys = on_const f.one
  on_eq (x ∷ xs) [] = on_const f.one
  on_eq (x ∷ xs) (y ∷ ys) = simp (on_plus, on_times, on_minus, on_const, on_eq xs ys)

  pub on_lt : (xs ys : List R) → at (lt f o xs ys) ≡ lt f q (map at xs) (map at ys)
  on_lt [] ys = on_const f.zero
  on_lt (x ∷ xs) [] = on_const f.zero
  on_lt (x ∷ xs) (y ∷ ys) = simp (on_plus, on_times, on_minus, on_const, on_lt xs ys)

  pub on_cube_sum : (n : ℕ) (g : ℕ → List F → R) → at (cube_sum f o n g) ≡ cube_sum f q n (λ i b. at (g i b))
  on_cube_sum zero g = refl
  on_cube_sum (suc n) g =
      on_plus (cube_sum f o n (λ i b. g i (f.zero ∷ b))) (cube_sum f o n (λ i b. g (2 ^ n + i) (f.one ∷ b)))
      ∙ ap₂ q.plus (on_cube_sum n (λ i b. g i (f.zero ∷ b))) (on_cube_sum n (λ i b. g (2 ^ n + i) (f.one ∷ b)))

  pub on_consts : (b : List F) → map at (map o.const b) ≡ map q.const b
  on_consts [] = refl
  on_consts (x ∷ b) = ap₂ ◌∷◌ (on_const x) (on_consts b)

  pub on_extension : (n : ℕ) (e : ℕ → F) (p : List R) → at (extension f o n e p) ≡ extension f q n e (map at p)
  on_extension n e p = simp (on_cube_sum, on_times, on_const, on_eq, on_consts)

pub evaluates : {F : Type 0} (f : FieldOf F) (x : F) → Evaluates f x
evaluates f x = record {
  on_const = λ a. value-const f a x;
  on_plus = λ p q. value-add f p q x;
  on_times = λ p q. value-mul f p q x;
  on_minus = λ p. value-neg f p x;
  on_eq = on_eq f (at_point f x);
  on_lt = on_lt f (at_point f x);
  on_cube_sum = on_cube_sum f (at_point f x);
  on_extension = on_extension f (at_point f x);
}
