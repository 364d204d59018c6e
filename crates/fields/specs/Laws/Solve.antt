-- Identities of commutative rings, decided by computing: `solve2 f (λ x y. x ⊗ y ≐ y ⊗ x) tt a b` is `a · b ≡ b · a`.
-- Two expressions with one normal form have one value in every field.
use Rattle.std.specs.Prelude.{◌≡◌, ℕ, zero, suc, ◌+◌, ◌*◌, Bool, true, false, T, List, [], ◌∷◌, cond, nat_le, refl}
use Rattle.std.proofs.Common.{sym, ap, ap₂, subst, ◌∙◌}
use Rattle.fields.specs.Fields.{FieldOf, less, ones}
use Rattle.fields.specs.Laws.Derived.{add_left_comm, mul_left_comm, zero-add, one-mul, add-mul, add_cancel, mul-zero, zero-mul, ones-add, ones-mul}
use Rattle.fields.specs.Laws.Expressions.{Monomial, Term, Sum, Difference, with_variable, joined, same, before, with_term, sum, scaled, product, numeral, normal, side, agree, same_equal, agree_equal, Computes}
pub use Rattle.fields.specs.Laws.Expressions.{Expression, var, con, ◌⊕◌, ◌⊖◌, ◌⊗◌, ⊝, Equation, ◌≐◌}

-- the variable i among the values given, and zero past them
abbrev lookup : {F : Type 0} → F → List F → ℕ → F
lookup d [] i = d
lookup d (x ∷ xs) zero = x
lookup d (x ∷ xs) (suc i) = lookup d xs i

-- a numeral: 0 is zero itself, 1 is one itself, 2 is one and one, ..
abbrev number : {F : Type 0} → FieldOf F → ℕ → F
number f zero = f.zero
number f (suc zero) = f.one
number f (suc (suc n)) = f.add (number f (suc n)) f.one

abbrev value : {F : Type 0} → FieldOf F → List F → Expression → F
value f xs (var i) = lookup f.zero xs i
value f xs (con n) = number f n
value f xs (a ⊕ b) = f.add (value f xs a) (value f xs b)
value f xs (a ⊖ b) = less f (value f xs a) (value f xs b)
value f xs (a ⊗ b) = f.mul (value f xs a) (value f xs b)
value f xs (⊝ a) = f.neg (value f xs a)

-- If x is p less n, and y is q less m: their sum, their product, and the negative of x, as such differences.
module _ {F : Type 0} (f : FieldOf F) where
  open f use {add, mul, neg, add_comm, add_assoc, add-neg, mul-add}

  sum_differs : {x n p y m q : F} → add x n ≡ p → add y m ≡ q → add (add x y) (add n m) ≡ add p q
  sum_differs h k = simp (← h, ← k, add_assoc, add_left_comm f)

  product_differs : {x n p y m q : F} → add x n ≡ p → add y m ≡ q → add (mul x y) (add (mul p m) (mul n q)) ≡ add (mul p q) (mul n m)
  product_differs h k = simp (← h, ← k, mul-add, add-mul f, add_assoc, add_left_comm f, add_comm)

  negative_differs : {x n p : F} → add x n ≡ p → add (neg x) p ≡ n
  negative_differs {x} {n} {p} h = simp (← h) (sym (add_assoc (neg x) x n) ∙ ap (λ z. add z n) (add_comm (neg x) x ∙ add-neg x) ∙ zero-add f n)

module _ {F : Type 0} (f : FieldOf F) (xs : List F) where
  open f use {one, add, mul, add_comm, add_assoc, add-zero, mul_assoc, mul-one, mul-add}

  abbrev at : ℕ → F
  at i = lookup f.zero xs i

  abbrev monomial_value : Monomial → F
  monomial_value [] = one
  monomial_value (i ∷ m) = mul (at i) (monomial_value m)

  abbrev term_value : Term → F
  term_value t = mul (ones f t.times) (monomial_value t.monomial)

  abbrev sum_value : Sum → F
  sum_value [] = f.zero
  sum_value (t ∷ p) = add (term_value t) (sum_value p)

  with_variable-value : (i : ℕ) (m : Monomial) → monomial_value (with_variable i m) ≡ mul (at i) (monomial_value m)
  with_variable-value i [] = refl
  with_variable-value i (j ∷ js) = either (nat_le i j) (with_variable-value i js)
    where
      either : (b : Bool) → monomial_value (with_variable i js) ≡ mul (at i) (monomial_value js)
          → monomial_value (cond b (i ∷ j ∷ js) (j ∷ with_variable i js)) ≡ mul (at i) (monomial_value (j ∷ js))
      either true h = refl
      either false h = ap (mul (at j)) h ∙ mul_left_comm f (at j) (at i) (monomial_value js)

  joined-value : (m n : Monomial) → monomial_value (joined m n) ≡ mul (monomial_value m) (monomial_value n)
  joined-value [] n = sym (one-mul f (monomial_value n))
  joined-value (i ∷ m) n = with_variable-value i (joined m n) ∙ ap (mul (at i)) (joined-value m n) ∙ sym (mul_assoc (at i) (monomial_value m) (monomial_value n))

  with_term-value : (t : Term) (p : Sum) → sum_value (with_term t p) ≡ add (term_value t) (sum_value p)
  with_term-value t [] = refl
  with_term-value t (u ∷ us) = either (same t.monomial u.monomial) (before t.monomial u.monomial) refl (with_term-value t us)
    where
      either : (b s : Bool) → same t.monomial u.monomial ≡ b → sum_value (with_term t us) ≡ add (term_value t) (sum_value us)
          → sum_value (cond b (record { times = t.times + u.times; monomial = u.monomial } ∷ us) (cond s (t ∷ u ∷ us) (u ∷ with_term t us))) ≡ add (term_value t) (sum_value (u ∷ us))
      either true s e h =
          let alike = same_equal t.monomial u.monomial (subst T (sym e) tt) in
          ap (λ x. add x (sum_value us)) (ap (λ x. mul x (monomial_value u.monomial)) (ones-add f t.times u.times) ∙ add-mul f (ones f t.times) (ones f u.times) (monomial_value u.monomial))
          ∙ add_assoc (mul (ones f t.times) (monomial_value u.monomial)) (term_value u) (sum_value us)
          ∙ ap (λ m. add (mul (ones f t.times) (monomial_value m)) (add (term_value u) (sum_value us))) (sym alike)
      either false true e h = refl
      either false false e h = ap (add (term_value u)) h ∙ add_left_comm f (term_value u) (term_value t) (sum_value us)

  sum_adds : (p q : Sum) → sum_value (sum p q) ≡ add (sum_value p) (sum_value q)
  sum_adds [] q = sym (zero-add f (sum_value q))
  sum_adds (t ∷ p) q = with_term-value t (sum p q) ∙ ap (add (term_value t)) (sum_adds p q) ∙ sym (add_assoc (term_value t) (sum_value p) (sum_value q))

  scaled_multiplies : (t : Term) (q : Sum) → sum_value (scaled t q) ≡ mul (term_value t) (sum_value q)
  scaled_multiplies t [] = sym (mul-zero f (term_value t))
  scaled_multiplies t (u ∷ q) =
      with_term-value (record { times = t.times * u.times; monomial = joined t.monomial u.monomial }) (scaled t q)
      ∙ ap₂ add head (scaled_multiplies t q)
      ∙ sym (mul-add (term_value t) (term_value u) (sum_value q))
    where
      head : mul (ones f (t.times * u.times)) (monomial_value (joined t.monomial u.monomial)) ≡ mul (term_value t) (term_value u)
      head = simp (ones-mul f, joined-value, mul_assoc, mul_left_comm f)

  product_multiplies : (p q : Sum) → sum_value (product p q) ≡ mul (sum_value p) (sum_value q)
  product_multiplies [] q = sym (zero-mul f (sum_value q))
  product_multiplies (t ∷ p) q =
      sum_adds (scaled t q) (product p q)
      ∙ ap₂ add (scaled_multiplies t q) (product_multiplies p q)
      ∙ sym (add-mul f (term_value t) (sum_value p) (sum_value q))

  numeral-value : (n : ℕ) → sum_value (numeral n) ≡ number f n
  numeral-value zero = refl
  numeral-value (suc n) = simp (mul-one, add-zero) (counted n)
    where
      counted : (n : ℕ) → ones f (suc n) ≡ number f (suc n)
      counted zero = zero-add f one
      counted (suc n) = ap (λ x. add x one) (counted n)

  -- the normal form has the value of its expression
  abbrev Stands : Difference → F → Type 0
  Stands d x = add x (sum_value d.down) ≡ sum_value d.up

  normal_stands : (e : Expression) → Stands (normal e) (value f xs e)
  normal_stands (var i) = ap (λ x. add x f.zero) (sym (ap₂ mul (zero-add f one) (mul-one (at i)) ∙ one-mul f (at i)))
  normal_stands (con n) = add-zero (number f n) ∙ sym (numeral-value n)
  normal_stands (a ⊕ b) = simp sum_adds (sum_differs f (normal_stands a) (normal_stands b))
  normal_stands (a ⊖ b) = simp sum_adds (sum_differs f (normal_stands a) (negative_differs f (normal_stands b)))
  normal_stands (a ⊗ b) = simp (sum_adds, product_multiplies) (product_differs f (normal_stands a) (normal_stands b))
  normal_stands (⊝ a) = negative_differs f (normal_stands a)

  side-value : (a b : Expression) → sum_value (side a b) ≡ add (value f xs a) (add (sum_value (normal a).down) (sum_value (normal b).down))
  side-value a b =
      sum_adds (normal a).up (normal b).down
      ∙ ap (λ x. add x (sum_value (normal b).down)) (sym (normal_stands a))
      ∙ add_assoc (value f xs a) (sum_value (normal a).down) (sum_value (normal b).down)

  solve : (a b : Expression) → T (agree (side a b) (side b a)) → value f xs a ≡ value f xs b
  solve a b h =
      add_cancel f (value f xs a) (value f xs b) (add (sum_value (normal a).down) (sum_value (normal b).down))
      (sym (side-value a b)
      ∙ ap sum_value (agree_equal (side a b) (side b a) h)
      ∙ side-value b a
      ∙ ap (add (value f xs b)) (add_comm (sum_value (normal b).down) (sum_value (normal a).down)))

abbrev Holds : {F : Type 0} → FieldOf F → List F → Equation → Type 0
Holds f xs (a ≐ b) = value f xs a ≡ value f xs b

holds : {F : Type 0} (f : FieldOf F) (xs : List F) (e : Equation) → Computes e → Holds f xs e
holds f xs (a ≐ b) h = solve f xs a b h

-- An equation in one, two, .. variables, which a λ names.
module _ {F : Type 0} (f : FieldOf F) where
  pub solve1 : (e : Expression → Equation) → Computes (e (var 0)) → (a : F) → Holds f (a ∷ []) (e (var 0))
  solve1 e h a = holds f (a ∷ []) (e (var 0)) h

  pub solve2 : (e : Expression → Expression → Equation) → Computes (e (var 0) (var 1)) → (a b : F) → Holds f (a ∷ b ∷ []) (e (var 0) (var 1))
  solve2 e h a b = holds f (a ∷ b ∷ []) (e (var 0) (var 1)) h

  pub solve3 : (e : Expression → Expression → Expression → Equation) → Computes (e (var 0) (var 1) (var 2))
      → (a b c : F) → Holds f (a ∷ b ∷ c ∷ []) (e (var 0) (var 1) (var 2))
  solve3 e h a b c = holds f (a ∷ b ∷ c ∷ []) (e (var 0) (var 1) (var 2)) h

  pub solve4 : (e : Expression → Expression → Expression → Expression → Equation) → Computes (e (var 0) (var 1) (var 2) (var 3))
      → (a b c d : F) → Holds f (a ∷ b ∷ c ∷ d ∷ []) (e (var 0) (var 1) (var 2) (var 3))
  solve4 e h a b c d = holds f (a ∷ b ∷ c ∷ d ∷ []) (e (var 0) (var 1) (var 2) (var 3)) h

  pub solve5 : (e : Expression → Expression → Expression → Expression → Expression → Equation) → Computes (e (var 0) (var 1) (var 2) (var 3) (var 4))
      → (a b c d g : F) → Holds f (a ∷ b ∷ c ∷ d ∷ g ∷ []) (e (var 0) (var 1) (var 2) (var 3) (var 4))
  solve5 e h a b c d g = holds f (a ∷ b ∷ c ∷ d ∷ g ∷ []) (e (var 0) (var 1) (var 2) (var 3) (var 4)) h

  pub solve6 : (e : Expression → Expression → Expression → Expression → Expression → Expression → Equation) → Computes (e (var 0) (var 1) (var 2) (var 3) (var 4) (var 5))
      → (a b c d g h : F) → Holds f (a ∷ b ∷ c ∷ d ∷ g ∷ h ∷ []) (e (var 0) (var 1) (var 2) (var 3) (var 4) (var 5))
  solve6 e t a b c d g h = holds f (a ∷ b ∷ c ∷ d ∷ g ∷ h ∷ []) (e (var 0) (var 1) (var 2) (var 3) (var 4) (var 5)) t
