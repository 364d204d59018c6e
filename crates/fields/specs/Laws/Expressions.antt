-- Expressions over a commutative ring, and a normal form that computes: a difference of two sums of monomials.
-- The variables of each monomial are sorted, the monomials too, and like ones are joined.
use Rattle.std.specs.Prelude.{◌≡◌, ℕ, zero, suc, ◌+◌, ◌*◌, Bool, true, false, T, List, [], ◌∷◌, ◌==◌, ◌&&◌, cond, nat_le, refl}
use Rattle.std.proofs.Common.{ap₂, eqb→eq}
use Rattle.fields.specs.Laws.Tests.{both_hold}

infixl 60 ◌⊕◌
infixl 60 ◌⊖◌
infixl 70 ◌⊗◌
infix 40 ◌≐◌
-- variables by number, numerals, sums, differences, products and negatives
pub data Expression : Type 0 where
  var : ℕ → Expression
  con : ℕ → Expression
  ◌⊕◌ : Expression → Expression → Expression
  ◌⊖◌ : Expression → Expression → Expression
  ◌⊗◌ : Expression → Expression → Expression
  ⊝ : Expression → Expression

-- a product of variables, in their order
abbrev pub Monomial : Type 0
Monomial = List ℕ

-- a monomial, so many times
pub record Term : Type 0 where
  pub times : ℕ
  pub monomial : Monomial

-- a sum of terms, in the order of their monomials
abbrev pub Sum : Type 0
Sum = List Term

-- a sum less another
pub record Difference : Type 0 where
  pub up : Sum
  pub down : Sum

abbrev pub with_variable : ℕ → Monomial → Monomial
with_variable i [] = i ∷ []
with_variable i (j ∷ js) = let later = j ∷ with_variable i js in cond (nat_le i j) (i ∷ j ∷ js) later

abbrev pub joined : Monomial → Monomial → Monomial
joined [] n = n
joined (i ∷ m) n = with_variable i (joined m n)

abbrev pub same : Monomial → Monomial → Bool
same [] [] = true
same [] (j ∷ n) = false
same (i ∷ m) [] = false
same (i ∷ m) (j ∷ n) = i == j && same m n

abbrev pub before : Monomial → Monomial → Bool
before [] n = true
before (i ∷ m) [] = false
before (i ∷ m) (j ∷ n) = cond (i == j) (before m n) (nat_le i j)

abbrev pub with_term : Term → Sum → Sum
with_term t [] = t ∷ []
with_term t (u ∷ us) =
    let later = u ∷ with_term t us in
    let sorted = cond (before t.monomial u.monomial) (t ∷ u ∷ us) later in
    cond (same t.monomial u.monomial) (record { times = t.times + u.times; monomial = u.monomial } ∷ us) sorted

abbrev pub sum : Sum → Sum → Sum
sum [] q = q
sum (t ∷ p) q = with_term t (sum p q)

abbrev pub scaled : Term → Sum → Sum
scaled t [] = []
scaled t (u ∷ q) = with_term (record { times = t.times * u.times; monomial = joined t.monomial u.monomial }) (scaled t q)

abbrev pub product : Sum → Sum → Sum
product [] q = []
product (t ∷ p) q = sum (scaled t q) (product p q)

abbrev pub numeral : ℕ → Sum
numeral zero = []
numeral (suc n) = record { times = suc n; monomial = [] } ∷ []

abbrev pub negative_of : Difference → Difference
negative_of a = record { up = a.down; down = a.up }

abbrev pub sum_of : Difference → Difference → Difference
sum_of a b = record { up = sum a.up b.up; down = sum a.down b.down }

abbrev pub product_of : Difference → Difference → Difference
product_of a b = record {
  up = sum (product a.up b.up) (product a.down b.down);
  down = sum (product a.up b.down) (product a.down b.up);
}

abbrev pub normal : Expression → Difference
normal (var i) = record { up = record { times = 1; monomial = i ∷ [] } ∷ []; down = [] }
normal (con n) = record { up = numeral n; down = [] }
normal (a ⊕ b) = sum_of (normal a) (normal b)
normal (a ⊖ b) = sum_of (normal a) (negative_of (normal b))
normal (a ⊗ b) = product_of (normal a) (normal b)
normal (⊝ a) = negative_of (normal a)

-- what a adds with what b takes away: a and b are equal where this is equal either way round
abbrev pub side : Expression → Expression → Sum
side a b = sum (normal a).up (normal b).down

abbrev pub agree : Sum → Sum → Bool
agree [] [] = true
agree [] (u ∷ q) = false
agree (t ∷ p) [] = false
agree (t ∷ p) (u ∷ q) = t.times == u.times && (same t.monomial u.monomial && agree p q)

pub same_equal : (m n : Monomial) → T (same m n) → m ≡ n
same_equal [] [] h = refl
same_equal [] (j ∷ n) h = absurd h
same_equal (i ∷ m) [] h = absurd h
same_equal (i ∷ m) (j ∷ n) h =
    let parts = both_hold (i == j) (same m n) h in
    ap₂ ◌∷◌ (eqb→eq i j parts.0) (same_equal m n parts.1)

pub agree_equal : (p q : Sum) → T (agree p q) → p ≡ q
agree_equal [] [] h = refl
agree_equal [] (u ∷ q) h = absurd h
agree_equal (t ∷ p) [] h = absurd h
agree_equal (t ∷ p) (u ∷ q) h =
    let parts = both_hold (t.times == u.times) (same t.monomial u.monomial && agree p q) h in
    let rest = both_hold (same t.monomial u.monomial) (agree p q) parts.1 in
    let n = eqb→eq t.times u.times parts.0 in
    let m = same_equal t.monomial u.monomial rest.0 in
    ap₂ ◌∷◌ (λ i. record { times = n i; monomial = m i }) (agree_equal p q rest.1)

pub data Equation : Type 0 where
  ◌≐◌ : Expression → Expression → Equation

-- the two sides have one normal form
abbrev pub Computes : Equation → Type 0
Computes (a ≐ b) = T (agree (side a b) (side b a))
