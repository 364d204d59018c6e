-- What a field is: elements that mean the whole numbers below its order, with their sums, products and negatives.
use Rattle.std.specs.Prelude.{◌≡◌, ℕ, zero, suc, ◌<◌, ◌≤◌, cond, ◌⊎◌, Ok, Err, Result, ◌≢◌, nat_lt}
use Rattle.fields.specs.declared.refusal.Refusal.{Refusal}
use Rattle.fields.specs.declared.refusal.Refusal.TheVariants.{NotBelowOrder}

-- the longest row of a chunk table less one: so many ones, added up, are still not zero
abbrev pub most_ones : ℕ
most_ones = 63

-- n ones added up, from zero, one and the sum
abbrev pub ones_of : {F : Type 0} → F → F → (F → F → F) → ℕ → F
ones_of nought unit add zero = nought
ones_of nought unit add (suc n) = add (ones_of nought unit add n) unit

-- the operations of a field, what its elements mean, and its laws
pub record FieldOf (F : Type 0) : Type 0 where
  -- the order, the whole number that an element means, and the element that means a number below the order
  pub order : ℕ
  pub meaning : F → ℕ
  pub element : ℕ → F
  pub zero : F
  pub one : F
  pub add : F → F → F
  pub mul : F → F → F
  pub neg : F → F
  pub meaning-below : (a : F) → meaning a < order
  pub meaning_injective : (a b : F) → meaning a ≡ meaning b → a ≡ b
  pub meaning-element : (n : ℕ) → n < order → meaning (element n) ≡ n
  pub meaning-zero : meaning zero ≡ 0
  pub meaning-one : meaning one ≡ 1
  pub add_comm : (a b : F) → add a b ≡ add b a
  pub add_assoc : (a b c : F) → add (add a b) c ≡ add a (add b c)
  pub add-zero : (a : F) → add a zero ≡ a
  pub add-neg : (a : F) → add a (neg a) ≡ zero
  pub mul_comm : (a b : F) → mul a b ≡ mul b a
  pub mul_assoc : (a b c : F) → mul (mul a b) c ≡ mul a (mul b c)
  pub mul-one : (a : F) → mul a one ≡ a
  pub mul-add : (a b c : F) → mul a (add b c) ≡ add (mul a b) (mul a c)
  pub no_zero_divisors : (a b : F) → mul a b ≡ zero → (a ≡ zero) ⊎ (b ≡ zero)
  pub ones_nonzero : (n : ℕ) → 0 < n → n ≤ most_ones → ones_of zero one add n ≢ zero

module _ {F : Type 0} (f : FieldOf F) where
  -- n ones added up
  abbrev pub ones : ℕ → F
  ones n = ones_of f.zero f.one f.add n

  -- a less b
  abbrev pub less : F → F → F
  less a b = f.add a (f.neg b)

  -- the answer to a number for an element
  abbrev pub element_for : ℕ → Result F Refusal
  element_for n = cond (nat_lt n f.order) (Ok (f.element n)) (Err NotBelowOrder)

-- what a formula is read over: the elements of a field, or polynomials with coefficients in it
pub record Ops (F R : Type 0) : Type 0 where
  pub const : F → R
  pub plus : R → R → R
  pub times : R → R → R
  pub minus : R → R

-- a formula read over the elements themselves
abbrev pub elements : {F : Type 0} → FieldOf F → Ops F F
elements f = record { const = λ x. x; plus = f.add; times = f.mul; minus = f.neg }
