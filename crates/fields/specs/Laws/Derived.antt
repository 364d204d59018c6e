-- Laws that follow from those of a field.
use Rattle.std.specs.Prelude.{◌≡◌, ℕ, suc, ◌+◌, ◌*◌}
use Rattle.std.proofs.Common.{sym, ap, ◌∙◌, add-suc, mul-suc, add-zero as nat_add-zero, mul-zero as nat_mul-zero}
use Rattle.fields.specs.Fields.{FieldOf, less, ones}

module _ {F : Type 0} (f : FieldOf F) where
  open f use {zero, one, add, mul, neg, add_comm, add_assoc, add-zero, add-neg, mul_comm, mul_assoc, mul-one, mul-add}

  pub add_left_comm : (a b c : F) → add a (add b c) ≡ add b (add a c)
  add_left_comm a b c = sym (add_assoc a b c) ∙ ap (λ x. add x c) (add_comm a b) ∙ add_assoc b a c

  -- the middle two of four terms swapped
  pub add_swap : (a b c d : F) → add (add a b) (add c d) ≡ add (add a c) (add b d)
  add_swap a b c d = add_assoc a b (add c d) ∙ ap (add a) (add_left_comm b c d) ∙ sym (add_assoc a c (add b d))

  pub mul_left_comm : (a b c : F) → mul a (mul b c) ≡ mul b (mul a c)
  mul_left_comm a b c = sym (mul_assoc a b c) ∙ ap (λ x. mul x c) (mul_comm a b) ∙ mul_assoc b a c

  pub zero-add : (a : F) → add zero a ≡ a
  zero-add a = add_comm zero a ∙ add-zero a

  pub one-mul : (a : F) → mul one a ≡ a
  one-mul a = mul_comm one a ∙ mul-one a

  pub add-mul : (a b c : F) → mul (add a b) c ≡ add (mul a c) (mul b c)
  add-mul a b c = mul_comm (add a b) c ∙ mul-add c a b ∙ ap (λ x. add x (mul c b)) (mul_comm c a) ∙ ap (add (mul a c)) (mul_comm c b)

  -- the same element added to both
  pub add_cancel : (a b c : F) → add a c ≡ add b c → a ≡ b
  add_cancel a b c h = back a ∙ ap (λ x. less f x c) h ∙ sym (back b)
    where
      back : (x : F) → x ≡ less f (add x c) c
      back x = sym (add_assoc x c (neg c) ∙ ap (add x) (add-neg c) ∙ add-zero x)

  pub mul-zero : (a : F) → mul a zero ≡ zero
  mul-zero a =
      add_cancel (mul a zero) zero (mul a zero)
      (sym (mul-add a zero zero) ∙ ap (mul a) (add-zero zero) ∙ sym (zero-add (mul a zero)))

  pub zero-mul : (a : F) → mul zero a ≡ zero
  zero-mul a = mul_comm zero a ∙ mul-zero a

  -- elements that differ by zero
  pub equal_of_less : (a b : F) → less f a b ≡ zero → a ≡ b
  equal_of_less a b h = add_cancel a b (neg b) (h ∙ sym (add-neg b))

  pub ones-add : (m n : ℕ) → ones f (m + n) ≡ add (ones f m) (ones f n)
  ones-add m ℕ.zero = ap (ones f) (nat_add-zero m) ∙ sym (add-zero (ones f m))
  ones-add m (suc n) = ap (ones f) (add-suc m n) ∙ ap (λ x. add x one) (ones-add m n) ∙ add_assoc (ones f m) (ones f n) one

  pub ones-mul : (m n : ℕ) → ones f (m * n) ≡ mul (ones f m) (ones f n)
  ones-mul m ℕ.zero = ap (ones f) (nat_mul-zero m) ∙ sym (mul-zero (ones f m))
  ones-mul m (suc n) =
      ap (ones f) (mul-suc m n)
      ∙ ones-add (m * n) m
      ∙ ap (λ x. add x (ones f m)) (ones-mul m n)
      ∙ sym (mul-add (ones f m) (ones f n) one ∙ ap (add (mul (ones f m) (ones f n))) (mul-one (ones f m)))
