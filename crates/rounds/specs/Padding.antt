-- Polynomials filled up with zeros to n coefficients, or cut to so many.
use Rattle.std.specs.Prelude.{◌≡◌, ℕ, ◌≤◌, List, length}
use Rattle.fields.specs.Fields.{FieldOf}
use Rattle.tables.specs.Formulas.{less}
use Rattle.rounds.specs.Polynomials.{poly_add, poly_mul, polynomials, value, padded}

pub record Padding {F : Type 0} (f : FieldOf F) (n : ℕ) : Type 0 where
  -- nothing is lost of a polynomial that has no more than n coefficients
  pub value_kept : (p : List F) → length p ≤ n → (x : F) → value f (padded f n p) x ≡ value f p x
  -- the first n coefficients of a sum, a difference and a product depend on those of the parts alone
  pub on_plus : (p q : List F) → padded f n (poly_add f p q) ≡ poly_add f (padded f n p) (padded f n q)
  pub on_less : (p q : List F) → padded f n (less f (polynomials f) p q) ≡ less f (polynomials f) (padded f n p) (padded f n q)
  pub on_times : (p q : List F) → padded f n (poly_mul f p q) ≡ padded f n (poly_mul f (padded f n p) q)
  -- filled up to more coefficients first
  pub on_padded : (m : ℕ) (p : List F) → n ≤ m → padded f n (padded f m p) ≡ padded f n p

abbrev pub PaddingKeeps : Type 0 → Type 0
PaddingKeeps F = (f : FieldOf F) (n : ℕ) → Padding f n
