-- Polynomials kept in seven coefficients: what is done to them is done to the polynomials that they keep.
use Rattle.std.proofs.Common.{◌≡◌, ℕ, zero, suc, List, sym, ap, ◌∙◌, ap₂, arith}
use Rattle.fields.specs.Fields.{FieldOf}
use Rattle.tables.specs.Formulas.{less}
use Rattle.tables.specs.declared.size.Sizes.{Sizes}
use Rattle.rounds.specs.Polynomials.{poly_add, poly_mul, polynomials}
use Rattle.rounds.specs.Accumulators.{most_coefficients, kept}
use Rattle.rounds.proofs.Padding.{padding}
use Rattle.stages.specs.Terms.{line_of, chunk_factor, times_chunks, product_term}

module _ {F : Type 0} (f : FieldOf F) where
  -- p and q keep P and Q
  pub kept-times : (p P l : List F) → p ≡ kept f P → kept f (poly_mul f p l) ≡ kept f (poly_mul f P l)
  kept-times p P l e = ap (λ q. kept f (poly_mul f q l)) e ∙ sym ((padding f most_coefficients).on_times P l)

  pub kept-plus : (p P q Q : List F) → p ≡ kept f P → q ≡ kept f Q → poly_add f p q ≡ kept f (poly_add f P Q)
  kept-plus p P q Q e h = ap₂ (poly_add f) e h ∙ sym ((padding f most_coefficients).on_plus P Q)

  pub kept_less : (p P q Q : List F) → p ≡ kept f P → q ≡ kept f Q → less f (polynomials f) p q ≡ kept f (less f (polynomials f) P Q)
  kept_less p P q Q e h = ap₂ (less f (polynomials f)) e h ∙ sym ((padding f most_coefficients).on_less P Q)

  -- a product, by another term for its second factor
  pub times_is : (r p P l L : List F) → p ≡ kept f P → l ≡ L → r ≡ kept f (poly_mul f p l) → r ≡ kept f (poly_mul f P L)
  times_is r p P l L e same is = is ∙ ap (λ q. kept f (poly_mul f p q)) same ∙ kept-times p P L e

  -- the chunk tables' lines, times what keeps a polynomial
  pub kept-chunks : (s : Sizes) (low high : List F) (tables : List (List F)) (n : ℕ) (p P : List F) → p ≡ kept f P
      → kept f (times_chunks f s low high tables n p) ≡ kept f (times_chunks f s low high tables n P)
  kept-chunks s low high tables zero p P e = ap (kept f) e ∙ (padding f most_coefficients).on_padded most_coefficients P (omega arith)
  kept-chunks s low high tables (suc n) p P e =
      let l = line_of f low high (chunk_factor f s tables n) in
      let q = times_chunks f s low high tables n p in
      let Q = times_chunks f s low high tables n P in
      (padding f most_coefficients).on_times q l ∙ kept-times (kept f q) Q l (kept-chunks s low high tables n p P e)

  -- a product of a polynomial, the chunk tables and another line, by other terms for both
  pub product_is : (s : Sizes) (low high : List F) (tables : List (List F)) (r q p P l L : List F) → p ≡ kept f P
      → q ≡ kept f (times_chunks f s low high tables s.d p) → l ≡ L → r ≡ kept f (poly_mul f q l)
      → r ≡ kept f (product_term f s low high tables P L)
  product_is s low high tables r q p P l L e chunks same is =
      times_is r q (times_chunks f s low high tables s.d P) l L (chunks ∙ kept-chunks s low high tables s.d p P e) same is
