use Rattle.std.proofs.Common.{◌≡◌, List, [], ◌∷◌, sym, ap, ◌∙◌, subst, arith}
use Rattle.fields.specs.Fields.{FieldOf}
use Rattle.rounds.specs.Polynomials.{poly_mul, line, value}
use Rattle.rounds.specs.Accumulators.{most_coefficients, coefficients, kept, Multiplies}
use Rattle.rounds.specs.declared.polynomial.Polynomial.{Polynomial}
use Rattle.rounds.proofs.Padding.{whole_product}
use Rattle.rounds.proofs.polynomial.Polynomial.times_line.Goals as goal

module _ {F : Type 0} (f : FieldOf F) (p : Polynomial F) (low high : F) where
  open f use {add, mul, neg}

  abbrev slope : F
  slope = add high (neg low)

  abbrev product : List F
  product =
      mul p.c0 low
      ∷ add (mul p.c0 slope) (mul p.c1 low)
      ∷ add (mul p.c1 slope) (mul p.c2 low)
      ∷ add (mul p.c2 slope) (mul p.c3 low)
      ∷ add (mul p.c3 slope) (mul p.c4 low)
      ∷ add (mul p.c4 slope) (mul p.c5 low)
      ∷ add (mul p.c5 slope) (mul p.c6 low)
      ∷ []

  product_cut : product ≡ kept f (poly_mul f (coefficients p) (line f low high))
  product_cut = simp f.add-zero

  -- with the top coefficient zero there is no eighth
  nothing_lost : p.c6 ≡ f.zero → Multiplies f (kept f (poly_mul f (coefficients p) (line f low high))) (coefficients p) (line f low high)
  nothing_lost z x =
      let lower = p.c0 ∷ p.c1 ∷ p.c2 ∷ p.c3 ∷ p.c4 ∷ p.c5 ∷ [] in
      let e : coefficients p ≡ kept f lower = ap (λ c. p.c0 ∷ p.c1 ∷ p.c2 ∷ p.c3 ∷ p.c4 ∷ p.c5 ∷ c ∷ []) z in
      subst (λ q. value f (kept f (poly_mul f q (line f low high))) x ≡ f.mul (value f q x) (value f (line f low high) x)) (sym e)
      (whole_product f most_coefficients lower (line f low high) (omega arith) (omega arith) x)

pub returns : goal.returns
returns g c =
    let f = g.F.Field.field in
    let p = c.args.self in
    let is : coefficients _ ≡ product f p c.args.low c.args.high = cc in
    let cut = is ∙ product_cut f p c.args.low c.args.high in
    record { cut = cut; whole = λ z x. ap (λ q. value f q x) cut ∙ nothing_lost f p c.args.low c.args.high z x }
