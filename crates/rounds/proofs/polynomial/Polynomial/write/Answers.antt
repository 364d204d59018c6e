use Rattle.std.proofs.Common.{◌≡◌, ℕ, zero, suc, ◌<◌, List, [], ◌∷◌, ◌++◌, length, drop, set, take, refl, ap, add-one, arith}
use Rattle.fields.specs.Fields.{FieldOf}
use Rattle.rounds.specs.Polynomials.{coefficient, padded}
use Rattle.rounds.specs.Accumulators.{coefficients}
use Rattle.rounds.proofs.polynomial.Polynomial.write.Goals as goal

-- one more coefficient written
one_more : {F : Type 0} (f : FieldOf F) (i : ℕ) (p output : List F) → i < length output
    → set (padded f i p ++ drop i output) i (coefficient f p i) ≡ padded f (suc i) p ++ drop (suc i) output
one_more f i p [] h = absurd (omega arith)
one_more f zero [] (x ∷ output) h = refl
one_more f zero (a ∷ p) (x ∷ output) h = refl
one_more f (suc i) [] (x ∷ output) h = ap (λ s. f.zero ∷ s) (one_more f i [] output (omega arith))
one_more f (suc i) (a ∷ p) (x ∷ output) h = ap (λ s. a ∷ s) (one_more f i p output (omega arith))

pub loop-i-preserved : goal.loop-i-preserved
loop-i-preserved g c =
    let next = one_more g.F.Field.field c.loop-i.i (coefficients c.args.self) (take c.args.count c.args.output.now) (omega arith) in
    rw add-one (cc)
