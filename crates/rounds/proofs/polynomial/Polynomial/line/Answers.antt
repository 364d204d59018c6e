use Rattle.std.proofs.Common.{◌≡◌, ap, ◌∙◌, lit≤}
use Rattle.rounds.specs.Polynomials.{line, value}
use Rattle.rounds.specs.Accumulators.{most_coefficients, coefficients, kept}
use Rattle.rounds.proofs.Values.{value-padded, line-value}
use Rattle.rounds.proofs.polynomial.Polynomial.line.Goals as goal

pub returns-clause-through : goal.returns-clause-through
returns-clause-through g c =
    let f = g.F.Field.field in
    let low = c.args.low in
    let high = c.args.high in
    let two : coefficients c.from_message.result ≡ kept f (line f low high) = cc in
    λ x. ap (λ p. value f p x) two ∙ value-padded f most_coefficients (line f low high) x (lit≤ tt) ∙ line-value f low high x
