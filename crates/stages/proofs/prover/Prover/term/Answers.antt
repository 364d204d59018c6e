use Rattle.std.proofs.Common.{List, map, sym, ap, ◌∙◌}
use Rattle.fields.specs.Fields.{elements}
use Rattle.tables.specs.Formulas.{eq}
use Rattle.rounds.specs.Accumulators.{kept}
use Rattle.stages.specs.Models.{memory}
use Rattle.stages.specs.Proving.{Proving}
use Rattle.stages.specs.Terms.{line_of, product_term, written_factor, term}
use Rattle.stages.proofs.prover.Prover.term.Goals as goal

pub returns-in-Write-Twist : goal.returns-in-Write-Twist
returns-in-Write-Twist g c =
    let f = g.F.Field.field in
    let p = c.args.self.now.plan in
    let m = c.args.self.now.memory in
    let job = memory g.A.Committed.table g.M.Committed.table g.V.Committed.table in
    let low = c.args.ends.now.low.now in
    let high = c.args.ends.now.high.now in
    let draws = c.args.draws.now in
    let written : Proving g.row.F.Denot → List (List g.row.F.Denot) = λ v. v.memory.wa in
    let wa = sym (ap written c.self.view_is) ∙ ap (λ tables. (job tables).wa) c.in-Write-Twist.is-1
    ∙ ap (λ (xs : List g.row.A.Denot). map (λ m. (g.A.Committed.table m).entries) xs) (sym c.new-wa.ensures.tables) in
    c.write_term.ensures
    ∙ sym (ap (λ tables. kept f (product_term f p.sizes low high tables (line_of f low high (eq f (elements f) draws)) (line_of f low high (written_factor f p m)))) wa)
    ∙ sym (ap (λ stage. kept f (term f p m low high stage draws c.args.before.now)) c.in-Write-Twist.is-0)
