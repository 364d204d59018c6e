use Rattle.std.proofs.Common.{◌≡◌, ℕ, ◌++◌, take, drop, ap, ◌∙◌, ap₂, rules}
use Rattle.fields.specs.Fields.{elements}
use Rattle.tables.specs.Formulas.{lt, extension}
use Rattle.tables.specs.Sizes.{k}
use Rattle.tables.specs.Tables.{entry}
use Rattle.rounds.specs.Accumulators.{kept}
use Rattle.rounds.specs.Polynomials.{line}
use Rattle.stages.specs.Formulas.{inc_value}
use Rattle.stages.specs.Proving.{Proving}
use Rattle.stages.specs.Terms.{line_of}
use Rattle.stages.proofs.Kept.{times_is}
use Rattle.stages.proofs.prover.Prover.value_term.Goals as goal

pub returns : goal.returns
returns g c =
    let f = g.F.Field.field in
    let m = g.M.Committed.table c.args.inc.now in
    let s = c.args.self.now.plan.sizes in
    let b = c.args.before.now in
    let low = c.args.ends.now.low.now in
    let high = c.args.ends.now.high.now in
    let size : Proving g.row.F.Denot → ℕ = λ v. k v.plan.sizes in
    let bits = c.address_bits-k.ensures.value ∙ ap size c.self.view_is in
    let address = c.split_at.ensures.front ∙ ap (λ n. take n b) bits in
    let cycle = c.split_at.ensures.back ∙ ap (λ n. drop n b) bits in
    let opened : line g.F.Field.field c.line.result.low c.line.result.high ≡ line_of g.F.Field.field c.args.ends.now.low.now c.args.ends.now.high.now (λ point. extension g.F.Field.field (elements g.F.Field.field) (g.M.Committed.table c.args.inc.now).variables (entry g.F.Field.field (g.M.Committed.table c.args.inc.now).entries) (c.split_at.result.0.now ++ point)) = search rules in
    let before : line g.F.Field.field c.line-2.result.low c.line-2.result.high ≡ line_of g.F.Field.field c.args.ends.now.low.now c.args.ends.now.high.now (λ point. lt g.F.Field.field (elements g.F.Field.field) point c.split_at.result.1.now) = search rules in
    let added = line_of f low high (λ point. inc_value f s (elements f) m.entries (take (k s) b ++ point)) in
    let weights = line_of f low high (λ point. lt f (elements f) point (drop (k s) b)) in
    times_is f _ _ added _ weights
    (c.alone-added.ensures ∙ ap (kept f) (opened ∙ ap₂ (λ n a. line_of f low high (λ point. extension f (elements f) n (entry f m.entries) (a ++ point))) c.requires.inc address))
    (before ∙ ap (λ j. line_of f low high (λ point. lt f (elements f) point j)) cycle)
    c.times.ensures
