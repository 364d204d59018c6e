use Rattle.std.proofs.Common.{◌≡◌, map, reverse, rules, sym, ap, ap₂, ◌∙◌}
use Rattle.std.specs.List.{fold}
use Rattle.std.specs.Slice.Iter.{iter_rest}
use Rattle.std.proofs.lemmas.List.Folds.{fold-map}
use Rattle.rounds.proofs.Values.{step, value_by_steps, value_by_powers}
use Rattle.rounds.proofs.message.evaluate.Goals as goal

pub returns : goal.returns
returns g c =
    let f = g.F.Field.field in
    let p = c.args.message.now in
    let runs = c.rfold.ensures.runs in
    let folded : c.rfold.result ≡ fold (λ sum a. step f c.args.x sum a.now) c.zero_element.result runs.0.items =
    runs.3 (λ sum a. step f c.args.x sum a.now) (λ sum a r h call. search rules) in
    let items : map (λ a. a.now) runs.0.items ≡ reverse p = (c.iter.ensures.runs_back runs.0 runs.0.seen).4 runs.2 ∙ ap (λ s. reverse (iter_rest s)) runs.1 ∙ ap reverse c.iter.ensures.rest in
    let value_is =
    folded
    ∙ sym (fold-map (step f c.args.x) (λ a. a.now) c.zero_element.result runs.0.items)
    ∙ ap₂ (λ z s. fold (step f c.args.x) z s) c.zero_element.ensures items
    ∙ value_by_steps f p c.args.x in
    record { value = value_is; powers = value_is ∙ value_by_powers f p c.args.x }
