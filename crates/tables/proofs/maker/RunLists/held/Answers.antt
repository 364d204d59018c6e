use Rattle.std.proofs.Common.{◌≡◌, ◌≢◌, ℕ, ◌<◌, get_or, take, sym, ◌∙◌, get_or-take, arith, rules}
use Rattle.std.proofs.iter.runs.Made.{chains}
use Rattle.std.proofs.lemmas.List.{get_or_read}
use Rattle.tables.specs.Tables.{entry}
use Rattle.tables.proofs.Cells.{cell-unwritten, cell-written}
use Rattle.tables.proofs.maker.RunLists.held.Goals as goal

pub returns-in-Some : goal.returns-in-Some
returns-in-Some g c =
    let f = g.F.Field.field in
    let lists = c.args.self.now in
    let n = c.args.cycle in
    let j = c.in-Some.j in
    let here : get_or (take n lists.writes.now) j 0 ≡ c.args.address = search (rules, chains) in
    let later : (k : ℕ) → j < k → k < n → get_or (take n lists.writes.now) k 0 ≢ c.args.address = λ k above below e. search (rules, chains) in
    let below : j < n = search rules in
    sym c.index-self-j.is
    ∙ get_or_read lists.wv.now j _ (omega arith) c.index-self-j.is f.zero
    ∙ sym (cell-written f (λ i. get_or lists.writes.now i 0) (entry f lists.wv.now) c.args.address n j (omega arith) (sym (get_or-take n lists.writes.now j 0 (omega arith)) ∙ here)
    (λ k above below e. later k above below (get_or-take n lists.writes.now k 0 below ∙ e)))

pub returns-in-None : goal.returns-in-None
returns-in-None g c =
    let f = g.F.Field.field in
    let lists = c.args.self.now in
    let n = c.args.cycle in
    let never : (k : ℕ) → k < n → get_or (take n lists.writes.now) k 0 ≢ c.args.address = λ k below e. search (rules, chains) in
    c.zero_element.ensures
    ∙ sym (cell-unwritten f (λ i. get_or lists.writes.now i 0) (entry f lists.wv.now) c.args.address n (λ k below e. never k below (get_or-take n lists.writes.now k 0 below ∙ e)))
