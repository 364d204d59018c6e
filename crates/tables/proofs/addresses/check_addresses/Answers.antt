use Rattle.std.proofs.Common.{◌≡◌, Ok, sym, ◌∙◌, rules}
use Rattle.std.specs.List.{position}
use Rattle.std.proofs.lemmas.Iterator.{YieldsList-from_slice}
use Rattle.std.proofs.lemmas.Iterator.Search.{position_from_yields_List}
use Rattle.tables.proofs.Ranged.{outside, by_position}
use Rattle.tables.proofs.addresses.check_addresses.Given as given
use Rattle.tables.proofs.addresses.check_addresses.Goals as goal
use Rattle.tables.proofs.addresses.check_addresses.Goals.{After-position}

first_outside : (g : given.Over) (c : After-position g) → c.position.result ≡ position (outside (g.T.Addressed.below c.args.cells)) c.args.items.now
first_outside g c =
    let ranged = g.T.Addressed.below c.args.cells in
    position_from_yields_List (outside ranged) _ _ _ c.position.ensures.ran (YieldsList-from_slice c.args.items.now (cc)) (λ x b q k. search rules)

pub returns-in-Some : goal.returns-in-Some
returns-in-Some g c = by_position (g.T.Addressed.below c.args.cells) c.args.items.now _ (Ok tt) (sym c.in-Some.is ∙ first_outside g c.before)

pub returns-in-None : goal.returns-in-None
returns-in-None g c = by_position (g.T.Addressed.below c.args.cells) c.args.items.now _ (Ok tt) (sym c.in-None.is ∙ first_outside g c.before)
