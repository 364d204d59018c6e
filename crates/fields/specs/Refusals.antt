-- What each refusal tells: the number of its cause, and the values that come with it.
use Rattle.std.specs.Prelude.{ℕ, List, [], ◌∷◌}
use Rattle.fields.specs.declared.refusal.Refusal.{Refusal}
use Rattle.fields.specs.declared.refusal.Refusal.TheVariants.{NotBelowOrder, OutsideLimits, TooShort, TablesDoNotFit, MessageLength, NothingDue, OutsideTable, AddressTooLarge, WrongCount, MalformedLine}

pub record Report : Type 0 where
  pub number : ℕ
  pub values : List ℕ

-- a cause that brings no values
abbrev plain : ℕ → Report
plain n = record { number = n; values = [] }

abbrev pub reported : Refusal → Report
reported NotBelowOrder = plain 1
reported OutsideLimits = plain 2
reported TooShort = plain 3
reported TablesDoNotFit = plain 4
reported MessageLength = plain 5
reported NothingDue = plain 6
reported OutsideTable = plain 7
reported (AddressTooLarge first) = record { number = 8; values = first ∷ [] }
reported WrongCount = plain 9
reported MalformedLine = plain 10
