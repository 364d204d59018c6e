-- The roots of a polynomial.
use Rattle.std.specs.Prelude.{◌≡◌, ℕ, suc, ◌≤◌, List, [], ◌∷◌, length, ◌≢◌}
use Rattle.fields.specs.Fields.{FieldOf, most_ones}
use Rattle.rounds.specs.Polynomials.{Degree, Nonzero, value, padded}

-- x is none of the elements
abbrev pub Apart : {F : Type 0} → F → List F → Type 0
Apart x [] = Unit {0}
Apart x (y ∷ ys) = (y ≢ x) × Apart x ys

-- no two of the elements are the same
abbrev pub Different : {F : Type 0} → List F → Type 0
Different [] = Unit {0}
Different (x ∷ xs) = Apart x xs × Different xs

-- each of the elements is a root of p
abbrev pub AllRoots : {F : Type 0} → FieldOf F → List F → List F → Type 0
AllRoots f p [] = Unit {0}
AllRoots f p (x ∷ xs) = (value f p x ≡ f.zero) × AllRoots f p xs

-- a polynomial of degree n that is not zero has at most n different roots
abbrev pub RootsAreFew : Type 0 → Type 0
RootsAreFew F = (f : FieldOf F) (n : ℕ) (p xs : List F) → Degree n p → Nonzero f p → Different xs → AllRoots f p xs → length xs ≤ n

-- polynomials of one degree, no higher than the ones that can be added up, are the same if they have the same value at every element
abbrev pub ValuesDetermine : Type 0 → Type 0
ValuesDetermine F = (f : FieldOf F) (n : ℕ) (p q : List F) → n ≤ most_ones → Degree n p → Degree n q → ((x : F) → value f p x ≡ value f q x)
    → padded f (suc n) p ≡ padded f (suc n) q
