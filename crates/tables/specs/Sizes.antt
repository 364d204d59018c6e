-- Sizes, and what is counted by them.
use Rattle.std.specs.Prelude.{ℕ, ◌*◌, ◌^◌, Bool, true, false, T, Ok, Err, Result}
use Rattle.fields.specs.declared.refusal.Refusal.{Refusal}
use Rattle.fields.specs.declared.refusal.Refusal.TheVariants.{OutsideLimits}
use Rattle.tables.specs.Limits.{within}
use Rattle.tables.specs.declared.size.Sizes.{Sizes}

-- what holds where a test passes is made from that; else the other
abbrev pub if_holds : {A : Type 0} → (b : Bool) → (T b → A) → A → A
if_holds true made other = made tt
if_holds false made other = other

-- the answer to three numbers for sizes
abbrev pub sizes_for : ℕ → ℕ → ℕ → Result Sizes Refusal
sizes_for d c t = if_holds (within d c t) (λ h. Ok (record { d = d; c = c; t = t; ok = h })) (Err OutsideLimits)

-- the bits of an address
abbrev pub k : Sizes → ℕ
k s = s.d * s.c

-- K, the number of cells
abbrev pub cell_count : Sizes → ℕ
cell_count s = 2 ^ k s

-- T, the number of cycles
abbrev pub cycle_count : Sizes → ℕ
cycle_count s = 2 ^ s.t
