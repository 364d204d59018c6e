-- What the tables of a job mean, and whether they fit its sizes.
use Rattle.std.specs.Prelude.{ℕ, ◌+◌, Bool, true, ◌&&◌, List, [], ◌∷◌, map, length, ◌==◌}
use Rattle.tables.specs.Sizes.{k}
use Rattle.tables.specs.Tables.{Table}
use Rattle.tables.specs.declared.size.Sizes.{Sizes}
use Rattle.stages.specs.declared.plan.Kind.{Kind}
use Rattle.stages.specs.declared.plan.Kind.TheVariants as kind
use Rattle.stages.specs.declared.plan.Plan.{Plan}
use Rattle.stages.specs.declared.memory.Tables.{Tables}
use Rattle.stages.specs.declared.memory.Tables.TheVariants.{Shout, Twist}
use Rattle.stages.specs.Memory.{Memory}

abbrev pub kind_of : {A M V : Type 0} → Tables A M V → Kind
kind_of (Shout ra val rv) = kind.Shout
kind_of (Twist ra wa inc rv wv) = kind.Twist

-- the plan of a job by its sizes and tables
abbrev pub plan_of : {A M V : Type 0} → Sizes → Tables A M V → Plan
plan_of s tables = record { kind = kind_of tables; sizes = s }

module _ {F : Type 0} where
  -- each of the tables has n variables
  abbrev pub all_have : ℕ → List (Table F) → Bool
  all_have n [] = true
  all_have n (m ∷ ms) = m.variables == n && all_have n ms

  -- there is a chunk table for each chunk, and each has c + t variables
  abbrev pub chunks_fit : Sizes → List (Table F) → Bool
  chunks_fit s ms = length ms == s.d && all_have (s.c + s.t) ms

module _ {F A M V : Type 0} (ea : A → Table F) (em : M → Table F) (ev : V → Table F) where
  -- the chunk tables fit, INC has k + t variables, RV and WV have t, VAL has k
  abbrev pub tables_fit : Sizes → Tables A M V → Bool
  tables_fit s (Shout ra val rv) = chunks_fit s (map ea ra.now) && (em val.now).variables == k s && (ev rv.now).variables == s.t
  tables_fit s (Twist ra wa inc rv wv) =
      chunks_fit s (map ea ra.now) && chunks_fit s (map ea wa.now) && (em inc.now).variables == k s + s.t
      && (ev rv.now).variables == s.t && (ev wv.now).variables == s.t

  -- the entries of chunk tables
  abbrev pub chunk_entries : List A → List (List F)
  chunk_entries ms = map (λ m. (ea m).entries) ms

  abbrev pub memory : Tables A M V → Memory F
  memory (Shout ra val rv) =
      record { ra = chunk_entries ra.now; wa = []; inc = []; rv = (ev rv.now).entries; wv = []; val = (em val.now).entries }
  memory (Twist ra wa inc rv wv) =
      record {
        ra = chunk_entries ra.now;
        wa = chunk_entries wa.now;
        inc = (em inc.now).entries;
        rv = (ev rv.now).entries;
        wv = (ev wv.now).entries;
        val = [];
      }
