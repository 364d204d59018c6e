-- Tests that compute.
use Rattle.std.specs.Prelude.{Bool, true, false, T, ◌&&◌}

-- where a conjunction holds, both of its tests do
pub both_hold : (a b : Bool) → T (a && b) → T a × T b
both_hold true b h = (tt, h)
both_hold false b h = absurd h
