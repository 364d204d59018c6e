use Rattle.std.proofs.Common.{◌≡◌, ℕ, ◌+◌, ◌*◌, ◌^◌, eqb, ◌++◌, length, sym, ap, ◌∙◌, mod-lt, arith, pow_pos}
use Rattle.fields.specs.Fields.{elements}
use Rattle.tables.specs.Formulas.{eq}
use Rattle.tables.specs.Sums.{sum_below, corner}
use Rattle.tables.specs.Bounds.{bounds}
use Rattle.tables.specs.Kinds.{chunk_of, one_hot_entry}
use Rattle.tables.proofs.Made.{passed}
use Rattle.tables.proofs.Entries.{opens}
use Rattle.tables.proofs.Hot.{ext-one-hot}
use Rattle.tables.proofs.one_hot.OneHotCommitted.open.Goals as goal

pub returns : goal.returns
returns g c =
    let f = g.F.Field.field in
    let m = c.args.self.now in
    let s = m.sizes in
    let p = c.args.head.now ++ c.args.tail.now in
    let row : ℕ → ℕ = chunk_of s m.chunk m.addresses.now in
    let all : c.loop-j.j ≡ 2 ^ s.t = omega (arith, m.counted) in
    opens f (s.c + s.t) (bounds s.d s.c s.t s.ok).chunk_variables (one_hot_entry f s m.chunk m.addresses.now) p _
    (passed _ c.in_ok-check_fits.ensures ∙ ap (eqb (length p)) c.chunk_variables.ensures.value)
    (c.loop-j.invariant
    ∙ ap (λ (n : ℕ). sum_below f n (λ j. eq f (elements f) (corner f (s.c + s.t) (row j * 2 ^ s.t + j)) p)) all
    ∙ sym (ext-one-hot f s.c s.t row p (λ j. mod-lt _ (pow_pos s.c))))
