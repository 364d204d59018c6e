use Rattle.std.proofs.Common.{append_assoc, lit<, rules}
use Rattle.texts.specs.Jobs.{tab}
use Rattle.texts.proofs.Lines.{from_t, after_d}
use Rattle.texts.proofs.Numbers.{after_number}
use Rattle.texts.proofs.job.first_job.Goals as goal

pub returns-in_err-c : goal.returns-in_err-c
returns-in_err-c c =
    rw c.from_residual-in_err-c.ensures
    (λ j b. c.in_err-c.ensures j.c (from_t j b.rest) b.c_short (after_d _ j b c.in_ok-kind.kind _ _ _ c.in_ok-kind.ensures c.in_ok-d.ensures))

pub returns-in_err-t : goal.returns-in_err-t
returns-in_err-t c =
    let n = c.in_ok-c.ensures in
    rw c.from_residual-in_err-t.ensures
    (λ j b.
    let after_c = after_number _ j.c _ _ (from_t j b.rest) tab (lit< tt) n.0 b.c_short n.1 (after_d _ j b c.in_ok-kind.kind _ _ _ c.in_ok-kind.ensures c.in_ok-d.ensures) in
    c.in_err-t.ensures j.t b.rest b.t_short after_c)

pub returns : goal.returns
returns c =
    record {
      d_short = search rules;
      c_short = search rules;
      t_short = search rules;
      rest = c.in_ok-t.field-0-1.now;
      whole = simp (c.in_ok-kind.ensures, c.in_ok-d.ensures.1, c.in_ok-c.ensures.1, c.in_ok-t.ensures.1, append_assoc);
    }
