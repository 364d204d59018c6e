use Rattle.std.proofs.Common.{rules, arith, ◌≡◌}
use Rattle.std.proofs.lemmas.Str.{IsUtf8-from_ascii}
use Rattle.std.proofs.lemmas.Fmt.{IsAscii-decimal}
use Rattle.texts.proofs.Numbers.{Plain, starts_with_plus, plain_decimal, number_parsed}
use Rattle.texts.proofs.job.short_number.Goals as goal
use Rattle.texts.proofs.job.short_number.Goals.{then-starts_with-via-then-starts_with, then-starts_with-via-else-starts_with+then-digits-gt-MOST_DIGITS, else-digits-gt1-via-then-digits-gt1+else-digits-eq48, else-digits-gt1-via-else-digits-gt1}

pub returns-then-digits-eq48 : goal.returns-then-digits-eq48
returns-then-digits-eq48 c n small e =
    let plain : Plain c.args.digits.now = rw e (plain_decimal n small) in
    omega (arith, plain.no_zero c.if-digits-eq48.true)

pub returns-then-starts_with : goal.returns-then-starts_with
returns-then-starts_with c n small e =
    let plain : Plain c.args.digits.now = rw e (plain_decimal n small) in
    elim c.then-starts_with.branch [
      | then-starts_with-via-then-starts_with w ↦ plain.no_plus (search (rules, starts_with_plus c.args.digits.now))
      | then-starts_with-via-else-starts_with+then-digits-gt-MOST_DIGITS w ↦ omega (arith, plain.few)
    ]

pub returns-in_err-ok : goal.returns-in_err-ok
returns-in_err-ok c = rw c.from_residual.ensures (λ n small e. search (rules, IsUtf8-from_ascii _ (IsAscii-decimal n (omega arith)), e))

pub returns : goal.returns
returns c =
    let same : c.in_ok-ok.field-0.now ≡ c.args.digits.now = search rules in
    let plain : Plain c.args.digits.now =
    record {
      few = omega arith;
      no_plus = search (rules, starts_with_plus c.args.digits.now);
      no_zero = λ zero_first.
          elim c.else-digits-gt1.branch [
            | else-digits-gt1-via-then-digits-gt1+else-digits-eq48 w ↦ absurd (w.if-digits-eq48.false zero_first)
            | else-digits-gt1-via-else-digits-gt1 w ↦ omega arith
          ];
    }
    in
    rw c.ok-2.ensures.value (number_parsed c.args.digits.now c.parse.result (rw same at c.parse.ensures.value.0) plain)
