-- Numbers of digits at the front of bytes, each followed by a byte that is no digit.
use Rattle.std.proofs.Common.{◌≡◌, ℕ, zero, suc, ◌+◌, ◌^◌, ◌<◌, ◌≤◌, ◌≢◌, List, [], ◌∷◌, ◌++◌, length, get_or, take, drop, Some, None, Option, Result, Ok, Err, nat_eq, decimal, sym, refl, ap, ◌∙◌, ap₂, arith, lit<, rules, zero-add}
use Rattle.std.specs.List.{position, position_from, starts_with}
use Rattle.std.specs.Str.Parse.{AllDigits, digits_value, ParsesUnsigned}
use Rattle.std.specs.Result.{result_ok}
use Rattle.std.proofs.lemmas.Fmt.{decimal_is_IsNumeral, decimal-digits_value, length-decimal-le, decimal_nonempty, first_decimal, decimal_digit, parse-decimal}
use Rattle.std.proofs.lemmas.Str.Parse.{IsNumeralModel, numerals_by_value, tells_digits, digit_at, digit_from_value, digits_value_short, parse_plain}
use Rattle.std.proofs.lemmas.Bool.{cond-false}
use Rattle.std.proofs.lemmas.Iterator.Adapters.{position_from-zero}
use Rattle.std.proofs.Math.Seq.{take-append_seam, drop-append_seam}
use Rattle.std.proofs.lemmas.List.{take-append-drop, drop_more}
use Rattle.std.proofs.lemmas.List.Quantifiers.{position-Some}
use Rattle.texts.specs.Jobs.{Short, NumberFirst, NumberRead}

own : IsNumeralModel (AllDigits 10) (digits_value 10)
own = numerals_by_value (AllDigits 10) tells_digits

-- digits as they are written of a short number: few, with no zero in front of others and no plus
pub record Plain (ds : List ℕ) : Type 0 where
  pub few : length ds ≤ 4
  pub no_zero : get_or ds 0 0 ≡ 48 → length ds ≤ 1
  pub no_plus : get_or ds 0 0 ≢ 43

pub plain_decimal : (n : ℕ) → Short n → Plain (decimal n)
plain_decimal n small =
    let big : n < 2 ^ 64 = omega arith in
    record {
      few = length-decimal-le 4 n (lit< tt) small big;
      no_zero = no_zero n big;
      no_plus = λ plus. omega (arith, digit_at (decimal n) 0 (decimal_is_IsNumeral n big).0.1 (decimal_nonempty n big));
    }
  where
    no_zero : (n : ℕ) → n < 2 ^ 64 → get_or (decimal n) 0 0 ≡ 48 → length (decimal n) ≤ 1
    no_zero zero big z = omega (arith, ap length (decimal_digit 0 (lit< tt)))
    no_zero (suc n) big z = absurd (omega (arith, first_decimal (suc n) (omega arith) big))

pub starts_with_plus : (ds : List ℕ) → starts_with nat_eq ds (43 ∷ []) ≡ nat_eq (get_or ds 0 0) 43
starts_with_plus [] = refl
starts_with_plus (d ∷ ds) = search rules

-- what is parsed of plain digits is the number that they write
pub number_parsed : {E : Type 0} (ds : List ℕ) (r : Result ℕ E) → ParsesUnsigned 64 10 ds r → Plain ds → NumberRead ds (result_ok r)
number_parsed {E = E} ds (Ok n) parses p =
    let read = parse_plain own {E = E} 64 ds (Ok n) parses p.no_plus in
    let short : digits_value 10 ds < 10000 = digits_value_short own ds 4 read.0.0 p.few in
    let one : get_or ds 0 0 ≡ 48 → length ds ≡ 1 = λ z. omega (arith, p.no_zero z, read.0.1) in
    (omega (arith, short, read.1), sym (ap decimal read.1 ∙ decimal-digits_value own ds read.0.0 read.0.1 one read.0.2))
number_parsed {E = E} ds (Err e) parses p = λ n small is.
    let failed : ◌≡◌ {A = Result ℕ E} (Err e) (Ok n) = parse-decimal 64 n ds (Err e) (omega arith) (omega arith) is parses in
    cc

-- where `end` first stands in bytes
abbrev pub place : ℕ → List ℕ → Option ℕ
place end bytes = position (λ b. nat_eq b end) bytes

place_from : (i : ℕ) (ds rest : List ℕ) (end : ℕ) → AllDigits 10 ds → end < 48 → position_from (λ b. nat_eq b end) i (ds ++ (end ∷ rest)) ≡ Some (i + length ds)
place_from i [] rest end h k = search rules
place_from i (c ∷ ds) rest end h k =
    cond-false (nat_eq c end) (Some i) (position_from (λ b. nat_eq b end) (i + 1) (ds ++ (end ∷ rest))) (search (rules, digit_from_value c h.0))
    ∙ place_from (i + 1) ds rest end h.1 k
    ∙ ap Some (omega arith)

-- behind a number, a byte that is no digit stands in the first place
placed : (n : ℕ) (bytes rest : List ℕ) (end : ℕ) → Short n → end < 48 → bytes ≡ decimal n ++ (end ∷ rest) → place end bytes ≡ Some (length (decimal n))
placed n bytes rest end small k e =
    ap (place end) e
    ∙ position_from-zero (λ b. nat_eq b end) (decimal n ++ (end ∷ rest))
    ∙ place_from 0 (decimal n) rest end (decimal_is_IsNumeral n (omega arith)).0.1 k
    ∙ ap Some (zero-add (length (decimal n)))

-- no number where the byte behind it is missing
pub no_place : (bytes : List ℕ) (end : ℕ) → end < 48 → place end bytes ≡ None → NumberFirst bytes end None
no_place bytes end k none n rest small e = let some = placed n bytes rest end small k e in cc

-- no number where what stands before that byte is none
pub no_number : (bytes : List ℕ) (end count : ℕ) → end < 48 → place end bytes ≡ Some count → NumberRead (take count bytes) None → NumberFirst bytes end None
no_number bytes end count k at none n rest small e =
    let some = placed n bytes rest end small k e in
    let same : count ≡ length (decimal n) = cc in
    none n small (ap₂ take same e ∙ take-append_seam (decimal n) (end ∷ rest))

-- bytes are what stands before the place, the byte, and what comes after it
pub parted : (bytes ds : List ℕ) (end count : ℕ) → place end bytes ≡ Some count → take count bytes ≡ ds → bytes ≡ ds ++ (end ∷ drop (count + 1) bytes)
parted bytes ds end count at front =
    let here = position-Some (λ b. nat_eq b end) bytes count 0 at in
    let last : get_or bytes count 0 ≡ end = search (rules, here.1) in
    sym (take-append-drop count bytes) ∙ ap₂ ◌++◌ front (drop_more bytes count 0 here.0 ∙ ap (λ b. b ∷ drop (count + 1) bytes) last)

-- what comes after a number and a byte is told by the bytes
pub after_number : (m n : ℕ) (bytes xs ys : List ℕ) (end : ℕ) → end < 48 → Short m → Short n → bytes ≡ decimal m ++ (end ∷ xs) → bytes ≡ decimal n ++ (end ∷ ys) → xs ≡ ys
after_number m n bytes xs ys end k hm hn em en =
    let some_m = placed m bytes xs end hm k em in
    let some_n = placed n bytes ys end hn k en in
    let same : length (decimal m) ≡ length (decimal n) = cc in
    let tails : end ∷ xs ≡ end ∷ ys = sym (drop-append_seam (decimal m) (end ∷ xs)) ∙ ap₂ drop same (sym em ∙ en) ∙ drop-append_seam (decimal n) (end ∷ ys) in
    cc
