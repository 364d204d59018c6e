-- The line of a job, part by part.
use Rattle.std.proofs.Common.{◌≡◌, ℕ, suc, ◌+◌, ◌-◌, ◌≤◌, min, List, ◌∷◌, ◌++◌, length, take, drop, Some, None, Option, decimal, sym, ap, refl, ◌∙◌, append_assoc, lit<, arith}
use Rattle.std.proofs.lemmas.List.{take-append-drop, length-append}
use Rattle.std.proofs.Math.Seq.{take-append-add}
use Rattle.stages.specs.declared.plan.Kind.{Kind}
use Rattle.stages.specs.declared.plan.Kind.TheVariants.{Shout, Twist}
use Rattle.texts.specs.declared.job.Job.{Job}
use Rattle.texts.specs.Jobs.{tab, line_end, kind_name, job_line, Short, Begins, JobFirst}
use Rattle.texts.proofs.Numbers.{after_number, plain_decimal}

kind_rest : (k m : Kind) (xs ys : List ℕ) → kind_name k ++ (tab ∷ xs) ≡ kind_name m ++ (tab ∷ ys) → xs ≡ ys
kind_rest Shout Shout xs ys q = cc
kind_rest Twist Twist xs ys q = cc
kind_rest Shout Twist xs ys q = cc
kind_rest Twist Shout xs ys q = cc

-- what comes after the kind, after d, and after c
module _ (j : Job) (rest : List ℕ) where
  abbrev pub from_t : List ℕ
  from_t = decimal j.t ++ (line_end ∷ rest)

  abbrev pub from_c : List ℕ
  from_c = decimal j.c ++ (tab ∷ from_t)

  abbrev pub from_d : List ℕ
  from_d = decimal j.d ++ (tab ∷ from_c)

  line_parts : job_line j ++ rest ≡ kind_name j.kind ++ (tab ∷ from_d)
  line_parts = simp append_assoc

module _ (input : List ℕ) (j : Job) (b : Begins input j) where
  after_kind : (k : Kind) (rest : List ℕ) → input ≡ kind_name k ++ (tab ∷ rest) → rest ≡ from_d j b.rest
  after_kind k rest q = kind_rest k j.kind rest (from_d j b.rest) (sym q ∙ b.whole ∙ line_parts j b.rest)

  pub after_d : (k : Kind) (d : ℕ) (bytes rest : List ℕ) → input ≡ kind_name k ++ (tab ∷ bytes) → Short d × (bytes ≡ decimal d ++ (tab ∷ rest)) → rest ≡ from_c j b.rest
  after_d k d bytes rest q r = after_number d j.d bytes rest (from_c j b.rest) tab (lit< tt) r.0 b.d_short r.1 (after_kind k bytes q)

name_length : (k : Kind) → length (kind_name k) ≡ 5
name_length Shout = refl
name_length Twist = refl

-- no line of a job is longer than 21 bytes
line_length : (input : List ℕ) (j : Job) → Begins input j → length (job_line j) ≤ 21
line_length input j b =
    let d = (plain_decimal j.d b.d_short).few in
    let c = (plain_decimal j.c b.c_short).few in
    let t = (plain_decimal j.t b.t_short).few in
    let parts : length (job_line j) ≡ length (kind_name j.kind) + suc (length (decimal j.d) + suc (length (decimal j.c) + suc (length (decimal j.t) + 1))) = simp length-append in
    omega (arith, parts, name_length j.kind, d, c, t)

-- an input begins with the job that its front begins with, and with none if the front does not, where the front has room for each line
pub first_of_front : (input : List ℕ) (most n : ℕ) → 21 ≤ most → n ≡ min (length input) most → (found : Option Job) → JobFirst (take n input) found → JobFirst input found
first_of_front input most n enough front (Some j) b =
    record {
      d_short = b.d_short;
      c_short = b.c_short;
      t_short = b.t_short;
      rest = b.rest ++ drop n input;
      whole = sym (take-append-drop n input) ∙ ap (λ l. l ++ drop n input) b.whole ∙ append_assoc (job_line j) b.rest (drop n input);
    }
first_of_front input most n enough front None none = λ j b.
    let line = job_line j in
    let all : length input ≡ length line + length b.rest = ap length b.whole ∙ length-append line b.rest in
    let room : n ≡ length line + (n - length line) = omega (arith, enough, front, all, line_length input j b) in
    none j (record {
      d_short = b.d_short;
      c_short = b.c_short;
      t_short = b.t_short;
      rest = take (n - length line) b.rest;
      whole = ap (take n) b.whole ∙ ap (λ m. take m (line ++ b.rest)) room ∙ take-append-add line b.rest (n - length line);
    })
