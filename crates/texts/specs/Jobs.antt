-- The line that asks for the plan of a job, byte by byte.
use Rattle.std.specs.Prelude.{◌≡◌, ℕ, ◌<◌, List, [], ◌∷◌, ◌++◌, Some, None, Ok, Err, codes, decimal, Option, Result, ◌≢◌}
use Rattle.std.specs.Borrow.{Bor}
use Rattle.fields.specs.declared.refusal.Refusal.{Refusal}
use Rattle.fields.specs.declared.refusal.Refusal.TheVariants.{MalformedLine}
use Rattle.stages.specs.declared.plan.Kind.{Kind}
use Rattle.stages.specs.declared.plan.Kind.TheVariants.{Shout, Twist}
use Rattle.tables.specs.declared.size.Sizes.{Sizes}
use Rattle.tables.specs.Sizes.{sizes_for}
use Rattle.stages.specs.declared.plan.Plan.{Plan}
use Rattle.texts.specs.declared.job.Job.{Job}

abbrev pub tab : ℕ
tab = 9

abbrev pub line_end : ℕ
line_end = 10

abbrev pub kind_name : Kind → List ℕ
kind_name Shout = codes "shout"
kind_name Twist = codes "twist"

-- the line of a job: kind, d, c and t parted by single tabs, numbers in decimal without leading zeros
abbrev pub job_line : Job → List ℕ
job_line j =
    kind_name j.kind ++ (tab ∷ (decimal j.d ++ (tab ∷ (decimal j.c ++ (tab ∷ (decimal j.t ++ (line_end ∷ [])))))))

-- a number of at most four digits
abbrev pub Short : ℕ → Type 0
Short n = n < 10000

-- an input begins with the line of a job
pub record Begins (input : List ℕ) (j : Job) : Type 0 where
  pub d_short : Short j.d
  pub c_short : Short j.c
  pub t_short : Short j.t
  pub rest : List ℕ
  pub whole : input ≡ job_line j ++ rest

-- the job whose line an input begins with, or none if it begins with that of no job
abbrev pub JobFirst : List ℕ → Option Job → Type 0
JobFirst input (Some j) = Begins input j
JobFirst input None = (j : Job) → Begins input j → ⊥

-- what is read of an input: that job, or a refusal if there is none
abbrev pub Reads : List ℕ → Result Job Refusal → Type 0
Reads input (Ok j) = JobFirst input (Some j)
Reads input (Err e) = (e ≡ MalformedLine) × JobFirst input None

-- the plan of a kind for sizes that are taken, or their refusal
abbrev pub sized_plan : Kind → Result Sizes Refusal → Result Plan Refusal
sized_plan kind (Ok s) = Ok (record { kind = kind; sizes = s })
sized_plan kind (Err e) = Err e

-- the plan that a job asks for
abbrev pub job_plan : Job → Result Plan Refusal
job_plan j = sized_plan j.kind (sizes_for j.d j.c j.t)

-- a kind's name and a tab at the front of bytes, and the bytes after them
abbrev pub KindFirst : List ℕ → Option (Kind × Bor (List ℕ)) → Type 0
KindFirst bytes (Some r) = bytes ≡ kind_name r.0 ++ (tab ∷ r.1.now)
KindFirst bytes None = (kind : Kind) (rest : List ℕ) → bytes ≢ kind_name kind ++ (tab ∷ rest)

-- a short number and the byte `end` at the front of bytes, and the bytes after them
abbrev pub NumberFirst : List ℕ → ℕ → Option (ℕ × Bor (List ℕ)) → Type 0
NumberFirst bytes end (Some r) = Short r.0 × (bytes ≡ decimal r.0 ++ (end ∷ r.1.now))
NumberFirst bytes end None = (n : ℕ) (rest : List ℕ) → Short n → bytes ≢ decimal n ++ (end ∷ rest)

-- the short number that digits write, if they write one
abbrev pub NumberRead : List ℕ → Option ℕ → Type 0
NumberRead digits (Some n) = Short n × (digits ≡ decimal n)
NumberRead digits None = (n : ℕ) → Short n → digits ≢ decimal n
