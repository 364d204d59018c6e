-- The text that answers a job's line, byte by byte.
use Rattle.std.specs.Prelude.{◌≡◌, ℕ, List, [], ◌∷◌, ◌++◌, Ok, Err, codes, decimal, Result}
use Rattle.std.specs.List.{flat_map, enumerate_from}
use Rattle.fields.specs.declared.refusal.Refusal.{Refusal}
use Rattle.fields.specs.Refusals.{reported}
use Rattle.stages.specs.declared.plan.Stage.{Stage}
use Rattle.stages.specs.declared.plan.Stage.TheVariants.{Bits, Row, Read, Write, Value}
use Rattle.stages.specs.declared.plan.Plan.{Plan}
use Rattle.stages.specs.Plan.{stages, draws, bounds}
use Rattle.stages.specs.Names.{stage_name, chunk_name}
use Rattle.texts.specs.declared.job.Job.{Job}
use Rattle.texts.specs.Jobs.{tab, line_end, Reads, job_plan}

abbrev pub comma : ℕ
comma = 44

-- the chunk table of a stage, or - if it has none
abbrev pub table_name : Stage → List ℕ
table_name (Bits m) = chunk_name m
table_name (Row m) = chunk_name m
table_name Read = codes "-"
table_name Write = codes "-"
table_name Value = codes "-"

abbrev pub after_comma : ℕ → List ℕ
after_comma b = comma ∷ decimal b

-- numbers parted by commas, or - if there are none
abbrev pub comma_list : List ℕ → List ℕ
comma_list [] = codes "-"
comma_list (b ∷ bs) = decimal b ++ flat_map after_comma bs

module _ (p : Plan) where
  -- the line of a stage: number, name, chunk table, draws and bounds, parted by tabs
  abbrev pub stage_line : ℕ → Stage → List ℕ
  stage_line n g =
      decimal n ++ (tab ∷ (stage_name g ++ (tab ∷ (table_name g ++ (tab ∷ (decimal (draws p g) ++ (tab ∷ (comma_list (bounds p g) ++ (line_end ∷ [])))))))))

  abbrev pub numbered_line : ℕ × Stage → List ℕ
  numbered_line s = stage_line s.0 s.1

  -- the lines of the stages, numbered from 1
  abbrev pub plan_text : List ℕ
  plan_text = flat_map numbered_line (enumerate_from 1 (stages p))

abbrev pub refusal_text : Refusal → List ℕ
refusal_text e = codes "refused" ++ (tab ∷ (decimal (reported e).number ++ (line_end ∷ [])))

-- the text of a plan, or of what is refused
abbrev pub plan_or_refusal : Result Plan Refusal → List ℕ
plan_or_refusal (Ok p) = plan_text p
plan_or_refusal (Err e) = refusal_text e

abbrev pub job_text : Result Job Refusal → List ℕ
job_text (Ok j) = plan_or_refusal (job_plan j)
job_text (Err e) = refusal_text e

-- the text answers what is read of the input
pub record Answers (input text : List ℕ) : Type 0 where
  pub job : Result Job Refusal
  pub reads : Reads input job
  pub says : text ≡ job_text job
