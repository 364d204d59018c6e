-- The stages of a plan one by one, by their numbers.
use Rattle.std.proofs.Common.{◌≡◌, ℕ, zero, suc, ◌+◌, ◌≤◌, List, [], ◌∷◌, ◌++◌, length, get_or, drop, Some, None, sym, refl, ap, ◌∙◌, ⊎_elim, arith, append_assoc}
use Rattle.std.specs.List.{slice_get}
use Rattle.std.proofs.lemmas.List.{drop_all, drop_more}
use Rattle.std.proofs.lemmas.Option.{slice_get-get_or, slice_get_within, get_or_from_slice_get}
use Rattle.std.proofs.lemmas.Bool.{cases_lt}
use Rattle.stages.specs.declared.plan.Stage.{Stage}
use Rattle.stages.specs.declared.plan.Stage.TheVariants.{Read}
use Rattle.stages.specs.declared.plan.Plan.{Plan}
use Rattle.stages.specs.Plan.{stages, stages_from, stage_at}
use Rattle.stages.proofs.Lists.{nth_append_right}

module _ (p : Plan) where
  pub next_stage : (n : ℕ) (g : Stage) → stage_at p n ≡ Some g → stages_from p n ≡ g ∷ stages_from p (n + 1)
  next_stage zero g is = absurd cc
  next_stage (suc i) g is =
      let on : suc (i + 1) ≡ suc i + 1 = omega arith in
      drop_more (stages p) i g (slice_get_within (stages p) i g is)
      ∙ ap (λ h. h ∷ drop (i + 1) (stages p)) (get_or_from_slice_get (stages p) i g g is)
      ∙ ap (λ m. g ∷ stages_from p m) on

  pub no_stage : (n : ℕ) → stage_at p n ≡ None → stages_from p n ≡ []
  no_stage zero is = refl
  no_stage (suc i) is =
      ⊎_elim (λ h. let never : None ≡ Some (get_or (stages p) i Read) = sym is ∙ slice_get-get_or (stages p) i Read h in absurd cc)
      (λ h. drop_all i (stages p) h) (cases_lt i (length (stages p)))

  pub stage_number : (n : ℕ) (g : Stage) → stage_at p n ≡ Some g → n ≤ length (stages p)
  stage_number zero g is = omega arith
  stage_number (suc i) g is = omega (arith, slice_get_within (stages p) i g is)

  -- the stages seen so far, and those that are left
  module _ (seen left rest : List Stage) (g : Stage) (next : left ≡ g ∷ rest) (so_far : seen ++ left ≡ stages p) where
    pub stage_here : slice_get (stages p) (length seen) ≡ Some g
    stage_here =
        ap (λ xs. slice_get xs (length seen)) (sym so_far)
        ∙ nth_append_right seen left (length seen) 0 (omega arith)
        ∙ ap (λ xs. slice_get xs 0) next

    pub seen_after : (seen ++ (g ∷ [])) ++ rest ≡ stages p
    seen_after = append_assoc seen (g ∷ []) rest ∙ ap (λ xs. seen ++ xs) (sym next) ∙ so_far
