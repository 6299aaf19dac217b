-- Several searches lead to the same state as one search with the same number of steps, and so do annealings
use Rattle.std.proofs.Common.{◌≡◌, ℕ, ◌+◌, Bool, true, false, List, [], ◌∷◌, refl, sym, ap, ◌∙◌, arith}
use Rattle.std.specs.Prelude.{sum_by}
use Rattle.std.specs.List.{list_all}
use Rattle.std.proofs.lemmas.Bool.{and_parts}
use Rattle.std.proofs.lemmas.List.Sums.{sum_by-cons}
use Rattle.seeded_search.specs.Steps.{SearchPlans, steps}
use Rattle.seeded_search.specs.StepLaws.{StepsAddUp}
use Rattle.anneal_search.specs.AnnealLaws.{AnnealStepsAddUp}
use Rattle.anneal_search.specs.Annealing.{anneal_steps}
use Rattle.command_types.specs.Job.{JobValue}
use Rattle.command_core.specs.Effects.{searched, annealed, job_after}
use Rattle.command_types.specs.Commands.{is_annealing, is_searching, steps_of}
use Rattle.command_core.specs.Runs.{after}
use Rattle.command_core.specs.RunLaws.{SearchesAddUp, RunsAreOneSearch, AnnealingsAddUp, RunsAreOneAnnealing}
use Rattle.command_types.specs.declared.states.State.TheVariants.{Loaded}
use Rattle.command_types.specs.declared.commands.Command.{Command}
use Rattle.command_types.specs.declared.commands.Command.TheVariants.{Search, Checkpoint, Anneal}

-- The job with other plans and another number of steps
abbrev with_search_plans : JobValue → SearchPlans → ℕ → JobValue
with_search_plans j s n = record j { plan = s.incumbent; work = s.working; steps = n }

abbrev walked : JobValue → SearchPlans
walked j = record { incumbent = j.plan; working = j.work }

pub searches_add_up : StepsAddUp → SearchesAddUp
searches_add_up add_up j a b =
    let e : j.steps + a + b ≡ j.steps + (a + b) = omega arith in
    let s = steps j.problem j.pins j.deviation j.seed j.steps a (walked j) in
    ap (λ n. with_search_plans j (steps j.problem j.pins j.deviation j.seed (j.steps + a) b s) n) e
    ∙ sym (ap (λ s. with_search_plans j s (j.steps + (a + b))) (add_up j.problem j.pins j.deviation j.seed j.steps a b (walked j)))

pub no_search : (j : JobValue) → searched j 0 ≡ j
unfolding steps
no_search j = let e : j.steps + 0 ≡ j.steps = omega arith in ap (λ n. with_search_plans j (walked j) n) e

pub annealings_add_up : AnnealStepsAddUp → AnnealingsAddUp
annealings_add_up add_up j a b =
    let e : j.steps + a + b ≡ j.steps + (a + b) = omega arith in
    let s = anneal_steps j.problem j.pins j.deviation j.seed j.steps a (walked j) in
    ap (λ n. with_search_plans j (anneal_steps j.problem j.pins j.deviation j.seed (j.steps + a) b s) n) e
    ∙ sym (ap (λ s. with_search_plans j s (j.steps + (a + b))) (add_up j.problem j.pins j.deviation j.seed j.steps a b (walked j)))

no_annealing : (j : JobValue) → annealed j 0 ≡ j
unfolding anneal_steps
no_annealing j = let e : j.steps + 0 ≡ j.steps = omega arith in ap (λ n. with_search_plans j (walked j) n) e

-- ---- many commands

clash : {X : Type 0} → false ≡ true → X
clash h = absurd (let g = h in cc)

-- If `is_one` accepts the command, its effect on a job is what `made` makes of the job with the command's steps
abbrev Makes : Command → (Command → Bool) → (JobValue → ℕ → JobValue) → Type 0
Makes c is_one made = is_one c ≡ true → (j : JobValue) → job_after j c ≡ made j (steps_of c)

makes : (c : Command) → Makes c is_searching searched × Makes c is_annealing annealed
makes (Search count) = (λ yes j. refl, λ no. clash no)
makes Checkpoint = (λ yes j. sym (no_search j), λ yes j. sym (no_annealing j))
makes (Anneal count) = (λ no. clash no, λ yes j. refl)
makes c = (λ no. clash no, λ no. clash no)

module _ (is_one : Command → Bool) (made : JobValue → ℕ → JobValue) (one : (c : Command) → Makes c is_one made) (none : (j : JobValue) → made j 0 ≡ j)
    (add_up : (j : JobValue) (a b : ℕ) → made (made j a) b ≡ made j (a + b)) where
  runs_are_one : (j : JobValue) (cs : List Command) → list_all is_one cs ≡ true → after (Loaded j) cs ≡ Loaded (made j (sum_by steps_of cs))
  runs_are_one j [] all = ap Loaded (sym (none j))
  runs_are_one j (c ∷ cs) all =
      let both = and_parts (is_one c) (list_all is_one cs) all in
      ap (λ i. after (Loaded i) cs) (one c both.0 j) ∙ runs_are_one (made j (steps_of c)) cs both.1 ∙ ap Loaded (add_up j (steps_of c) (sum_by steps_of cs))
      ∙ ap (λ n. Loaded (made j n)) (sym (sum_by-cons steps_of c cs))

pub runs_are_one_search : StepsAddUp → RunsAreOneSearch
runs_are_one_search add_up = runs_are_one is_searching searched (λ c. (makes c).0) no_search (searches_add_up add_up)

pub runs_are_one_annealing : AnnealStepsAddUp → RunsAreOneAnnealing
runs_are_one_annealing add_up = runs_are_one is_annealing annealed (λ c. (makes c).1) no_annealing (annealings_add_up add_up)
