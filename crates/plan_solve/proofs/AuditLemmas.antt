-- The result of `solve` passes the audit.
use Rattle.std.proofs.Common.{◌≡◌, ◌∙◌, ◌<◌, ◌^◌, ℕ, zero, suc, ◌==◌, ◌&&◌, length, replicate, Bool, true, false, List, [], ◌∷◌, Option, Some, None, refl, sym, ap, subst, inl, inr, arith}
use Rattle.std.specs.List.{concat, list_all}
use Rattle.std.proofs.lemmas.Bool.{and_parts, cases_Bool}
use Rattle.plan_types.specs.Instance.{Instance, IsInstance}
use Rattle.plan_types.specs.declared.requests.Request.{Request}
use Rattle.route_sched.specs.Cost.{cost_of, is_planned, total_length, unplanned_count, used_routes}
use Rattle.sol_text.specs.Faults.{Spells}
use Rattle.plan_audit.specs.Laws.{SolutionsPassIffSound}
use Rattle.plan_audit.specs.Passes as audit
use Rattle.plan_audit.specs.Printing.{WholePlansPassPrinted}
use Rattle.plan_audit.specs.Verdict.{IsVerdict, printed}
use Rattle.plan_audit.specs.declared.rules.Verdict.TheVariants.{Pass}
use Rattle.seeded_search.specs.StepLaws.{StepsKeepPassing}
use Rattle.seeded_search.specs.Steps.{unplanned_names, search_plans}
use Rattle.command_core.specs.Effects.{job_after, loaded, no_stops}
use Rattle.command_types.specs.Job.{IsJob, JobValue}
use Rattle.command_core.specs.RunLaws.{CostsNeverRise, CommandsKeepInvariants, RunsKeepInvariants}
use Rattle.command_core.specs.Runs.{AreAccepted}
use Rattle.command_types.specs.States.{IsState}
use Rattle.command_types.specs.declared.commands.Command.{Command}
use Rattle.command_types.specs.declared.commands.Command.TheVariants.{Build, Load}
use Rattle.command_types.specs.declared.states.State.TheVariants.{Empty, Loaded}
use Rattle.command_text.specs.Showing.{solution_of}
use Rattle.command_text.proofs.RepeatLemmas.{stages_accepted, stages_stay, stays, unchanged}
use Rattle.plan_solve.specs.AuditLaw.{SolutionsPassAudit}
use Rattle.hybrid_search.specs.Bred.{IsBred}
use Rattle.plan_solve.specs.Solved.{Ends, EndsBy, IsBredJob, annealed, begun, commands_from, deviation_of, final_job, is_bred, solved_from}
use Rattle.plan_solve.proofs.AnnealLemmas.{after_all}

-- If no name is left out, no request is.
none_left : (p : Instance) (routes : List (List ℕ)) (es : List (ℕ × Request)) → unplanned_names (record p { requests = es }) routes ≡ [] → unplanned_count (record p { requests = es }) routes ≡ 0
none_left p routes [] none = refl
none_left p routes (e ∷ es) none = elim (cases_Bool (is_planned routes e.1)) [
  | inl t ↦ rw t (none_left p routes es (rw t at none))
  | inr f ↦ absurd (let h = rw f at none in cc)
]

-- ---- A plan that passes without pins passes if no vehicle has a pin

none_pinned : (routes : List (List ℕ)) (n : ℕ) → audit.begin_with_pins routes (replicate n []) ≡ true
none_pinned routes zero = refl
none_pinned [] (suc n) = none_pinned [] n
none_pinned (route ∷ routes) (suc n) = none_pinned routes n

passes_unpinned : (p : Instance) (n : ℕ) (routes : List (List ℕ)) → audit.passes p [] routes ≡ true → audit.passes p (replicate n []) routes ≡ true
unfolding audit.passes
passes_unpinned p n routes pass =
    ap (λ b. audit.are_distinct_stops p (concat routes) && ((length routes == p.fleet) && (list_all (audit.feasible_alone p) routes && b))) (none_pinned routes n) ∙ pass

-- ---- The job keeps the invariants of jobs, and its problem

-- Commands that change no request keep the problem.
pub problem_stays : CostsNeverRise → (cs : List Command) (j : JobValue) → AreAccepted (Loaded j) cs → list_all stays cs ≡ true → (final_job j cs).problem ≡ j.problem
problem_stays rise [] j accepted stay = refl
problem_stays rise (c ∷ cs) j accepted stay =
    let parts = and_parts (stays c) (list_all stays cs) stay in
    problem_stays rise cs (job_after j c) accepted.2 parts.1 ∙ (rise (Loaded j) c accepted.1 (unchanged c parts.0)).problem

-- The job has this problem, and its plan passes.
pub record Keeps (p : Instance) (j : JobValue) : Type 0 where
  pub problem : j.problem ≡ p
  pub plan : audit.passes j.problem j.pins j.plan ≡ true

module _ (keeps : CommandsKeepInvariants) (many : RunsKeepInvariants) (rise : CostsNeverRise) (walks : StepsKeepPassing) (p : Instance) (seed : ℕ) (valid : IsInstance p) (fits : seed < 2 ^ 64) where
  -- The job with the built plan satisfies the invariants of jobs.
  built_job : IsJob (begun p seed)
  built_job = keeps (Loaded (loaded p seed)) Build (keeps Empty (Load p seed) tt (valid, fits) refl) tt refl

  annealed_keeps : (steps : ℕ) → steps < 2 ^ 32 → Keeps p (annealed (begun p seed) steps)
  annealed_keeps steps few =
      let j : JobValue = begun p seed in
      let cs = commands_from j steps in
      let accepted = stages_accepted 0 steps (omega (arith, few)) j in
      let kept : IsJob (annealed j steps) = subst IsState (after_all cs j) (many (Loaded j) cs built_job accepted) in
      record { problem = problem_stays rise cs j accepted (stages_stay 0 steps j); plan = kept.plan }

  from_keeps : (steps : ℕ) (d : Option ℕ) → steps < 2 ^ 32 → Keeps p (solved_from (begun p seed) steps d)
  from_keeps steps (Some d) few =
      let j : JobValue = begun p seed in
      let both = walks p j.pins d j.seed j.steps steps (search_plans j.plan j.plan) (record { incumbent = built_job.plan; working = built_job.plan }) in
      record { problem = refl; plan = both.incumbent }
  from_keeps steps None few = annealed_keeps steps few

  bred_keeps : (j : JobValue) → IsBredJob (begun p seed) j → Keeps p j
  bred_keeps j is = subst (Keeps p) (sym is.adopts) (record { problem = refl; plan = plan is.bred })
    where
      plan : IsBred p (begun p seed).plan is.routes → audit.passes p (no_stops p) is.routes ≡ true
      plan (inl same) = subst (λ routes. audit.passes p (no_stops p) routes ≡ true) (sym same) built_job.plan
      plan (inr better) = passes_unpinned p p.fleet is.routes better.passing

  -- The steps leave a job that keeps the problem, and its plan passes
  pub steps_keep : (steps : ℕ) (deviation : Option ℕ) (j : JobValue) (lines : List ℕ) → steps < 2 ^ 32 → Ends (begun p seed) steps deviation j lines → Keeps p j
  steps_keep steps deviation j lines few e = by (is_bred p deviation) e
    where
      by : (b : Bool) → EndsBy b (begun p seed) steps deviation j lines → Keeps p j
      by true e = bred_keeps j e.0
      by false e = subst (Keeps p) (sym e.0) (from_keeps steps (deviation_of deviation) few)

pub solutions_pass : CommandsKeepInvariants → RunsKeepInvariants → CostsNeverRise → StepsKeepPassing → WholePlansPassPrinted → SolutionsPassIffSound → SolutionsPassAudit
solutions_pass keeps many rise walks whole sound_where format text seed steps deviation before after_it found fits is complete =
    let p = is.problem in
    let answer = is.is_found in
    let j : JobValue = answer.job in
    let kept = steps_keep keeps many rise walks p seed is.kept fits steps deviation j answer.lines is.few answer.ends in
    let plan_passes : audit.passes p j.pins j.plan ≡ true = subst (λ q. audit.passes q j.pins j.plan ≡ true) kept.problem kept.plan in
    let names : unplanned_names p j.plan ≡ [] = subst (λ q. unplanned_names q j.plan ≡ []) kept.problem (sym answer.plan.unplanned ∙ complete) in
    let verdict = whole p j.pins j.plan plan_passes (none_left p j.plan p.requests names) in
    let passes : IsVerdict p (printed (used_routes j.plan) (total_length p j.plan)) (Pass (cost_of p (used_routes j.plan))) = (verdict.0, refl) in
    let good = (sound_where p (used_routes j.plan) (total_length p j.plan) (Pass (cost_of p (used_routes j.plan))) is.kept passes).0 refl in
    let prints : solution_of j ≡ record { routes = used_routes j.plan; cost = total_length p j.plan } = ap
    (λ (q : Instance). record { routes = used_routes j.plan; cost = total_length q j.plan }) kept.problem in
    record {
      problem = p;
      problem_spelled = is.spelled;
      plan = record { routes = used_routes j.plan; cost = total_length p j.plan };
      plan_spelled = subst (λ s. Spells found.text.items s) prints (answer.plan.spells complete);
      passes = passes;
      sound = good.0;
      complete = good.1;
      fleet = good.2;
      distance = good.3;
    }
