-- Lemmas about the jobs that the hybrid search leaves, and about the progress lines between its iterations
use Rattle.std.proofs.Common.{◌≡◌, ◌∙◌, ℕ, ◌+◌, ◌<◌, ◌≤◌, Bool, true, List, [], ◌++◌, Option, refl, sym, ap, subst, arith, append_assoc, append-nil}
use Rattle.std.specs.Io.KnownBytes.{Appends}
use Rattle.std.proofs.KnownBytes.{Appends-trans}
use Rattle.plan_types.specs.declared.plans.Cost.{Cost}
use Rattle.route_sched.specs.Cost.{cost_of}
use Rattle.command_core.specs.Effects.{adopted}
use Rattle.command_types.specs.Job.{JobValue}
use Rattle.command_types.specs.declared.states.State.{State}
use Rattle.command_types.specs.declared.states.State.TheVariants.{Loaded}
use Rattle.hybrid_search.specs.Bred.{IsBred}
use Rattle.plan_solve.specs.Solved.{AreBredLines, IsBredJob, bred_line, marks, twentieths}
use Rattle.plan_solve.specs.ProgressState.{Adopts, HasBred, IsBredState, ReportsBred, remaining_marks}
use Rattle.plan_solve.specs.declared.progress_lines.EndedJob.{EndedJob}
use Rattle.plan_solve.proofs.SearchLemmas.{marks_passed, marks_reported, same_job}

-- The state after k parts: the planner has a job that the search may leave. Lines that complete those so far make up
-- all progress lines.
pub record IsBreeding (begun : JobValue) (iterations : ℕ) (before now : Option (List ℕ)) (is_written : Bool) (planner : State) (d k : ℕ) : Type 0 where
  pub lines : List ℕ
  pub written : is_written ≡ true → Appends before now lines
  pub whole : (rest : List ℕ) → AreBredLines begun (remaining_marks iterations d k) rest → AreBredLines begun (marks iterations) (lines ++ rest)
  pub bred : IsBredState begun planner
  pub parts : k ≤ 20

-- The job that the planner has is one that the search may leave.
bred_job : (begun : JobValue) (planner : State) (j : JobValue) → IsBredState begun planner → planner ≡ Loaded j → IsBredJob begun j
bred_job begun planner j s holds = subst (IsBredJob begun) (same_job s.0 j (sym s.1 ∙ holds)) s.2

-- So is the job that is taken from the planner in the end.
pub has_bred : (before now : Option (List ℕ)) (begun : JobValue) (at_marks : List ℕ) (planner : State) (ended : EndedJob) → ReportsBred before now begun at_marks planner ended.is_written
    → planner ≡ Loaded ended.job → HasBred before now begun at_marks ended
has_bred before now begun at_marks planner ended r holds =
    record { lines = r.lines; are_lines = r.are_lines; bred = bred_job begun planner ended.job r.bred holds; reported = r.written }

module _ (begun : JobValue) (built : List (List ℕ)) (same : begun.plan ≡ built) where
  adopts_bred : (j : JobValue) (planner : State) → j.problem ≡ begun.problem → ((routes : List (List ℕ)) → adopted j routes ≡ adopted begun routes) → Adopts j built planner → IsBredState begun planner
  adopts_bred j planner problem is a = (
    adopted begun a.routes,
    a.made ∙ ap Loaded (is a.routes),
    record {
      routes = a.routes;
      bred = subst (λ q. IsBred q begun.plan a.routes) problem (subst (λ b. IsBred j.problem b a.routes) (sym same) a.bred);
      adopts = refl;
    },
  )

  -- The first plan that is adopted is one that the search may leave.
  first_state : (planner : State) → Adopts begun built planner → IsBredState begun planner
  first_state planner a = adopts_bred begun planner refl (λ routes. refl) a

  -- So is each later one.
  next_state : (planner new : State) → IsBredState begun planner → ((j : JobValue) → planner ≡ Loaded j → Adopts j built new) → IsBredState begun new
  next_state planner new s makes =
      let is = s.2.adopts in
      adopts_bred s.0 new (ap (λ j. j.problem) is) (λ routes. ap (λ j. adopted j routes) is) (makes s.0 s.1)

  module _ (iterations : ℕ) (before : Option (List ℕ)) where
    pub begins : (now : Option (List ℕ)) (is_written : Bool) (old planner : State) (j : JobValue) (cost : Cost) → cost ≡ cost_of j.problem j.plan → old ≡ Loaded begun → ((i : JobValue) → old ≡ Loaded i → Adopts i built planner) → planner ≡ Loaded j
        → (is_written ≡ true → Appends before now (bred_line cost 0)) → IsBreeding begun iterations before now is_written planner 0 0
    unfolding marks
    begins now is_written old planner j cost costs is makes holds written =
        let s = first_state planner (makes begun is) in
        record {
          lines = bred_line (cost_of j.problem j.plan) 0;
          written = subst (λ k. is_written ≡ true → Appends before now (bred_line k 0)) costs written;
          whole = λ rest are. (j, rest, bred_job begun planner j s holds, refl, are);
          bred = s;
          parts = omega arith;
        }

    pub passes : (now : Option (List ℕ)) (is_written : Bool) (planner : State) (d k : ℕ) → IsBreeding begun iterations before now is_written planner d k
        → k < 20 → twentieths iterations (k + 1) ≤ d → IsBreeding begun iterations before now is_written planner d (k + 1)
    passes now is_written planner d k h less within = record {
      lines = h.lines;
      written = h.written;
      whole = λ rest are. h.whole rest (subst (λ ms. AreBredLines begun ms rest) (sym (marks_passed iterations d k less within)) are);
      bred = h.bred;
      parts = omega (arith, less);
    }

    reports : (now next : Option (List ℕ)) (is_written later : Bool) (planner new : State) (j : JobValue) (d k : ℕ) → IsBreeding begun iterations before now is_written planner d k → k < 20
        → d < twentieths iterations (k + 1) → ((i : JobValue) → planner ≡ Loaded i → Adopts i built new) → new ≡ Loaded j
        → (later ≡ true → (is_written ≡ true) × Appends now next (bred_line (cost_of j.problem j.plan) (twentieths iterations (k + 1))))
        → IsBreeding begun iterations before next later new (twentieths iterations (k + 1)) (k + 1)
    reports now next is_written later planner new j d k h less above_it makes holds written =
        let s = next_state planner new h.bred makes in
        let added = bred_line (cost_of j.problem j.plan) (twentieths iterations (k + 1)) in
        record {
          lines = h.lines ++ added;
          written = λ t. Appends-trans before now next h.lines added (h.written (written t).0) (written t).1;
          whole = λ rest are.
              subst (AreBredLines begun (marks iterations)) (sym (append_assoc h.lines added rest))
              (h.whole (added ++ rest) (subst (λ ms. AreBredLines begun ms (added ++ rest)) (sym (marks_reported iterations d k less above_it)) (j, rest, bred_job begun new j s holds, refl, are)));
          bred = s;
          parts = omega (arith, less);
        }

    pub reports_at : (now next : Option (List ℕ)) (is_written later : Bool) (planner new : State) (j : JobValue) (cost : Cost) (d k mark : ℕ) → cost ≡ cost_of j.problem j.plan → mark ≡ twentieths iterations (k + 1)
        → IsBreeding begun iterations before now is_written planner d k → k < 20 → d < mark → ((i : JobValue) → planner ≡ Loaded i → Adopts i built new) → new ≡ Loaded j
        → (later ≡ true → (is_written ≡ true) × Appends now next (bred_line cost mark)) → IsBreeding begun iterations before next later new mark (k + 1)
    reports_at now next is_written later planner new j cost d k mark costs is h less above_it makes holds written =
        subst (λ m. IsBreeding begun iterations before next later new m (k + 1)) (sym is)
        (reports now next is_written later planner new j d k h less (subst (λ m. d < m) is above_it) makes holds
        (subst (λ m. later ≡ true → (is_written ≡ true) × Appends now next (bred_line (cost_of j.problem j.plan) m)) is
        (subst (λ k. later ≡ true → (is_written ≡ true) × Appends now next (bred_line k mark)) costs written)))

    pub ends : (now : Option (List ℕ)) (is_written : Bool) (planner : State) (d k : ℕ) → IsBreeding begun iterations before now is_written planner d k → 20 ≤ k
        → ReportsBred before now begun (marks iterations) planner is_written
    ends now is_written planner d k h all =
        let last : k ≡ 20 = let most = h.parts in omega (arith, most, all) in
        record {
          lines = h.lines;
          are_lines = subst (AreBredLines begun (marks iterations)) (append-nil h.lines) (h.whole [] (subst (λ n. AreBredLines begun (remaining_marks iterations d n) []) (sym last) refl));
          bred = h.bred;
          written = h.written;
        }
