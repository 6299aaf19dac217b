-- Changes of a draft that turn it into another plan.
use Rattle.std.proofs.Common.{◌≡◌, ℕ, ◌≤◌, true, List, [], ◌∷◌, All, length, map, sym, ap, subst, ◌∙◌}
use Rattle.std.specs.List.{AllByRecursion, list_all}
use Rattle.std.proofs.lemmas.Bool.{and_parts}
use Rattle.std.proofs.lemmas.List.{length-map}
use Rattle.std.proofs.lemmas.List.Elements.{All-from_recursion}
use Rattle.plan_types.specs.Instance.{Instance, IsInstance}
use Rattle.route_sched.specs.Cost.{unplanned_count}
use Rattle.route_sched.specs.Route.{AreDistinctStops, IsPlan}
use Rattle.slack_tables.specs.Course.{Course, course_route}
use Rattle.slack_tables.specs.Insertion.{KeepsLimits}
use Rattle.plan_audit.specs.Laws.{KeepsPins}
use Rattle.plan_audit.specs.Locality.{PassingIsLocal, FeasibleAloneDecidesFeasibility}
use Rattle.plan_audit.specs.Passes.{feasible_alone, passes}
use Rattle.move_ops.specs.Changes.{IsChange, AreChanges}
use Rattle.move_ops.specs.Drafts.{DraftState, draft_of, IsDraftOf}
use Rattle.move_ops.specs.declared.changes.Change.{Change}
use Rattle.move_ops.proofs.ReplacementLemmas.{parts}
use Rattle.move_ops.proofs.FitLemmas.{route_limits}
use Rattle.move_ops.proofs.PlanChangeLemmas.{said_feasible, passes_where_feasible}
use Rattle.move_ops.proofs.ChangeListLemmas.{all_changes, all_within, judged}

-- the vehicles of changes are among those with tours
pub vehicles_within : (tours : List Course) (cs : List Change)
    → AllByRecursion (λ c. (1 ≤ c.vehicle) × (c.vehicle ≤ length (map course_route tours))) cs
    → All (λ (c : Change). (1 ≤ c.vehicle) × (c.vehicle ≤ length tours)) cs
vehicles_within tours cs within =
    All-from_recursion (λ (c : Change). (1 ≤ c.vehicle) × (c.vehicle ≤ length tours)) cs
    (subst (λ n. AllByRecursion (λ (c : Change). (1 ≤ c.vehicle) × (c.vehicle ≤ n)) cs) (length-map tours course_route) within)

keeps_all : (p : Instance) → IsInstance p → (cs : List Change) → list_all (λ c. feasible_alone p c.route) cs ≡ true
    → AllByRecursion (λ c. KeepsLimits p c.route) cs
keeps_all p valid [] all = tt
keeps_all p valid (c ∷ cs) all =
    let both = and_parts (feasible_alone p c.route) (list_all (λ (d : Change). feasible_alone p d.route) cs) all in
    (route_limits p valid c.route both.0, keeps_all p valid cs both.1)

module _ (local : PassingIsLocal) (says : FeasibleAloneDecidesFeasibility) (p : Instance) (pins : List (List ℕ)) (d : DraftState)
    (is : IsDraftOf p pins d) (others : List (List ℕ)) (plan : IsPlan p others) (once : All (AreDistinctStops p) others)
    (pinned : KeepsPins others pins) (long : length others ≡ length (draft_of d)) (cs : List Change) (are : AreChanges (draft_of d) others cs) where
  pub changes_distinct : All (λ c. AreDistinctStops p c.route) cs
  changes_distinct = all_changes (draft_of d) others cs are long (AreDistinctStops p) once

  pub judge : list_all (λ c. feasible_alone p c.route) cs ≡ list_all (feasible_alone p) others
  judge =
      judged (feasible_alone p) (draft_of d) others cs are long
      (said_feasible local says p pins (draft_of d) (is.draft) (draft_of d) ((parts local p pins (draft_of d) (is.draft)).feasible))

  pub made : (left : ℕ) → left ≡ unplanned_count p others → true ≡ list_all (λ c. feasible_alone p c.route) cs → IsChange p pins (draft_of d) cs left
  made left count t = record {
    within = all_within (draft_of d) others cs are long;
    once = changes_distinct;
    keeps = All-from_recursion (λ (c : Change). KeepsLimits p c.route) cs (keeps_all p (is.valid) cs (sym t));
    passes = ap (passes p pins) (are.plan) ∙ passes_where_feasible local says p pins (draft_of d) (is.draft) others plan long pinned true (t ∙ judge);
    unplanned = count ∙ ap (unplanned_count p) (sym (are.plan));
  }
