-- The exchange of two requests of a draft, as changes of its routes.
use Rattle.std.proofs.Common.{◌≡◌, ◌∙◌, ℕ, List, All, Bool, true, cond, map, Some, None, length, nat_eq, sym, ap, subst}
use Rattle.std.specs.List.{list_all}
use Rattle.std.specs.Map.{lookup}
use Rattle.std.proofs.lemmas.List.{length-map}
use Rattle.plan_types.specs.Instance.{Instance}
use Rattle.plan_types.specs.Laws.{NamedRequestsAreFound, RequestsAreStoredByName}
use Rattle.plan_types.specs.declared.plans.Cost.{Cost}
use Rattle.plan_types.specs.declared.requests.Request.{Request}
use Rattle.route_sched.specs.Route.{AreDistinctStops, IsPlan}
use Rattle.plan_audit.specs.Locality.{PassingIsLocal, PlansAreDisjointRoutes, FeasibleAloneDecidesFeasibility}
use Rattle.plan_audit.specs.Passes.{feasible_alone}
use Rattle.plan_audit.specs.Laws.{KeepsPins}
use Rattle.move_ops.specs.Changes.{AreChanges, IsChange}
use Rattle.move_ops.specs.Drafts.{DraftState, draft_of, IsDraftOf}
use Rattle.move_ops.specs.Moves.{are_exchangeable, counterpart, exchanged}
use Rattle.move_ops.specs.declared.changes.Change.{Change}
use Rattle.move_ops.proofs.ApplyLemmas.{changes_distinct, judge, made}
use Rattle.move_ops.proofs.PlanExchangeLemmas.{others_plan, others_pinned, others_once, exchanged_is}
use Rattle.move_ops.proofs.LeftOutLemmas.{as_many}

module _ (found : NamedRequestsAreFound) (local : PassingIsLocal) (plans : PlansAreDisjointRoutes) (says : FeasibleAloneDecidesFeasibility) (p : Instance)
    (pins : List (List ℕ)) (d : DraftState) (is : IsDraftOf p pins d)
    (a b : ℕ) (apart : a ≡ b → ⊥) (r s : Request) (first : lookup (nat_eq a) p.requests ≡ Some r)
    (second : lookup (nat_eq b) p.requests ≡ Some s) (can : are_exchangeable pins (draft_of d) r s ≡ true)
    (cs : List Change) (are : AreChanges (draft_of d) (map (map (counterpart r s)) (draft_of d)) cs) (given : List Change) (same : given ≡ cs) where
  abbrev others : List (List ℕ)
  others = map (map (counterpart r s)) (draft_of d)

  plan : IsPlan p others
  plan = others_plan found p is.valid a b apart r s first second local plans says pins (draft_of d) is.draft can

  pinned : KeepsPins others pins
  pinned = others_pinned found p is.valid a b apart r s first second local plans says pins (draft_of d) is.draft can

  once : All (AreDistinctStops p) others
  once = others_once found p is.valid a b apart r s first second local plans says pins (draft_of d) is.draft can

  long : length others ≡ length (draft_of d)
  long = length-map (draft_of d) (map (counterpart r s))

  pub changes_once : All (λ x. AreDistinctStops p x.route) given
  changes_once = subst (λ (l : List Change). All (λ x. AreDistinctStops p x.route) l) (sym same) (changes_distinct local says p pins d is others plan once pinned long cs are)

  judged : (t : Bool) → t ≡ list_all (λ x. feasible_alone p x.route) given → t ≡ list_all (λ x. feasible_alone p x.route) cs
  judged t e = e ∙ ap (list_all (λ (x : Change). feasible_alone p x.route)) same

  pub exchange_is : (t : Bool) → t ≡ list_all (λ x. feasible_alone p x.route) given
      → cond t (Some (map (map (counterpart r s)) (draft_of d))) None ≡ exchanged p pins (draft_of d) a b
  exchange_is t e =
      sym (exchanged_is found p is.valid a b apart r s first second local plans says pins (draft_of d) is.draft can t
      (judged t e ∙ judge local says p pins d is others plan once pinned long cs are))

  pub exchange_made : RequestsAreStoredByName → true ≡ list_all (λ x. feasible_alone p x.route) given → IsChange p pins (draft_of d) cs d.cost.unplanned
  exchange_made stored e =
      made local says p pins d is others plan once pinned long cs are d.cost.unplanned
      (ap (λ (k : Cost). k.unplanned) is.cost ∙ as_many found stored p is.valid a b apart r s first second pins (draft_of d) can) (judged true e)
