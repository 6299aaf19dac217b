-- A draft with a request inserted where it can be.
use Rattle.std.proofs.Common.{◌≡◌, ℕ, ◌+◌, ◌-◌, ◌≤◌, cond, Bool, true, false, List, length, set, Option, Some, None, refl, sym, ap, subst, ◌∙◌, arith, nat_eq}
use Rattle.std.specs.Prelude.{IfSome, MatchOption, []}
use Rattle.std.specs.Map.{lookup}
use Rattle.std.proofs.lemmas.List.{length-map}
use Rattle.plan_types.specs.Instance.{Instance, IsInstance}
use Rattle.plan_types.specs.Laws.{NamedRequestsAreFound, RequestsAreStoredByName, StopsAreBelowNext}
use Rattle.plan_types.specs.Request.{request_name}
use Rattle.plan_types.specs.declared.requests.Request.{Request}
use Rattle.route_sched.specs.Cost.{unplanned_count}
use Rattle.slack_tables.specs.Course.{Course, course_of, course_route}
use Rattle.slack_tables.specs.Insertion.{inserted}
use Rattle.plan_audit.specs.Locality.{PassingIsLocal, FeasibleAloneDecidesFeasibility}
use Rattle.plan_audit.specs.Passes.{passes}
use Rattle.move_ops.specs.Insertion.{Insertion, request_named, route_of, with_request_at, with_route, insertions, insertions_of, best_insertion, inserted_at}
use Rattle.move_ops.specs.Laws.{BestInsertionsAreLeast, IsBest}
use Rattle.move_ops.specs.Tables.{plan_of, AreTablesIn}
use Rattle.move_ops.specs.Drafts.{DraftState, draft_of, IsDraftOf, IsMade, placed}
use Rattle.move_ops.specs.Changes.{IsInsertable}
use Rattle.move_ops.specs.InsertionSearch.{IsBestWithin}
use Rattle.move_ops.specs.declared.tables.Limit.{Limit}
use Rattle.move_ops.proofs.ChoiceLemmas.{name_of}
use Rattle.move_ops.proofs.Places.{within, listed}
use Rattle.move_ops.proofs.ValidPlaceLemmas.{is_put}
use Rattle.move_ops.proofs.DraftLemmas.{plan_with, tables_with}

pub placed_none : (p : Instance) (pins routes : List (List ℕ)) (name : ℕ) → None ≡ best_insertion p pins routes name → routes ≡ placed p pins routes name
placed_none p pins routes name none = rw (sym none) refl

-- the best insertion can be inserted
pub best_put : NamedRequestsAreFound → RequestsAreStoredByName → PassingIsLocal → FeasibleAloneDecidesFeasibility → StopsAreBelowNext → BestInsertionsAreLeast
    → (p : Instance) (pins routes : List (List ℕ)) → IsInstance p → passes p pins routes ≡ true → (r : Request) → request_named p (request_name r) ≡ Some r
    → (o : Option Insertion) → best_insertion p pins routes (request_name r) ≡ o → IfSome o (IsInsertable p pins routes r)
best_put law stored local says below least p pins routes valid good r named None best = tt
best_put law stored local says below least p pins routes valid good r named (Some x) best =
    let is : IsBest p pins routes r x =
    subst (λ (o : Option Insertion). MatchOption o (insertions p pins routes (request_name r) ≡ []) (IsBest p pins routes r)) best
    (least p pins routes (request_name r) r named) in
    let reported = listed p pins routes r x (within (insertions_of p pins routes r) x is.among) in
    is_put law stored local says below p pins routes valid good r named x reported.0 reported.1 reported.2

-- the best insertion within a limit can be inserted, too
pub within_put : NamedRequestsAreFound → RequestsAreStoredByName → PassingIsLocal → FeasibleAloneDecidesFeasibility → StopsAreBelowNext → BestInsertionsAreLeast
    → (p : Instance) (pins routes : List (List ℕ)) → IsInstance p → passes p pins routes ≡ true → (r : Request) → request_named p (request_name r) ≡ Some r
    → (l : Limit) (o : Option Insertion) → IsBestWithin p pins routes r l o → IfSome o (IsInsertable p pins routes r)
within_put law stored local says below least p pins routes valid good r named l None best = tt
within_put law stored local says below least p pins routes valid good r named l (Some x) best =
    best_put law stored local says below least p pins routes valid good r named (Some x) best.0

placed_is : (p : Instance) (pins routes : List (List ℕ)) (r : Request) (x : Insertion)
    → best_insertion p pins routes (request_name r) ≡ Some x → IsInsertable p pins routes r x
    → placed p pins routes (request_name r) ≡ with_request_at routes r x
placed_is p pins routes r x best put = rw (best, put.there) refl

-- a request that is found under a name has this name, so a statement about one holds for the other
module _ (p : Instance) (valid : IsInstance p) (name : ℕ) (r : Request) (found : lookup (nat_eq name) p.requests ≡ Some r) where
  pub named_so : request_name r ≡ name
  named_so = name_of p.requests name r valid.named found

  pub named_request : request_named p (request_name r) ≡ Some r
  named_request = subst (λ (n : ℕ). request_named p n ≡ Some r) (sym named_so) found

  module _ (pins routes : List (List ℕ)) where
    pub put_named : (x : Insertion) (o : Option (List (List ℕ))) → inserted_at p pins routes (request_name r) x ≡ o → inserted_at p pins routes name x ≡ o
    put_named x o is = ap (λ n. inserted_at p pins routes n x) (sym named_so) ∙ is

    pub placed_named : (x : Insertion) → best_insertion p pins routes (request_name r) ≡ Some x → IsInsertable p pins routes r x
        → with_request_at routes r x ≡ placed p pins routes name
    placed_named x best put = sym (placed_is p pins routes r x best put) ∙ ap (placed p pins routes) named_so

    pub stays_named : None ≡ best_insertion p pins routes (request_name r) → routes ≡ placed p pins routes name
    stays_named none = placed_none p pins routes name (none ∙ ap (best_insertion p pins routes) named_so)

-- a draft with the plan of a move is the result of the move
pub was_made : (o : Option (List (List ℕ))) (routes : List (List ℕ)) (old new : DraftState) → o ≡ Some routes → draft_of new ≡ routes → IsMade o true old new
was_made o routes old new some is = rw some (refl, is)

pub was_not_made : (o : Option (List (List ℕ))) (d : DraftState) → o ≡ None → IsMade o false d d
was_not_made o d none = rw none (refl, refl)

-- the plan of a draft if the move was made
pub made_plan : (o : Option (List (List ℕ))) (made : Bool) (old new : DraftState) → IsMade o made old new → cond made (Some (draft_of new)) None ≡ o
made_plan None made old new is = rw is.0 refl
made_plan (Some routes) made old new is = rw is.0 (ap Some is.1)

-- the values that the code has: its tours, the old route, the new route, and a borrow of the new route
module _ (p : Instance) (pins : List (List ℕ)) (d : DraftState) (is : IsDraftOf p pins d) (r : Request) (x : Insertion)
    (put : IsInsertable p pins (draft_of d) r x) (tours : List Course) (has_tours : tours ≡ d.tours)
    (old : List ℕ) (is_old : old ≡ route_of (plan_of tours) x.0) where
  old_is : old ≡ route_of (draft_of d) x.0
  old_is = is_old ∙ ap (λ (l : List Course). route_of (plan_of l) x.0) has_tours

  pub within_tours : x.0 ≤ length tours
  within_tours = let h = put.within in let e = length-map d.tours course_route in let f = ap length has_tours in omega arith

  module _ (route : List ℕ) (is_route : route ≡ inserted r x.1 x.2 old) (given : List ℕ) (is_given : given ≡ route) where
    route_is : route ≡ inserted r x.1 x.2 (route_of (draft_of d) x.0)
    route_is = is_route ∙ ap (inserted r x.1 x.2) old_is

    given_is : inserted r x.1 x.2 (route_of (draft_of d) x.0) ≡ given
    given_is = sym route_is ∙ sym is_given

    plan_given : with_request_at (draft_of d) r x ≡ with_route (plan_of tours) x.0 given
    plan_given = ap (with_route (draft_of d) x.0) given_is ∙ ap (λ (l : List Course). with_route (plan_of l) x.0 given) (sym has_tours)

    pub given_unplanned : d.cost.unplanned ≡ unplanned_count p (with_route (plan_of tours) x.0 given) + 1
    given_unplanned = ap (λ c. c.unplanned) is.cost ∙ (put.unplanned ∙ ap (λ (l : List (List ℕ)). unplanned_count p l + 1) plan_given)

    module _ (of_tour : course_route (course_of p given) ≡ given) (new : List Course) (is_new : new ≡ set tours (x.0 - 1) (course_of p given)) where
      new_is : new ≡ set d.tours (x.0 - 1) (course_of p given)
      new_is = is_new ∙ ap (λ (l : List Course). set l (x.0 - 1) (course_of p given)) has_tours

      pub plan_new : plan_of new ≡ with_request_at (draft_of d) r x
      plan_new = ap plan_of new_is ∙ (plan_with d.tours (x.0 - 1) (course_of p given) ∙ ap (λ l. set (plan_of d.tours) (x.0 - 1) l) (of_tour ∙ sym given_is))

      pub tables_new : AreTablesIn p new
      tables_new = subst (AreTablesIn p) (sym new_is) (tables_with p d.tours (x.0 - 1) (course_of p given) is.tables (ap (course_of p) of_tour))

      pub passes_new : passes p pins (plan_of new) ≡ true
      passes_new = ap (passes p pins) plan_new ∙ put.passes

      pub plan_cost : with_route (plan_of tours) x.0 given ≡ plan_of new
      plan_cost = sym plan_given ∙ sym plan_new
