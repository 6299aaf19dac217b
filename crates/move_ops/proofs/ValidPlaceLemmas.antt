-- A request inserted at a valid place.
use Rattle.std.proofs.Common.{◌≡◌, ℕ, ◌+◌, ◌≤◌, ◌&&◌, true, false, leb, ltb, eqb, cond, Bool, List, length, Some, None, refl, ap, ◌∙◌, arith, nat_eq}
use Rattle.std.specs.List.{concat}
use Rattle.std.specs.Map.{lookup}
use Rattle.std.proofs.lemmas.Bool.{and_from, and_parts, ltb-true, lt-ltb}
use Rattle.plan_types.specs.Instance.{Instance, IsInstance}
use Rattle.plan_types.specs.Laws.{NamedRequestsAreFound, RequestsAreStoredByName, StopsAreBelowNext}
use Rattle.plan_types.specs.Request.{request_name}
use Rattle.plan_types.specs.declared.requests.Request.{Request}
use Rattle.plan_types.specs.declared.requests.Request.TheVariants.{Single, Pair}
use Rattle.route_sched.specs.Cost.{is_planned, unplanned_count}
use Rattle.route_sched.specs.Route.{AreDistinctStops}
use Rattle.plan_audit.specs.Locality.{PassingIsLocal, FeasibleAloneDecidesFeasibility}
use Rattle.plan_audit.specs.Passes.{passes, feasible_alone}
use Rattle.move_ops.specs.Insertion.{Insertion, route_of, with_request_at, inserted, are_places, is_place_of, inserted_at}
use Rattle.move_ops.specs.Changes.{IsInsertable}
use Rattle.move_ops.proofs.OccurrenceLemmas.{times}
use Rattle.move_ops.proofs.InsertionLemmas.{numbers_of, route_once, passes_where_feasible, put_in_is}
use Rattle.move_ops.proofs.Places.{contained, to_list}
use Rattle.move_ops.proofs.ChoiceLemmas.{Fits, insertion_fits}
use Rattle.move_ops.proofs.InsertionCosts.{often_with}
use Rattle.move_ops.proofs.UnplannedCountLemmas.{one_more_planned, planned_where, plan_small}
use Rattle.move_ops.proofs.ReplacementLemmas.{parts}

-- places after a pin are also places without a pin
no_pin : (r : Request) (kept n i j : ℕ) → are_places r kept n i j ≡ true → are_places r 0 n i j ≡ true
no_pin (Single s) kept n i j t =
    let a = and_parts (ltb kept i) (leb i (n + 1) && eqb i j) t in
    let less = ltb-true kept i a.0 in
    and_from (ltb 0 i) (leb i (n + 1) && eqb i j) (lt-ltb 0 i (omega arith)) a.1
no_pin (Pair c d) kept n i j t =
    let a = and_parts (ltb kept i) (ltb i j && leb j (n + 2)) t in
    let less = ltb-true kept i a.0 in
    and_from (ltb 0 i) (ltb i j && leb j (n + 2)) (lt-ltb 0 i (omega arith)) a.1

-- places that are after the pin of a route are also places in the route without a pin
pub open_places : (pins routes : List (List ℕ)) (r : Request) (x : Insertion) → is_place_of pins routes r x ≡ true
    → are_places r 0 (length (route_of routes x.0)) x.1 x.2 ≡ true
open_places pins routes r x place =
    let a = and_parts (leb 1 x.0) (leb x.0 (length routes) && are_places r (length (route_of pins x.0)) (length (route_of routes x.0)) x.1 x.2) place in
    let b = and_parts (leb x.0 (length routes)) (are_places r (length (route_of pins x.0)) (length (route_of routes x.0)) x.1 x.2) a.1 in
    no_pin r (length (route_of pins x.0)) (length (route_of routes x.0)) x.1 x.2 b.1

module _ (law : NamedRequestsAreFound) (stored : RequestsAreStoredByName) (local : PassingIsLocal) (says : FeasibleAloneDecidesFeasibility) (below : StopsAreBelowNext)
    (p : Instance) (pins routes : List (List ℕ)) (valid : IsInstance p) (good : passes p pins routes ≡ true) (r : Request)
    (named : lookup (nat_eq (request_name r)) p.requests ≡ Some r)
    (x : Insertion) (free : is_planned routes r ≡ false) (place : is_place_of pins routes r x ≡ true) where
  -- the stops of the new route are current and distinct, as a check of the route requires
  pub requested_once : AreDistinctStops p (inserted r x.1 x.2 (route_of routes x.0))
  requested_once = route_once law local says p pins routes valid good (request_name r) r named free x place

  module _ (passed : passes p pins (with_request_at routes r x) ≡ true) where
    fit : Fits law stored local says p pins routes valid good (request_name r) r named free x
    fit =
        insertion_fits law stored local says p pins routes valid good (request_name r) r named free x
        (contained _ x (to_list p pins routes r x free place passed))

    often : (n : ℕ) → times n (concat (with_request_at routes r x)) ≡ times n (concat routes) + times n (numbers_of r)
    often = often_with p routes r x fit.from fit.within

    one_less : unplanned_count p routes ≡ unplanned_count p (with_request_at routes r x) + 1
    one_less =
        one_more_planned routes (with_request_at routes r x) r (λ n none. let e = often n in omega arith) free
        (planned_where (with_request_at routes r x) r (λ n. let e = often n in omega arith)) p valid (request_name r) named

    few : x.0 ≤ 40000
    few =
        let h = fit.within in
        let e = (parts local p pins routes good).fleet in
        let f = valid.fleet in
        omega arith

    pub is_put : IsInsertable p pins routes r x
    is_put = record {
      from = fit.from;
      within = fit.within;
      few = few;
      places = open_places pins routes r x place;
      once = requested_once;
      keeps = fit.keeps;
      passes = passed;
      small = plan_small below local p valid pins (with_request_at routes r x) passed;
      unplanned = one_less;
      there = rw (named, free, place, passed) refl;
    }

  -- the request can be inserted exactly when the route is feasible alone
  pub feasible_put : (b : Bool) → b ≡ feasible_alone p (inserted r x.1 x.2 (route_of routes x.0)) → b ≡ true → IsInsertable p pins routes r x
  feasible_put b e t = is_put (passes_where_feasible law local says p pins routes valid good (request_name r) r named free x place b e ∙ t)

  pub not_put : (b : Bool) → b ≡ feasible_alone p (inserted r x.1 x.2 (route_of routes x.0)) → b ≡ false → inserted_at p pins routes (request_name r) x ≡ None
  not_put b e f =
      put_in_is law local says p pins routes valid good (request_name r) r named free x place b e
      ∙ ap (λ t. cond t (Some (with_request_at routes r x)) None) f
