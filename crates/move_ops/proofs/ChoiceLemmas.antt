-- The best insertion over the first vehicles, and over one more.
use Rattle.std.proofs.Common.{◌≡◌, ℕ, zero, suc, ◌+◌, ◌-◌, ◌<◌, ◌≤◌, ℤ, pos, ◌+ℤ◌, ◌-ℤ◌, ◌<ℤ◌, ◌≤ℤ◌, eqb, ltb, leb, cond, ◌&&◌, Bool, true}
use Rattle.std.proofs.Common.{false, List, [], ◌∷◌, length, length-append, take, drop, get_or, slice_get, Option}
use Rattle.std.proofs.Common.{Some, None, refl, sym, ap, subst, ◌∙◌, inl, inr, arith, nat_eq}
use Rattle.std.specs.List.{AllByRecursion, Contains, insert}
use Rattle.std.specs.Map.{lookup}
use Rattle.std.specs.Prelude.{◌⊎◌, ◌≢◌, nat_lt, ◌==◌, MatchOption, unwrap_or}
use Rattle.plan_types.specs.declared.requests.Kind.{Kind}
use Rattle.plan_types.specs.declared.requests.Kind.TheVariants.{LiLim, Vrp}
use Rattle.std.specs.Option.{option_map, option_map_or, option_or}
use Rattle.std.proofs.lemmas.Bool.{cases_lt, and_from, and_parts, eq-eqb, eqb-true, ltb-true, lt-ltb, leb-true, le-leb}
use Rattle.std.proofs.lemmas.Bool.Decides.{eqb_tells, leb_tells}
use Rattle.std.proofs.lemmas.Int.{ints, by_lt_z}
use Rattle.std.proofs.lemmas.List.{length-map, nil_from_length, take-append-drop}
use Rattle.std.proofs.lemmas.Option.{slice_get-get_or}
use Rattle.plan_types.specs.Instance.{Instance, IsInstance}
use Rattle.plan_types.specs.Laws.{NamedRequestsAreFound, RequestsAreStoredByName}
use Rattle.plan_types.specs.Request.{request_name}
use Rattle.plan_types.specs.declared.requests.Request.{Request}
use Rattle.plan_types.specs.declared.requests.Request.TheVariants.{Single, Pair}
use Rattle.route_sched.specs.Cost.{is_planned}
use Rattle.route_sched.specs.Schedule.{route_length}
use Rattle.plan_audit.specs.Alone.{IsFeasibleAlone}
use Rattle.plan_audit.specs.Locality.{PassingIsLocal, FeasibleAloneDecidesFeasibility}
use Rattle.plan_audit.specs.Passes.{feasible_alone, passes}
use Rattle.plan_audit.specs.Rules.{item_at}
use Rattle.slack_tables.specs.Best.{Adds, ComesFirst, IsBestAddition}
use Rattle.slack_tables.specs.Course.{Course, course_route, IsCourseIn}
use Rattle.slack_tables.specs.FitsNowhere.{FitsNowhere}
use Rattle.slack_tables.specs.Insertion.{request_named, KeepsLimits, ArePlaces, inserted}
use Rattle.slack_tables.specs.declared.scan.PricedInsertion.{PricedInsertion}
use Rattle.move_ops.specs.Insertion.{Insertion, is_no_later, route_of, are_places, is_place_of}
use Rattle.move_ops.specs.Insertion.{insertions_of, insertions, best_insertion, cost_with, is_no_worse}
use Rattle.move_ops.specs.Laws.{IsBest}
use Rattle.move_ops.specs.InsertionSearch.{opens, added_distance, IsWithin, IsAllowed, IsBestWithin, bound_against, bound_over, bound_of, candidate_place}
use Rattle.move_ops.specs.InsertionSearch.{found_at, InsertionLaws, IsQuery, IsBestAmong, IsBestAmongThese, IsLooseBound, HasIdle, IsBetterBelow, IsBetter}
use Rattle.move_ops.specs.Tables.{plan_of}
use Rattle.move_ops.specs.declared.tables.Candidate.{Candidate}
use Rattle.move_ops.specs.declared.tables.Limit.{Limit}
use Rattle.move_ops.proofs.OccurrenceLemmas.{none_some, some_same, times}
use Rattle.move_ops.proofs.InsertionLemmas.{numbers_of, nowhere, passes_where_feasible}
use Rattle.move_ops.proofs.BestLemmas.{said_later, both_transitive}
use Rattle.move_ops.proofs.ReplacementLemmas.{parts, all_at, times_in_vehicle, within_list, in_vehicle}
use Rattle.move_ops.proofs.Places.{contained, within, listed, to_list}
use Rattle.move_ops.proofs.FitLemmas.{fits, some_new, route_limits}
use Rattle.move_ops.proofs.InsertionCosts.{IsPriced, Ahead, no_worse}
use Rattle.move_ops.proofs.LengthBounds.{route_small}

-- a request is found under its name
pub name_of : (es : List (ℕ × Request)) (name : ℕ) (r : Request) → AllByRecursion (λ e. e.0 ≡ request_name e.1) es
    → lookup (nat_eq name) es ≡ Some r → request_name r ≡ name
name_of [] name r named at = absurd (none_some r at)
name_of (e ∷ es) name r named at = elim (eqb_tells name e.0) [
  | inl t ↦ (let same = some_same e.1 r (rw t.0 at at) in ap request_name (sym same) ∙ (sym named.0 ∙ sym t.1))
  | inr t ↦ name_of es name r named.1 (rw t.0 at at)
]

-- ---- places
pub to_places : (q : Request) (kept n i j : ℕ) → are_places q kept n i j ≡ true → ArePlaces q n i j × (kept < i)
to_places (Single s) kept n i j t =
    let a = and_parts (ltb kept i) (leb i (n + 1) && eqb i j) t in
    let b = and_parts (leb i (n + 1)) (eqb i j) a.1 in
    let above = ltb-true kept i a.0 in
    let high = leb-true i (n + 1) b.0 in
    let same = eqb-true i j b.1 in
    ((omega arith, high, sym same), above)
to_places (Pair c d) kept n i j t =
    let a = and_parts (ltb kept i) (ltb i j && leb j (n + 2)) t in
    let b = and_parts (ltb i j) (leb j (n + 2)) a.1 in
    let above = ltb-true kept i a.0 in
    ((omega arith, ltb-true i j b.0, leb-true j (n + 2) b.1), above)

pub from_places : (q : Request) (kept n i j : ℕ) → ArePlaces q n i j → kept < i → are_places q kept n i j ≡ true
from_places (Single s) kept n i j places above =
    and_from (ltb kept i) (leb i (n + 1) && eqb i j) (lt-ltb kept i above)
    (and_from (leb i (n + 1)) (eqb i j) (le-leb i (n + 1) places.1) (eq-eqb i j (sym places.2)))
from_places (Pair c d) kept n i j places above =
    and_from (ltb kept i) (ltb i j && leb j (n + 2)) (lt-ltb kept i above)
    (and_from (ltb i j) (leb j (n + 2)) (lt-ltb i j places.1) (le-leb j (n + 2) places.2))

from_one : (q : Request) (n i j : ℕ) → ArePlaces q n i j → (1 ≤ i) × (i ≤ j) × (j ≤ n + 2)
from_one (Single s) n i j places = let low = places.0 in let high = places.1 in let same = places.2 in (low, omega arith, omega arith)
from_one (Pair c d) n i j places = let low = places.0 in let order = places.1 in let high = places.2 in (low, omega arith, high)

-- ---- insertions by vehicle
module _ (law : NamedRequestsAreFound) (stored : RequestsAreStoredByName) (local : PassingIsLocal) (says : FeasibleAloneDecidesFeasibility) (p : Instance)
    (pins routes : List (List ℕ)) (valid : IsInstance p)
    (good : passes p pins routes ≡ true) (name : ℕ) (r : Request) (named : lookup (nat_eq name) p.requests ≡ Some r) (free : is_planned routes r ≡ false) where
  -- the request fits into the vehicle's route at places after its pin
  pub record Fits (x : Insertion) : Type 0 where
    pub from : 1 ≤ x.0
    pub within : x.0 ≤ length routes
    pub places : ArePlaces r (length (route_of routes x.0)) x.1 x.2
    pub following : length (route_of pins x.0) < x.1
    pub keeps : KeepsLimits p (inserted r x.1 x.2 (route_of routes x.0))

  away : (v : ℕ) → 1 ≤ v → v ≤ length routes → (n : ℕ) → 1 ≤ times n (numbers_of r) → times n (route_of routes v) ≡ 0
  away v from high n some = let e = nowhere routes r free n some in let f = times_in_vehicle n routes v from high in omega arith

  feasible_at : (v : ℕ) → 1 ≤ v → v ≤ length routes → feasible_alone p (route_of routes v) ≡ true
  feasible_at v from high = (says p (route_of routes v)).1 (all_at (IsFeasibleAlone p) routes v from high ((parts local p pins routes good).feasible))

  some_at : (x : Insertion) → 1 ≤ x.0 → x.0 ≤ length routes → ArePlaces r (length (route_of routes x.0)) x.1 x.2
      → length (inserted r x.1 x.2 (route_of routes x.0)) ≡ 0 → ⊥
  some_at x from high places = some_new law stored p valid name r named (route_of routes x.0) (away x.0 from high) x.1 x.2 places (feasible_at x.0 from high)

  pub insertion_fits : (x : Insertion) → Contains (insertions_of p pins routes r) x → Fits x
  insertion_fits x c =
      let t = listed p pins routes r x (within (insertions_of p pins routes r) x c) in
      let a = and_parts (leb 1 x.0) (leb x.0 (length routes) && are_places r (length (route_of pins x.0)) (length (route_of routes x.0)) x.1 x.2) t.1 in
      let b = and_parts (leb x.0 (length routes)) (are_places r (length (route_of pins x.0)) (length (route_of routes x.0)) x.1 x.2) a.1 in
      let low = leb-true 1 x.0 a.0 in
      let high = leb-true x.0 (length routes) b.0 in
      let at = to_places r (length (route_of pins x.0)) (length (route_of routes x.0)) x.1 x.2 b.1 in
      let feasible : feasible_alone p (inserted r x.1 x.2 (route_of routes x.0)) ≡ true =
      sym (passes_where_feasible law local says p pins routes valid good name r named free x t.1
      (feasible_alone p (inserted r x.1 x.2 (route_of routes x.0))) refl)
      ∙ t.2 in
      record {
        from = low;
        within = high;
        places = at.0;
        following = at.1;
        keeps = route_limits p valid (inserted r x.1 x.2 (route_of routes x.0)) feasible;
      }

  pub fits_insertion : (x : Insertion) → Fits x → Contains (insertions_of p pins routes r) x
  fits_insertion x f =
      let place : is_place_of pins routes r x ≡ true =
      and_from (leb 1 x.0)
      (leb x.0 (length routes) && are_places r (length (route_of pins x.0)) (length (route_of routes x.0)) x.1 x.2)
      (le-leb 1 x.0 (f.from))
      (and_from (leb x.0 (length routes)) (are_places r (length (route_of pins x.0)) (length (route_of routes x.0)) x.1 x.2)
      (le-leb x.0 (length routes) (f.within))
      (from_places r (length (route_of pins x.0)) (length (route_of routes x.0)) x.1 x.2 (f.places) (f.following))) in
      let feasible : feasible_alone p (inserted r x.1 x.2 (route_of routes x.0)) ≡ true =
      fits law stored p valid name r named (route_of routes x.0) (away x.0 (f.from) (f.within)) x.1 x.2 (f.places)
      (feasible_at x.0 (f.from) (f.within)) (f.keeps) in
      contained (insertions_of p pins routes r) x
      (to_list p pins routes r x free place (passes_where_feasible law local says p pins routes valid good name r named free x place true (sym feasible)))

  gain_is : (a b : ℕ) → pos a ≡ pos b +ℤ (pos a -ℤ pos b)
  gain_is a b = omega (arith, ints)

  pub priced : (x : Insertion) → Fits x → IsPriced p routes r x (opens p.kind (route_of routes x.0)) (added_distance p routes r x)
  priced x f = record {
    from = f.from;
    within = f.within;
    some = some_at x (f.from) (f.within) (f.places);
    opens = refl;
    added = gain_is (route_length p (inserted r x.1 x.2 (route_of routes x.0))) (route_length p (route_of routes x.0));
  }

  -- in a route with few enough stops, the added distance is far below the greatest number
  pub gain_small : (x : Insertion) → length (inserted r x.1 x.2 (route_of routes x.0)) ≤ 40003 → added_distance p routes r x <ℤ pos 9223372036854775807
  gain_small x few =
      let h = route_small p valid (inserted r x.1 x.2 (route_of routes x.0)) in
      by (route_length p (inserted r x.1 x.2 (route_of routes x.0))) (route_length p (route_of routes x.0)) (omega arith)
    where
      by : (a b : ℕ) → a ≤ 320032000000040004 → (pos a -ℤ pos b) <ℤ pos 9223372036854775807
      by a b le = omega (arith, ints)

-- ---- lengths
pub insert_long : (xs : List ℕ) (k m : ℕ) → length (insert xs k m) ≡ length xs + 1
insert_long xs k m =
    let e = length-append (take k xs) (m ∷ drop k xs) in
    let f = length-append (take k xs) (drop k xs) in
    let g = ap length (take-append-drop k xs) in
    let h : length (m ∷ drop k xs) ≡ length (drop k xs) + 1 = omega arith in
    omega arith

few_more : (q : Request) (i j : ℕ) (route : List ℕ) → length (inserted q i j route) ≤ length route + 2
few_more (Single s) i j route = let e = insert_long route (i - 1) s.number in omega arith
few_more (Pair a b) i j route =
    let e = insert_long route (i - 1) a.number in let f = insert_long (insert route (i - 1) a.number) (j - 1) b.number in omega arith

module _ (local : PassingIsLocal) (p : Instance) (pins routes : List (List ℕ)) (good : passes p pins routes ≡ true) where
  -- a pin is no longer than its route
  pub pin_within : (v : ℕ) → length (route_of pins v) ≤ length (route_of routes v)
  pin_within v = by (item_at pins v) refl
    where
      along : (pin : List ℕ) → item_at pins v ≡ Some pin → (k : ℕ) → length pin ≡ suc k → suc k ≤ length (route_of routes v)
      along pin at k long =
          let here : slice_get pin k ≡ Some (get_or pin k 0) = slice_get-get_or pin k 0 (omega arith) in
          within_list (route_of routes v) (suc k) (get_or pin k 0)
          (in_vehicle routes v (suc k) (get_or pin k 0)
          ((parts local p pins routes good).pinned v (suc k) (get_or pin k 0) (pin, at, here)))

      of_pin : (pin : List ℕ) → item_at pins v ≡ Some pin → (n : ℕ) → length pin ≡ n → length pin ≤ length (route_of routes v)
      of_pin pin at zero long = omega arith
      of_pin pin at (suc k) long = let h = along pin at k long in omega arith

      by : (o : Option (List ℕ)) → item_at pins v ≡ o → length (unwrap_or o []) ≤ length (route_of routes v)
      by None at = omega arith
      by (Some pin) at = of_pin pin at (length pin) refl

-- inserting a request into a route with stops opens no vehicle
pub used_opens : (kind : Kind) (route : List ℕ) → (length route == 0) ≡ false → opens kind route ≡ false
used_opens LiLim route some = some
used_opens Vrp route some = refl

-- a route in which a request opens a vehicle has no stops
pub opened_empty : (kind : Kind) (route : List ℕ) → opens kind route ≡ true → length route ≡ 0
opened_empty LiLim route is = eqb-true (length route) 0 is
opened_empty Vrp route is = absurd (let h : false ≡ true = is in cc)

-- if nothing adds less than a greater bound, the best so far stays
pub still : (p : Instance) (route : List ℕ) (r : Request) (kept v : ℕ) (l : Limit) (best : Option Candidate) (below : ℤ)
    → IsLooseBound v l best below → ((a : PricedInsertion) → Adds p route r kept below a → ⊥)
    → IsBetterBelow p route r kept v false best best (bound_of v false l best)
still p route r kept v l best below loose empty = by (bound_of v false l best) refl
  where
    by : (o : Option ℤ) → bound_of v false l best ≡ o → IsBetterBelow p route r kept v false best best o
    by None is = refl
    by (Some b) is = (
      None,
      (λ a adds. empty a
          (record {
            places = adds.places;
            following = adds.following;
            added = adds.added;
            cheaper = (let le = loose v (omega arith) b is in let less = adds.cheaper in omega (arith, ints));
          })),
      refl,
    )

-- the best so far stays at a vehicle with stops if its table shows that the request fits nowhere
pub passed_over : (p : Instance) (r : Request) (c : Course) (kept v : ℕ) (l : Limit) (best : Option Candidate) (below : ℤ) → IsInstance p
    → IsCourseIn p c → request_named p (request_name r) ≡ Some r → (length c.stops ≡ 0 → ⊥)
    → FitsNowhere c r below → IsLooseBound v l best below → IsBetter p (course_route c) r kept v l best best
passed_over p r c kept v l best below valid course named stops out loose =
    let long = length-map c.stops (λ s. s.number) in
    let some : eqb (length (course_route c)) 0 ≡ false = elim (eqb_tells (length (course_route c)) 0) [
      | inl t ↦ absurd (stops (let none = t.1 in omega arith))
      | inr t ↦ t.0
    ] in
    subst (λ o. IsBetterBelow p (course_route c) r kept v o best best (bound_of v o l best)) (sym (used_opens p.kind (course_route c) some))
    (still p (course_route c) r kept v l best below loose (out p (request_name r) kept valid course named))

-- the best so far stays at a vehicle into whose route the request fits nowhere, whatever the bound is
pub passed_by : (p : Instance) (r : Request) (c : Course) (kept v : ℕ) (l : Limit) (best : Option Candidate) → IsInstance p → IsCourseIn p c
    → request_named p (request_name r) ≡ Some r → ((below : ℤ) → FitsNowhere c r below)
    → IsBetter p (course_route c) r kept v l best best
passed_by p r c kept v l best valid course named out = by (bound_of v (opens p.kind (course_route c)) l best)
  where
    by : (o : Option ℤ) → IsBetterBelow p (course_route c) r kept v (opens p.kind (course_route c)) best best o
    by None = refl
    by (Some below) = (None, out below p (request_name r) kept valid course named, refl)

-- the best among some vehicles stays the best if the vehicles are described in another way
pub these_same : (p : Instance) (pins routes : List (List ℕ)) (r : Request) (l : Limit) (These Others : ℕ → Type 0)
    → ((u : ℕ) → These u → Others u) → ((u : ℕ) → Others u → These u)
    → (best : Option Candidate) → IsBestAmongThese p pins routes r l These best → IsBestAmongThese p pins routes r l Others best
these_same p pins routes r l These Others there back None none = λ y c others allowed. none y c (back y.0 others) allowed
these_same p pins routes r l These Others there back (Some g) was =
    record {
      among = was.among;
      seen = there g.vehicle was.seen;
      allowed = was.allowed;
      opens = was.opens;
      added = was.added;
      least = λ y c others allowed. was.least y c (back y.0 others) allowed;
    }

-- ---- one vehicle more
module _ (laws : InsertionLaws) {p : Instance} {pins : List (List ℕ)} {courses : List Course} {r : Request} (query : IsQuery p pins courses r) where
  abbrev routes : List (List ℕ)
  routes = plan_of courses

  abbrev IsFit : Insertion → Type 0
  IsFit x = Fits laws.found laws.stored laws.local laws.says p pins routes query.valid query.good (request_name r) r query.named query.free x

  abbrev adds : Insertion → ℤ
  adds x = added_distance p routes r x

  abbrev IsLet : Limit → Insertion → Type 0
  IsLet l x = IsAllowed p routes r l x

  fit : (x : Insertion) → Contains (insertions_of p pins routes r) x → IsFit x
  fit x c = insertion_fits laws.found laws.stored laws.local laws.says p pins routes query.valid query.good (request_name r) r query.named query.free x c

  listed_fit : (x : Insertion) → IsFit x → Contains (insertions_of p pins routes r) x
  listed_fit x f = fits_insertion laws.found laws.stored laws.local laws.says p pins routes query.valid query.good (request_name r) r query.named query.free x f

  price : (x : Insertion) → IsFit x → IsPriced p routes r x (opens p.kind (route_of routes x.0)) (adds x)
  price x f = priced laws.found laws.stored laws.local laws.says p pins routes query.valid query.good (request_name r) r query.named query.free x f

  pub priced_at : (x : Insertion) → Contains (insertions_of p pins routes r) x
      → IsPriced p routes r x (opens p.kind (route_of routes x.0)) (added_distance p routes r x)
  priced_at x c = price x (fit x c)

  no_worse_than : (x y : Insertion) (a b : Bool) (d e : ℤ) → IsPriced p routes r x a d → IsPriced p routes r y b e
      → Ahead p routes r x a d y b e → is_no_worse p routes r x y ≡ true
  no_worse_than x y a b d e one two ahead = no_worse p routes r laws.below_is_correct laws.at_most_is_correct x y a b d e one two ahead

  follow : (x y z : Insertion) → is_no_worse p routes r x y ≡ true → is_no_worse p routes r y z ≡ true → is_no_worse p routes r x z ≡ true
  follow x y z h k =
      both_transitive laws.total laws.transitive laws.below_then_at_most laws.at_most_then_below laws.below_is_at_most
      (cost_with p routes r x) (cost_with p routes r y) (cost_with p routes r z) x y z h k

  price_found : (l : Limit) (These : ℕ → Type 0) (f : Candidate) → IsBestAmong p pins routes r l These f
      → IsPriced p routes r (candidate_place f) f.opens f.addition.distance
  price_found l These f best =
      let at = fit (candidate_place f) (best.among) in
      let plain = price (candidate_place f) at in
      record { from = at.from; within = at.within; some = plain.some; opens = best.opens; added = (best.added).1 }

  -- of two additions to one route, the one that comes first is ahead
  first_ahead : (v : ℕ) (o : Bool) (a b : PricedInsertion) → ComesFirst a b
      → Ahead p routes r (v, a.pickup, a.delivery) o a.distance (v, b.pickup, b.delivery) o b.distance
  first_ahead v o a b first = by_lt_z {P = Ahead p routes r (v, a.pickup, a.delivery) o a.distance (v, b.pickup, b.delivery) o b.distance} a.distance b.distance
      (λ less. inr (refl, inl less))
      (λ more. (
      let same : a.distance ≡ b.distance = omega (arith, ints) in
      let pickup = first.pickup same in
      inr (
        refl,
        inr (
          same,
          said_later (v, a.pickup, a.delivery) (v, b.pickup, b.delivery) (inr (
            refl,
            elim (cases_lt a.pickup b.pickup) [
              | inl before ↦ inl before
              | inr not_before ↦ (let one : a.pickup ≡ b.pickup = omega arith in inr (one, first.delivery same one))
            ],
          )),
        ),
      )))

  -- some vehicles, and one more that may be among them
  module _ (l : Limit) (These More : ℕ → Type 0) (v : ℕ) (low : 1 ≤ v) (high : v ≤ length routes) (grow : (u : ℕ) → These u → More u)
      (split : (u : ℕ) → More u → (u ≡ v) ⊎ These u) (last : More v) where
    abbrev old_route : List ℕ
    old_route = route_of routes v

    abbrev pinned : ℕ
    pinned = length (route_of pins v)

    -- an insertion at this vehicle, as an addition to its route
    here : (y : Insertion) (below : ℤ) → IsFit y → y.0 ≡ v → adds y <ℤ below
        → Adds p old_route r pinned below (record { distance = adds y; pickup = y.1; delivery = y.2 })
    here y below f same less =
        subst (λ u. Adds p (route_of routes u) r (length (route_of pins u)) below (record { distance = adds y; pickup = y.1; delivery = y.2 })) same
        (record { places = f.places; following = f.following; added = (f.keeps, (price y f).added); cheaper = less })

    fit_of : (a : PricedInsertion) (below : ℤ) → Adds p old_route r pinned below a → IsFit (v, a.pickup, a.delivery)
    fit_of a below is = record { from = low; within = high; places = is.places; following = is.following; keeps = (is.added).0 }

    price_of : (a : PricedInsertion) (below : ℤ) (o : Bool) → opens p.kind old_route ≡ o → Adds p old_route r pinned below a
        → IsPriced p routes r (v, a.pickup, a.delivery) o a.distance
    price_of a below o is_open is =
        let at = fit_of a below is in
        let plain = price (v, a.pickup, a.delivery) at in
        record { from = at.from; within = at.within; some = plain.some; opens = is_open; added = (is.added).1 }

    price_at : (y : Insertion) (o : Bool) → opens p.kind old_route ≡ o → IsFit y → y.0 ≡ v → IsPriced p routes r y o (adds y)
    price_at y o is_open f same =
        let plain = price y f in
        record { from = f.from; within = f.within; some = plain.some; opens = ap (λ u. opens p.kind (route_of routes u)) same ∙ is_open; added = plain.added }

    -- the insertion found stays the best if it is no worse than those at this vehicle
    keeps : (g : Candidate) → IsBestAmong p pins routes r l These g
        → ((y : Insertion) → Contains (insertions_of p pins routes r) y → y.0 ≡ v → IsLet l y
        → is_no_worse p routes r (candidate_place g) y ≡ true)
        → IsBestAmong p pins routes r l More g
    keeps g was no_better = record {
      among = was.among;
      seen = grow g.vehicle was.seen;
      allowed = was.allowed;
      opens = was.opens;
      added = was.added;
      least = λ y c these let_in. elim (split y.0 these) [ inl same ↦ no_better y c same let_in | inr before ↦ was.least y c before let_in ];
    }

    -- a vehicle with a bound below which an addition is better than the best so far
    module _ (few : length old_route ≤ 40001) (o : Bool) (is_open : opens p.kind old_route ≡ o) (best : Option Candidate)
        (old : IsBestAmongThese p pins routes r l These best) (below : ℤ)
        (allows : (d : ℤ) → d <ℤ below → IsWithin l o d)
        (beats : (f : Candidate) → best ≡ Some f → (d : ℤ) → d <ℤ below → (x : Insertion) → x.0 ≡ v
        → Ahead p routes r x o d (candidate_place f) f.opens f.addition.distance)
        (keeps_up : (f : Candidate) → best ≡ Some f → (y : Insertion) → y.0 ≡ v → v ≢ f.vehicle → adds y <ℤ pos 9223372036854775807
        → below ≤ℤ adds y → Ahead p routes r (candidate_place f) f.opens f.addition.distance y o (adds y))
        (all_below : best ≡ None → (y : Insertion) → IsWithin l o (adds y) → adds y <ℤ pos 9223372036854775807 → adds y <ℤ below) where
      small : (y : Insertion) → IsFit y → y.0 ≡ v → adds y <ℤ pos 9223372036854775807
      small y f same =
          let e = few_more r y.1 y.2 (route_of routes y.0) in
          let g = ap (λ u. length (route_of routes u)) same in
          gain_small laws.found laws.stored laws.local laws.says p pins routes query.valid query.good (request_name r) r query.named query.free y (omega arith)

      -- an allowed insertion at this vehicle is within the limit
      as_here : (y : Insertion) → y.0 ≡ v → IsLet l y → IsWithin l o (adds y)
      as_here y same let_in = subst (λ b. IsWithin l b (adds y)) (ap (λ u. opens p.kind (route_of routes u)) same ∙ is_open) let_in

      -- the case in which no addition at this vehicle is below the bound
      stays : (b : Option Candidate) → best ≡ b → IsBestAmongThese p pins routes r l These b
          → ((a : PricedInsertion) → Adds p old_route r pinned below a → ⊥) → IsBestAmongThese p pins routes r l More b
      stays None is none empty = λ y c these let_in. elim (split y.0 these) [
        | inl same ↦
            (let f = fit y c in
            empty (record { distance = adds y; pickup = y.1; delivery = y.2 })
            (here y below f same (all_below is y (as_here y same let_in) (small y f same))))
        | inr before ↦ none y c before let_in
      ]
      stays (Some g) is was empty = keeps g was (λ y c same let_in. elim (eqb_tells v g.vehicle) [
        | inl t ↦ was.least y c (subst These (sym (same ∙ t.1)) was.seen) let_in
        | inr t ↦ (
            let f = fit y c in
            by_lt_z {P = is_no_worse p routes r (candidate_place g) y ≡ true} (adds y) below
            (λ cheap. absurd (empty (record { distance = adds y; pickup = y.1; delivery = y.2 }) (here y below f same cheap)))
            (λ dear. no_worse_than (candidate_place g) y g.opens o g.addition.distance (adds y) (price_found l These g was)
            (price_at y o is_open f same) (keeps_up g is y same t.1 (small y f same) dear)))
      ])

      -- the case in which the first addition at this vehicle is below the bound
      changes : (b : Option Candidate) → best ≡ b → IsBestAmongThese p pins routes r l These b → (a : PricedInsertion) → Adds p old_route r pinned below a
          → ((e : PricedInsertion) → Adds p old_route r pinned below e → ComesFirst a e) → IsBestAmongThese p pins routes r l More (Some (found_at v o a))
      changes b is was a adds_a first = record {
        among = listed_fit (v, a.pickup, a.delivery) (fit_of a below adds_a);
        seen = last;
        allowed = allows a.distance adds_a.cheaper;
        opens = is_open;
        added = adds_a.added;
        least = λ y c these let_in. elim (split y.0 these) [
          | inl same ↦ (
              let f = fit y c in
              no_worse_than (v, a.pickup, a.delivery) y o o a.distance (adds y) (price_of a below o is_open adds_a) (price_at y o is_open f same)
              (by_lt_z {P = Ahead p routes r (v, a.pickup, a.delivery) o a.distance y o (adds y)} (adds y) below
              (λ cheap. subst (λ u. Ahead p routes r (v, a.pickup, a.delivery) o a.distance (u, y.1, y.2) o (adds y)) (sym same)
              (first_ahead v o a (record { distance = adds y; pickup = y.1; delivery = y.2 })
              (first (record { distance = adds y; pickup = y.1; delivery = y.2 }) (here y below f same cheap))))
              (λ dear. (let less = adds_a.cheaper in inr (refl, inl (omega (arith, ints)))))))
          | inr these_before ↦ before b is was y c these_before let_in
        ];
      }
        where
          before : (b : Option Candidate) → best ≡ b → IsBestAmongThese p pins routes r l These b → (y : Insertion)
              → Contains (insertions_of p pins routes r) y → These y.0 → IsLet l y
              → is_no_worse p routes r (v, a.pickup, a.delivery) y ≡ true
          before None is none y c these let_in = absurd (none y c these let_in)
          before (Some g) is was y c these let_in =
              follow (v, a.pickup, a.delivery) (candidate_place g) y
              (no_worse_than (v, a.pickup, a.delivery) (candidate_place g) o g.opens a.distance g.addition.distance
              (price_of a below o is_open adds_a) (price_found l These g was)
              (beats g is a.distance (adds_a.cheaper) (v, a.pickup, a.delivery) refl))
              (was.least y c these let_in)

      pub chosen : (answer : Option PricedInsertion) → IsBestAddition p old_route r pinned below answer
          → IsBestAmongThese p pins routes r l More (option_or (option_map (found_at v o) answer) best)
      chosen None empty = stays best refl old empty
      chosen (Some a) first = changes best refl old a first.0 first.1

    module _ (few : length old_route ≤ 40001) where
      -- the best among the vehicles so far and this one
      pub bettered : (best result : Option Candidate) → IsBestAmongThese p pins routes r l These best
          → IsBetter p old_route r pinned v l best result → IsBestAmongThese p pins routes r l More result
      bettered None result old better = by l.opens (opens p.kind old_route) refl refl better
        where
          -- the case in which no insertion was found so far, so only the limit counts
          from_limit : (c o : Bool) → l.opens ≡ c → opens p.kind old_route ≡ o → o ≡ c
              → (answer : Option PricedInsertion) × IsBestAddition p old_route r pinned l.below answer
              × (result ≡ option_or (option_map (found_at v o) answer) None)
              → IsBestAmongThese p pins routes r l More result
          from_limit c o is_c is_o same better =
              subst (IsBestAmongThese p pins routes r l More) (sym better.2)
              (chosen few o is_o None old l.below (λ d less. inr (same ∙ sym is_c, less)) (λ f is. absurd (none_some f is)) (λ f is. absurd (none_some f is))
              (λ is y let_in small. elim let_in [
                | inl none ↦ absurd (let h : true ≡ false = sym none.1 ∙ (is_c ∙ (sym same ∙ none.0)) in cc)
                | inr less ↦ less.1
              ]) better.0 better.1)

          by : (c o : Bool) → l.opens ≡ c → opens p.kind old_route ≡ o
              → IsBetterBelow p old_route r pinned v o None result (bound_over c l.below o) → IsBestAmongThese p pins routes r l More result
          by true true is_c is_o better = from_limit true true is_c is_o refl better
          by false false is_c is_o better = from_limit false false is_c is_o refl better
          by true false is_c is_o better =
              subst (IsBestAmongThese p pins routes r l More) (sym better.2)
              (chosen few false is_o None old (pos 9223372036854775807) (λ d less. inl (refl, is_c)) (λ f is. absurd (none_some f is))
              (λ f is. absurd (none_some f is)) (λ is y let_in small. small) better.0 better.1)
          by false true is_c is_o better =
              subst (IsBestAmongThese p pins routes r l More) (sym better) (λ y c these let_in. elim (split y.0 these) [
                | inl same ↦ absurd (shut y same let_in)
                | inr before ↦ old y c before let_in
              ])
            where
              is_open : (y : Insertion) → y.0 ≡ v → opens p.kind (route_of routes y.0) ≡ true
              is_open y same = ap (λ u. opens p.kind (route_of routes u)) same ∙ is_o

              shut : (y : Insertion) → y.0 ≡ v → IsLet l y → ⊥
              shut y same let_in = elim let_in [
                | inl none ↦ (let h : true ≡ false = sym (is_open y same) ∙ none.0 in absurd (let g : ⊥ = cc in g))
                | inr alike ↦ (let h : true ≡ false = sym (is_open y same) ∙ (alike.0 ∙ is_c) in absurd (let g : ⊥ = cc in g))
              ]
      bettered (Some f) result old better = by f.opens (opens p.kind old_route) refl refl better
        where
          same_opens : (g : Candidate) → Some f ≡ Some g → g.opens ≡ f.opens
          same_opens g is = ap (λ (h : Candidate). h.opens) (sym (some_same f g is))

          below_found : (o : Bool) → f.opens ≡ o → (g : Candidate) → Some f ≡ Some g → (d : ℤ) → d <ℤ bound_against v f → (x : Insertion)
              → x.0 ≡ v → Ahead p routes r x o d (candidate_place g) g.opens g.addition.distance
          below_found o same g is d less x at =
              subst (λ (h : Candidate). Ahead p routes r x o d (candidate_place h) h.opens h.addition.distance) (some_same f g is) (inr (
                sym same,
                elim (leb_tells (suc v) f.vehicle) [
                  | inl t ↦ by_lt_z {P = (d <ℤ f.addition.distance)
                      ⊎ ((d ≡ f.addition.distance) × (is_no_later x (candidate_place f) ≡ true))} d f.addition.distance
                      (λ closer. inl closer)
                      (λ not_closer. inr (nearly t.0 not_closer, said_later x (candidate_place f) (inl (let first = t.1 in omega arith))))
                  | inr t ↦ inl (plainly t.0)
                ],
              ))
            where
              nearly : nat_lt v f.vehicle ≡ true → f.addition.distance ≤ℤ d → d ≡ f.addition.distance
              nearly first le =
                  let h : d <ℤ (f.addition.distance +ℤ pos 1) = subst
                  (λ b. d <ℤ (cond b (f.addition.distance +ℤ pos 1) f.addition.distance)) first less in
                  omega (arith, ints)

              plainly : nat_lt v f.vehicle ≡ false → d <ℤ f.addition.distance
              plainly later = subst (λ b. d <ℤ (cond b (f.addition.distance +ℤ pos 1) f.addition.distance)) later less

          no_less : (o : Bool) → f.opens ≡ o → (g : Candidate) → Some f ≡ Some g → (y : Insertion) → y.0 ≡ v → v ≢ g.vehicle
              → adds y <ℤ pos 9223372036854775807 → bound_against v f ≤ℤ adds y
              → Ahead p routes r (candidate_place g) g.opens g.addition.distance y o (adds y)
          no_less o same g is y at other little le =
              subst (λ (h : Candidate). Ahead p routes r (candidate_place h) h.opens h.addition.distance y o (adds y)) (some_same f g is)
              (inr (
                same,
                elim (leb_tells (suc v) f.vehicle) [
                  | inl t ↦ inl (dearer t.0)
                  | inr t ↦ by_lt_z {P = (f.addition.distance <ℤ adds y)
                      ⊎ ((f.addition.distance ≡ adds y) × (is_no_later (candidate_place f) y ≡ true))} f.addition.distance
                      (adds y) (λ closer. inl closer)
                      (λ not_closer. inr (
                        (let h = as_dear t.0 in omega (arith, ints)),
                        said_later (candidate_place f) y
                            (inl (let apart = not_same in let following = t.1 in omega arith)),
                      ))
                ],
              ))
            where
              not_same : f.vehicle ≡ v → ⊥
              not_same one = other (sym one ∙ ap (λ (h : Candidate). h.vehicle) (some_same f g is))

              dearer : nat_lt v f.vehicle ≡ true → f.addition.distance <ℤ adds y
              dearer first =
                  let h : (f.addition.distance +ℤ pos 1)
                  ≤ℤ adds y = subst (λ b. (cond b (f.addition.distance +ℤ pos 1) f.addition.distance) ≤ℤ adds y) first le in
                  omega (arith, ints)

              as_dear : nat_lt v f.vehicle ≡ false → f.addition.distance ≤ℤ adds y
              as_dear later = subst (λ b. (cond b (f.addition.distance +ℤ pos 1) f.addition.distance) ≤ℤ adds y) later le

          -- an insertion that is ahead of the best so far is within the limit, too
          as_near : (o : Bool) → f.opens ≡ o → (d : ℤ) → d <ℤ bound_against v f → IsWithin l o d
          as_near o same d less = elim old.allowed [
            | inl opened ↦ inl (sym same ∙ opened.0, opened.1)
            | inr alike ↦ inr (sym same ∙ alike.0, (let near = alike.1 in let le = no_more in omega (arith, ints)))
          ]
            where
              no_more : d ≤ℤ f.addition.distance
              no_more = elim (leb_tells (suc v) f.vehicle) [
                | inl t ↦ (let h : d <ℤ (f.addition.distance +ℤ pos 1) = subst
                    (λ b. d <ℤ (cond b (f.addition.distance +ℤ pos 1) f.addition.distance)) t.0 less in
                    omega (arith, ints))
                | inr t ↦ (let h : d <ℤ f.addition.distance = subst
                    (λ b. d <ℤ (cond b (f.addition.distance +ℤ pos 1) f.addition.distance)) t.0 less in
                    omega (arith, ints))
              ]

          -- if the best so far opens a vehicle, insertions that open none are allowed
          used_too : f.opens ≡ true → l.opens ≡ true
          used_too is_c = elim old.allowed [ inl opened ↦ opened.1 | inr alike ↦ sym alike.0 ∙ is_c ]

          by : (c o : Bool) → f.opens ≡ c → opens p.kind old_route ≡ o
              → IsBetterBelow p old_route r pinned v o (Some f) result (bound_over c (bound_against v f) o)
              → IsBestAmongThese p pins routes r l More result
          by true true is_c is_o better =
              subst (IsBestAmongThese p pins routes r l More) (sym better.2)
              (chosen few true is_o (Some f) old (bound_against v f) (as_near true is_c) (below_found true is_c) (no_less true is_c)
              (λ is. absurd (none_some f (sym is))) better.0 better.1)
          by false false is_c is_o better =
              subst (IsBestAmongThese p pins routes r l More) (sym better.2)
              (chosen few false is_o (Some f) old (bound_against v f) (as_near false is_c) (below_found false is_c) (no_less false is_c)
              (λ is. absurd (none_some f (sym is))) better.0 better.1)
          by true false is_c is_o better =
              subst (IsBestAmongThese p pins routes r l More) (sym better.2)
              (chosen few false is_o (Some f) old (pos 9223372036854775807) (λ d less. inl (refl, used_too is_c))
              (λ g is d less x at. inl (refl, same_opens g is ∙ is_c))
              (λ g is y at other little much. absurd (omega (arith, ints))) (λ is. absurd (none_some f (sym is))) better.0 better.1)
          by false true is_c is_o better =
              subst (IsBestAmongThese p pins routes r l More) (sym better)
              (keeps f old
              (λ y c same let_in. no_worse_than (candidate_place f) y f.opens true f.addition.distance (adds y) (price_found l These f old)
              (price_at y true is_o (fit y c) same) (inl (is_c, refl))))

    -- the case of an empty vehicle, after another empty one was searched
    pub skipped : length old_route ≡ 0 → (k : ℕ) → k < v → ((u : ℕ) → 1 ≤ u → u ≤ k → These u) → HasIdle routes k
        → (best : Option Candidate) → IsBestAmongThese p pins routes r l These best
        → IsBestAmongThese p pins routes r l More best
    skipped none k ahead known idle best old = by best old
      where
        alike : route_of routes idle.0 ≡ old_route
        alike = nil_from_length (route_of routes idle.0) idle.4 ∙ sym (nil_from_length old_route none)

        -- the request fits at the same places of the earlier empty vehicle
        other : (y : Insertion) → IsFit y → y.0 ≡ v → IsFit (idle.0, y.1, y.2)
        other y f same =
            let one : route_of routes y.0 ≡ route_of routes idle.0 = ap (route_of routes) same ∙ sym alike in
            let pin = pin_within laws.local p pins routes query.good idle.0 in
            let empty = idle.4 in
            let low = from_one r (length (route_of routes y.0)) y.1 y.2 (f.places) in
            let from = low.0 in
            record {
              from = idle.1;
              within = idle.3;
              places = subst (λ (l : List ℕ). ArePlaces r (length l) y.1 y.2) one (f.places);
              following = omega arith;
              keeps = subst (λ (l : List ℕ). KeepsLimits p (inserted r y.1 y.2 l)) one (f.keeps);
            }

        -- the insertion at the earlier vehicle is no worse
        before : (y : Insertion) (f : IsFit y) (same : y.0 ≡ v) → is_no_worse p routes r (idle.0, y.1, y.2) y ≡ true
        before y f same =
            let one : route_of routes idle.0 ≡ route_of routes y.0 = alike ∙ ap (route_of routes) (sym same) in
            let seen = idle.2 in
            no_worse_than (idle.0, y.1, y.2) y (opens p.kind (route_of routes idle.0)) (opens p.kind (route_of routes y.0))
            (adds (idle.0, y.1, y.2)) (adds y) (price (idle.0, y.1, y.2) (other y f same)) (price y f)
            (inr (
              ap (opens p.kind) one,
              inr (
                ap (λ (l : List ℕ). pos (route_length p (inserted r y.1 y.2 l)) -ℤ pos (route_length p l)) one,
                said_later (idle.0, y.1, y.2) y (inl (omega arith)),
              ),
            ))

        -- the insertion at the earlier vehicle is allowed, too
        let_too : (y : Insertion) → y.0 ≡ v → IsLet l y → IsLet l (idle.0, y.1, y.2)
        let_too y same let_in =
            let one : route_of routes y.0 ≡ route_of routes idle.0 = ap (route_of routes) same ∙ sym alike in
            subst (λ (route : List ℕ). IsWithin l (opens p.kind route)
            (pos (route_length p (inserted r y.1 y.2 route)) -ℤ pos (route_length p route))) one let_in

        by : (b : Option Candidate) → IsBestAmongThese p pins routes r l These b → IsBestAmongThese p pins routes r l More b
        by None empty = λ y c these let_in. elim (split y.0 these) [
          | inl same ↦
              (let f = fit y c in
              empty (idle.0, y.1, y.2) (listed_fit (idle.0, y.1, y.2) (other y f same)) (known idle.0 idle.1 idle.2)
              (let_too y same let_in))
          | inr before_it ↦ empty y c before_it let_in
        ]
        by (Some g) was = keeps g was (λ y c same let_in.
            follow (candidate_place g) (idle.0, y.1, y.2) y
            (was.least (idle.0, y.1, y.2) (listed_fit (idle.0, y.1, y.2) (other y (fit y c) same)) (known idle.0 idle.1 idle.2)
            (let_too y same let_in))
            (before y (fit y c) same))

  -- insertion y is allowed, or f is ahead of y: an insertion that costs less than the limit is ahead of one
  -- that doesn't
  abbrev IsAllowedOrAhead : Limit → Candidate → Insertion → Bool → Type 0
  IsAllowedOrAhead l f y o = IsLet l y ⊎ Ahead p routes r (candidate_place f) f.opens f.addition.distance y o (adds y)

  allowed_or_after : (l : Limit) (f : Candidate) → IsWithin l f.opens f.addition.distance → (y : Insertion) (o : Bool)
      → opens p.kind (route_of routes y.0) ≡ o → IsAllowedOrAhead l f y o
  allowed_or_after l f near y o is_open = by l.opens o refl refl
    where
      let_so : IsWithin l o (adds y) → IsAllowedOrAhead l f y o
      let_so within_it = inl (subst (λ b. IsWithin l b (adds y)) (sym is_open) within_it)

      -- the case in which both open as many vehicles as the limit
      alike : l.opens ≡ f.opens → f.opens ≡ o → IsAllowedOrAhead l f y o
      alike limit same = by_lt_z {P = IsAllowedOrAhead l f y o} (adds y) l.below (λ less. let_so (inr (sym same ∙ sym limit, less)))
          (λ more. inr (inr (
            same,
            inl (elim near [
              | inl opened ↦ absurd (let h : true ≡ false = sym opened.1 ∙ (limit ∙ opened.0) in cc)
              | inr less ↦ (let h = less.1 in omega (arith, ints))
            ]),
          )))

      used : (c : Bool) → f.opens ≡ c → l.opens ≡ true → o ≡ true → IsAllowedOrAhead l f y o
      used false found limit opened = inr (inl (found, opened))
      used true found limit opened = alike (limit ∙ sym found) (found ∙ sym opened)

      none_opened : l.opens ≡ false → f.opens ≡ false
      none_opened limit = elim near [ inl opened ↦ opened.0 | inr same ↦ same.0 ∙ limit ]

      by : (b c : Bool) → l.opens ≡ b → o ≡ c → IsAllowedOrAhead l f y o
      by true false limit opened = let_so (inl (opened, limit))
      by true true limit opened = used f.opens refl limit opened
      by false true limit opened = inr (inl (none_opened limit, opened))
      by false false limit opened = alike (limit ∙ sym (none_opened limit)) (none_opened limit ∙ sym opened)

  nothing : insertions p pins routes (request_name r) ≡ [] → (x : Insertion) → Contains (insertions_of p pins routes r) x → ⊥
  nothing none x c =
      let same : insertions p pins routes (request_name r) ≡ insertions_of p pins routes r =
      ap (λ (o : Option Request). option_map_or (insertions_of p pins routes) o []) query.named in
      within [] x (subst (λ (xs : List Insertion). Contains xs x) (sym same ∙ none) c)

  -- the best insertion among all vehicles is the best of all within the limit
  pub answer_is : (l : Limit) (These : ℕ → Type 0) → ((v : ℕ) → 1 ≤ v → v ≤ length routes → These v) → (answer : Option Candidate)
      → IsBestAmongThese p pins routes r l These answer
      → IsBestWithin p pins routes r l (option_map candidate_place answer)
  answer_is l These all None none = λ y c let_in. none y c (let f = fit y c in all y.0 f.from f.within) let_in
  answer_is l These all (Some f) up = (by (best_insertion p pins routes (request_name r)) refl (laws.least p pins routes (request_name r) r query.named), near)
    where
      least : (y : Insertion) → Contains (insertions_of p pins routes r) y → is_no_worse p routes r (candidate_place f) y ≡ true
      least y c =
          let fits = fit y c in
          let o = opens p.kind (route_of routes y.0) in
          elim (allowed_or_after l f up.allowed y o refl) [
            | inl let_in ↦ up.least y c (all y.0 fits.from fits.within) let_in
            | inr ahead ↦ no_worse_than (candidate_place f) y f.opens o f.addition.distance (adds y) (price_found l These f up) (price y fits) ahead
          ]

      by : (o : Option Insertion) → best_insertion p pins routes (request_name r) ≡ o
          → MatchOption o (insertions p pins routes (request_name r) ≡ []) (IsBest p pins routes r) → o ≡ Some (candidate_place f)
      by None is none = absurd (nothing none (candidate_place f) up.among)
      by (Some x) is best = ap Some (laws.unique p pins routes r x (candidate_place f) best (record { among = up.among; least = least }))

      added : adds (candidate_place f) ≡ f.addition.distance
      added =
          same (route_length p (inserted r f.addition.pickup f.addition.delivery (route_of routes f.vehicle)))
          (route_length p (route_of routes f.vehicle)) f.addition.distance up.added.1
        where
          same : (a b : ℕ) (d : ℤ) → pos a ≡ pos b +ℤ d → pos a -ℤ pos b ≡ d
          same a b d is = omega (arith, ints)

      near : IsLet l (candidate_place f)
      near = subst (λ b. IsWithin l b (adds (candidate_place f))) (sym up.opens) (subst (λ d. IsWithin l f.opens d) (sym added) up.allowed)

  -- if the limit allows all insertions, the best within it is the best insertion itself
  pub unlimited : (l : Limit) → l.opens ≡ true → l.below ≡ pos 9223372036854775807 → (answer : Option Insertion)
      → IsBestWithin p pins routes r l answer → answer ≡ best_insertion p pins routes (request_name r)
  unlimited l opens_all most (Some x) is = sym is.0
  unlimited l opens_all most None none = by (best_insertion p pins routes (request_name r)) refl (laws.least p pins routes (request_name r) r query.named)
    where
      -- without a limit, every insertion that fits is allowed
      let_all : (x : Insertion) → IsFit x → (o : Bool) → opens p.kind (route_of routes x.0) ≡ o → IsLet l x
      let_all x f false is = inl (is, opens_all)
      let_all x f true is = inr (
        is ∙ sym opens_all,
        subst (λ b. adds x <ℤ b) (sym most)
            (gain_small laws.found laws.stored laws.local laws.says p pins routes query.valid query.good (request_name r) r query.named query.free x
            (let e = few_more r x.1 x.2 (route_of routes x.0) in let none = opened_empty p.kind (route_of routes x.0) is in omega arith)),
      )

      by : (o : Option Insertion) → best_insertion p pins routes (request_name r) ≡ o
          → MatchOption o (insertions p pins routes (request_name r) ≡ []) (IsBest p pins routes r) → None ≡ o
      by None is best = refl
      by (Some x) is best = absurd (none x best.among (let_all x (fit x best.among) (opens p.kind (route_of routes x.0)) refl))
