-- The cost of an exchange or 2-opt*, computed from the legs that change.
use Rattle.std.proofs.Common.{◌≡◌, ℕ, zero, suc, ◌+◌, ◌-◌, ◌<◌, ◌≤◌, ◌⊎◌, cond, eqb, ◌&&◌, Bool, true, false, not, List}
use Rattle.std.proofs.Common.{[], ◌∷◌, length, map, Option, Some, None, IsSome, slice_get, refl, sym, ap, subst, ◌∙◌, inl, inr, arith}
use Rattle.std.specs.Prelude.{unwrap_or}
use Rattle.std.specs.List.{concat}
use Rattle.std.proofs.lemmas.Bool.{and_parts, eq-eqb}
use Rattle.std.proofs.lemmas.Bool.Decides.{eqb_tells}
use Rattle.std.proofs.lemmas.List.{length-set}
use Rattle.std.proofs.lemmas.List.Elements.{All-from_recursion}
use Rattle.plan_types.specs.Instance.{Instance, IsInstance}
use Rattle.plan_types.specs.Laws.{NamedRequestsAreFound, RequestsAreStoredByName}
use Rattle.plan_types.specs.Request.{stop_in}
use Rattle.plan_types.specs.declared.plans.Cost.{Cost}
use Rattle.plan_types.specs.declared.requests.Kind.{Kind}
use Rattle.plan_types.specs.declared.requests.Kind.TheVariants.{Vrp}
use Rattle.plan_types.specs.declared.requests.Request.{Request}
use Rattle.plan_types.specs.declared.requests.Request.TheVariants.{Single}
use Rattle.plan_types.specs.declared.requests.Stop.{Stop}
use Rattle.route_sched.specs.Cost.{unplanned_count, vehicle_count, total_length, cost_of}
use Rattle.route_sched.specs.Route.{stop_numbered}
use Rattle.route_sched.specs.Schedule.{route_length}
use Rattle.plan_audit.specs.Locality.{PassingIsLocal}
use Rattle.slack_tables.proofs.InsertLemmas.{request-valid, single-found, stop-is-found}
use Rattle.move_ops.specs.Changes.{AreVehiclesOf}
use Rattle.move_ops.specs.Drafts.{DraftState, draft_of, IsDraftOf}
use Rattle.move_ops.specs.MoveCosts.{IsCostIfMade}
use Rattle.move_ops.specs.Legs.{distance_via, distance_across, IsCutOf, IsCostWithLegs, IsSinglePlaceOf}
use Rattle.move_ops.specs.Insertion.{request_named, route_of, passing, with_route}
use Rattle.move_ops.specs.Moves.{counterpart, are_exchangeable, exchange_of, exchanged, is_cut, joined, with_ends_exchanged, crossed}
use Rattle.move_ops.specs.declared.draft.costing.SinglePlace.{SinglePlace}
use Rattle.move_ops.specs.declared.draft.rearranging.Cut.{Cut}
use Rattle.move_ops.proofs.InsertionCosts.{same_cost, unplanned_same}
use Rattle.move_ops.proofs.CrossLemmas.{same_times}
use Rattle.move_ops.proofs.PlanExchangeLemmas.{swap_left, swap_right, swap_other}
use Rattle.move_ops.proofs.FitLemmas.{had_often}
use Rattle.move_ops.proofs.VehicleListLemmas.{exchanged_changes}
use Rattle.move_ops.proofs.InstallLemmas.{passing_some}
use Rattle.move_ops.proofs.LeftOutLemmas.{as_many}
use Rattle.move_ops.proofs.ReplacementLemmas.{other_vehicle, parts, times_with, times_in_vehicle}
use Rattle.move_ops.proofs.RouteDistanceLemmas.{within_route, length_exchanged, lengths_crossed, lengths_of_two}
use Rattle.move_ops.proofs.OccurrenceLemmas.{none_some, times, occurs_at, once_few}

-- ---- the results of the moves
made_where : {X : Type 0} (t : Bool) (o : Option X) (x : X) → cond t o None ≡ Some x → (t ≡ true) × (o ≡ Some x)
made_where true o x e = (refl, e)
made_where false o x e = absurd (none_some x e)

crossed_plan : (p : Instance) (pins routes : List (List ℕ)) (a ca b cb : ℕ) (new : List (List ℕ))
    → crossed p pins routes a ca b cb ≡ Some new → (b ≡ a → ⊥) × (with_ends_exchanged routes a ca b cb ≡ new)
crossed_plan p pins routes a ca b cb new e =
    let one = made_where (not (eqb a b) && (is_cut pins routes a ca && is_cut pins routes b cb))
    (passing p pins (with_ends_exchanged routes a ca b cb)) new e in (
      (λ same. elim (eqb_tells a b) [
        | inl t ↦ (let h : false ≡ true = rw t.0 at (and_parts (not (eqb a b)) (is_cut pins routes a ca && is_cut pins routes b cb) one.0).0 in cc)
        | inr t ↦ t.1 (sym same)
      ]),
      (passing_some p pins (with_ends_exchanged routes a ca b cb) new one.1).1,
    )

exchanged_plan : (p : Instance) (pins routes : List (List ℕ)) (a b : ℕ) (r s : Request) (new : List (List ℕ))
    → request_named p a ≡ Some r → request_named p b ≡ Some s → exchanged p pins routes a b ≡ Some new
    → (a ≡ b → ⊥) × (are_exchangeable pins routes r s ≡ true) × (map (map (counterpart r s)) routes ≡ new)
exchanged_plan p pins routes a b r s new is_r is_s e = elim (eqb_tells a b) [
  | inl t ↦ absurd (none_some new (rw t.0 at e))
  | inr t ↦ (
      let one : exchange_of p pins routes r s ≡ Some new = rw (t.0, is_r, is_s) at e in
      let two = made_where (are_exchangeable pins routes r s) (passing p pins (map (map (counterpart r s)) routes)) new one in
      (t.1, two.0, (passing_some p pins (map (map (counterpart r s)) routes) new two.1).1))
]

-- ---- the cost of the plan
abbrev pub cut : ℕ → ℕ → Cut
cut v k = record { vehicle = v; stops = k }

module _ (p : Instance) (pins : List (List ℕ)) (d : DraftState) (is : IsDraftOf p pins d) (vrp : p.kind ≡ Vrp) (before after : ℕ)
    (cost : Cost) (moved : IsCostWithLegs d.cost before after cost) where
  cost_is : (new : List (List ℕ)) → unplanned_count p (draft_of d) ≡ unplanned_count p new
      → total_length p new + before ≡ total_length p (draft_of d) + after → cost ≡ cost_of p new
  cost_is new left driven =
      let was = ap (λ (k : Cost). k.distance) is.cost in
      let e = moved.distance in
      same_cost cost (cost_of p new) (moved.unplanned ∙ (ap (λ (k : Cost). k.unplanned) is.cost ∙ left))
      (moved.vehicles
      ∙ (ap (λ (k : Cost). k.vehicles) is.cost
      ∙ (ap (λ (k : Kind). vehicle_count k (draft_of d)) vrp ∙ sym (ap (λ (k : Kind). vehicle_count k new) vrp))))
      (omega arith)

  module _ (local : PassingIsLocal) (a ca b cb : ℕ) (a_cut : IsCutOf (draft_of d) (cut a ca)) (b_cut : IsCutOf (draft_of d) (cut b cb))
      (was : before
      ≡ distance_across p (route_of (draft_of d) a) ca (route_of (draft_of d) a) (ca + 1)
      + distance_across p (route_of (draft_of d) b) cb (route_of (draft_of d) b) (cb + 1))
      (then : after
      ≡ distance_across p (route_of (draft_of d) a) ca (route_of (draft_of d) b) (cb + 1)
      + distance_across p (route_of (draft_of d) b) cb (route_of (draft_of d) a) (ca + 1)) where
    pub crossed_cost : IsCostIfMade p (crossed p pins (draft_of d) a ca b cb) cost
    crossed_cost new made =
        let there = crossed_plan p pins (draft_of d) a ca b cb new made in
        let apart = there.0 in
        let xs = route_of (draft_of d) a in
        let ys = route_of (draft_of d) b in
        let left = unplanned_same (draft_of d) (with_ends_exchanged (draft_of d) a ca b cb)
        (λ n. sym (same_times local p pins
        (draft_of d) is.draft a ca b cb apart a_cut.from a_cut.within b_cut.from b_cut.within n)) p in
        let total = lengths_of_two p (draft_of d) a b (joined (route_of (draft_of d) a) ca (route_of (draft_of d) b) cb)
        (joined (route_of (draft_of d) b) cb (route_of (draft_of d) a) ca) a_cut.from a_cut.within b_cut.from b_cut.within apart in
        let ends = lengths_crossed p (route_of (draft_of d) a) (route_of (draft_of d) b) ca cb a_cut.stops b_cut.stops in
        let same = ap (total_length p) there.1 in
        cost_is new (left ∙ ap (unplanned_count p) there.1) (omega arith)

-- ---- a single and its place
some_there : (routes : List (List ℕ)) (u n : ℕ) → 1 ≤ times n (unwrap_or (slice_get routes u) []) → u < length routes
some_there [] u n some = absurd (let h : 1 ≤ 0 = some in omega arith)
some_there (r ∷ rs) zero n some = omega arith
some_there (r ∷ rs) (suc u) n some = let h = some_there rs u n some in omega arith

some_in : (routes : List (List ℕ)) (v n : ℕ) → 1 ≤ times n (route_of routes v) → (1 ≤ v) × (v ≤ length routes)
some_in routes zero n some = absurd (let h : 1 ≤ 0 = some in omega arith)
some_in routes (suc u) n some = (omega arith, let h = some_there routes u n some in omega arith)

abbrev pub single_place_at : Stop → ℕ → ℕ → SinglePlace
single_place_at s v k = record { stop = s; vehicle = v; index = k }

pub single_place_is : (p : Instance) (routes : List (List ℕ)) (name : ℕ) (s : Stop) (v k : ℕ) → IsInstance p
    → request_named p name ≡ Some (Single s) → slice_get (route_of routes v) k ≡ Some s.number → IsSinglePlaceOf p routes name (single_place_at s v k)
single_place_is p routes name s v k valid named at =
    let there = some_in routes v s.number (occurs_at s.number k (route_of routes v) at) in
    record {
      named = named;
      visit = (request-valid p name (Single s) valid named).0.visit;
      place = record { from = there.0; within = there.1; index = within_route (route_of routes v) k s.number at };
      at = at;
    }

numbered : NamedRequestsAreFound → (p : Instance) (name : ℕ) (s : Stop) → IsInstance p → request_named p name ≡ Some (Single s) → stop_numbered p s.number ≡ s
numbered found p name s valid named = stop-is-found p name (Single s) s found valid named (request-valid p name (Single s) valid named).0 (single-found s)

-- ---- the number of a single
is_number : (s : Stop) (n : ℕ) → IsSome (stop_in n (Single s)) → n ≡ s.number
is_number s n some = elim (eqb_tells s.number n) [
  | inl t ↦ sym t.1
  | inr t ↦ absurd (let h : false ≡ true = rw t.0 at some in cc)
]

-- ---- two vehicles
both_have : (n : ℕ) (routes : List (List ℕ)) (v w : ℕ) → 1 ≤ v → v ≤ length routes → 1 ≤ w → w ≤ length routes → (w ≡ v → ⊥)
    → times n (route_of routes v) + times n (route_of routes w) ≤ times n (concat routes)
both_have n routes v w v_from v_within w_from w_within apart =
    let long = length-set routes (v - 1) [] in
    let e = times_with n routes v [] v_from v_within in
    let f = times_in_vehicle n (with_route routes v []) w w_from (omega arith) in
    let g = ap (times n) (other_vehicle routes v w [] v_from apart) in
    let h : times n [] ≡ 0 = refl in
    omega arith

-- ---- an exchange
module _ (found : NamedRequestsAreFound) (by_name : RequestsAreStoredByName) (local : PassingIsLocal) (p : Instance) (pins : List (List ℕ))
    (d : DraftState) (is : IsDraftOf p pins d) (a b : ℕ) (one other : SinglePlace)
    (is_one : IsSinglePlaceOf p (draft_of d) a one) (is_other : IsSinglePlaceOf p (draft_of d) b other) (apart : one.vehicle ≡ other.vehicle → ⊥) where
  abbrev x : ℕ
  x = one.stop.number

  abbrev y : ℕ
  y = other.stop.number

  abbrev first : List ℕ
  first = route_of (draft_of d) one.vehicle

  abbrev second : List ℕ
  second = route_of (draft_of d) other.vehicle

  abbrev f : ℕ → ℕ
  f = counterpart (Single one.stop) (Single other.stop)

  few : (n : ℕ) → times n (concat (draft_of d)) ≤ 1
  few n = once_few p (concat (draft_of d)) ((parts local p pins (draft_of d) is.draft).plan) n

  both_few : (n : ℕ) → times n first + times n second ≤ 1
  both_few n =
      let e =
      both_have n (draft_of d) one.vehicle other.vehicle is_one.place.from is_one.place.within is_other.place.from is_other.place.within
      (λ same. apart (sym same)) in
      let g = few n in
      omega arith

  x_first : 1 ≤ times x first
  x_first = occurs_at x one.index first is_one.at

  y_second : 1 ≤ times y second
  y_second = occurs_at y other.index second is_other.at

  first_length : route_length p (map f first) + distance_via p first one.index one.stop ≡ route_length p first + distance_via p first one.index other.stop
  first_length =
      length_exchanged p f first one.index x is_one.at (let e = both_few x in omega arith)
      (λ m unlike there. swap_other x y m unlike
      (λ same.
      (let e = both_few y in let g = y_second in let h : 1 ≤ times y first = subst (λ k. 1 ≤ times k first) same there in omega arith)))
      one.stop other.stop (numbered found p a one.stop is.valid is_one.named)
      (ap (stop_numbered p) (swap_left x y) ∙ numbered found p b other.stop is.valid is_other.named)

  second_length : route_length p (map f second) + distance_via p second other.index other.stop ≡ route_length p second + distance_via p second other.index one.stop
  second_length =
      length_exchanged p f second other.index y is_other.at (let e = both_few y in omega arith)
      (λ m unlike there. swap_other x y m
      (λ same. (let e = both_few x in
      let g = x_first in
      let h : 1 ≤ times x second = subst (λ k. 1 ≤ times k second) same there in
      omega arith)) unlike)
      other.stop one.stop (numbered found p b other.stop is.valid is_other.named)
      (ap (stop_numbered p) (swap_right x y) ∙ numbered found p a one.stop is.valid is_one.named)

  -- the vehicle of a stop of the two singles
  one_vehicle : (n v u : ℕ) → 1 ≤ v → v ≤ length (draft_of d) → 1 ≤ times n (route_of (draft_of d) v) → 1 ≤ times n (route_of (draft_of d) u) → u ≡ v
  one_vehicle n v u from within here there = elim (eqb_tells u v) [
    | inl t ↦ t.1
    | inr t ↦ absurd (
        let u_in = some_in (draft_of d) u n there in
        let e = both_have n (draft_of d) v u from within u_in.0 u_in.1 t.1 in
        let g = few n in
        omega arith)
  ]

  both_found : AreVehiclesOf (draft_of d) (λ n. IsSome (stop_in n (Single one.stop)) ⊎ IsSome (stop_in n (Single other.stop)))
      (one.vehicle ∷ other.vehicle ∷ [])
  both_found u n either had = elim either [
    | inl some ↦ (
        let same = is_number one.stop n some in
        let e : u ≡ one.vehicle = one_vehicle x one.vehicle u is_one.place.from is_one.place.within x_first
        (subst (λ k. 1 ≤ times k (route_of (draft_of d) u)) same (had_often (route_of (draft_of d) u) n had)) in
        rw (eq-eqb u one.vehicle e) refl)
    | inr some ↦ (
        let same = is_number other.stop n some in
        let e : u ≡ other.vehicle = one_vehicle y other.vehicle u is_other.place.from is_other.place.within y_second
        (subst (λ k. 1 ≤ times k (route_of (draft_of d) u)) same (had_often (route_of (draft_of d) u) n had)) in
        elim (eqb_tells u one.vehicle) [
          | inl t ↦ rw t.0 refl
          | inr t ↦ rw (t.0, eq-eqb u other.vehicle e) refl
        ])
  ]

  two_routes : with_route (with_route (draft_of d) one.vehicle (map f first)) other.vehicle (map f second) ≡ map (map f) (draft_of d)
  two_routes =
      (exchanged_changes (Single one.stop) (Single other.stop) (draft_of d) (one.vehicle ∷ other.vehicle ∷ [])
      (All-from_recursion (λ (u : ℕ). (1 ≤ u) × (u ≤ length (draft_of d))) (one.vehicle ∷ other.vehicle ∷ [])
      ((is_one.place.from, is_one.place.within), ((is_other.place.from, is_other.place.within), tt)))
      both_found).plan

  module _ (vrp : p.kind ≡ Vrp) (before after : ℕ) (cost : Cost) (moved : IsCostWithLegs d.cost before after cost)
      (was : before
      ≡ distance_via p (route_of (draft_of d) one.vehicle) one.index one.stop
      + distance_via p (route_of (draft_of d) other.vehicle) other.index other.stop)
      (then : after
      ≡ distance_via p (route_of (draft_of d) one.vehicle) one.index other.stop
      + distance_via p (route_of (draft_of d) other.vehicle) other.index one.stop) where
    pub exchanged_cost : IsCostIfMade p (exchanged p pins (draft_of d) a b) cost
    exchanged_cost new made =
        let there = exchanged_plan p pins (draft_of d) a b (Single one.stop) (Single other.stop) new is_one.named is_other.named made in
        let left = as_many found by_name p is.valid a b there.0 (Single one.stop) (Single other.stop) is_one.named is_other.named pins (draft_of d) there.1 in
        let total = lengths_of_two p (draft_of d) one.vehicle other.vehicle (map f first)
        (map f second) is_one.place.from is_one.place.within is_other.place.from is_other.place.within (λ same. apart (sym same)) in
        let same = ap (total_length p) (two_routes ∙ there.2) in
        let e = first_length in
        let g = second_length in
        cost_is p pins d is vrp before after cost moved new (left ∙ ap (unplanned_count p) there.2) (omega arith)
