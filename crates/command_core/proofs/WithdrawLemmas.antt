-- The job after withdrawing a request passes in the problem without it
use Rattle.std.proofs.Common.{◌≡◌, ℕ, suc, ◌≤◌, Bool, true, false, cond, not, ◌||◌, List, [], ◌∷◌, length, Option, Some, None, is_some, IsSome, refl, sym, ap, subst, ◌∙◌, inl, inr, eqb, nat_eq, arith}
use Rattle.std.specs.List.{AllByRecursion, list_all, concat, starts_with}
use Rattle.std.specs.Option.{option_map, option_or, option_map_or}
use Rattle.std.proofs.lemmas.Bool.{and_parts, and_from, or_left, or_right, or_cases, eq-eqb, eqb-true}
use Rattle.std.proofs.lemmas.List.Elements.{recursion_from_All}
use Rattle.plan_types.specs.Request.{request_name, stop_in}
use Rattle.plan_types.specs.Instance.{Instance, IsInstance, first_some, stop_at, request_with, name_at, without_request}
use Rattle.plan_types.specs.Laws.{RequestsAreStoredByName, TakeKeepsOthers}
use Rattle.plan_types.specs.declared.requests.Stop.{Stop}
use Rattle.plan_types.specs.declared.requests.Request.{Request}
use Rattle.plan_types.specs.declared.requests.Request.TheVariants.{Single, Pair}
use Rattle.route_sched.specs.Cost.{has_stop, is_planned}
use Rattle.route_sched.specs.Route.{IsKnownStop, AreDistinctStops}
use Rattle.plan_audit.specs.Passes.{has, begin_with_pins, feasible_alone, passes}
use Rattle.plan_audit.specs.Locality.{FeasibilityIsLocal}
use Rattle.move_ops.specs.Insertion.{request_named}
use Rattle.move_ops.specs.Moves.{is_of_named}
use Rattle.command_core.specs.Effects.{serves, route_without, remaining_route, remaining_routes}
use Rattle.move_ops.proofs.FitLemmas.{often_had}
use Rattle.move_ops.proofs.PlanRemovalLemmas.{times_kept}
use Rattle.move_ops.proofs.OccurrenceLemmas.{none_some, some_same, times, times-append, once_few, once_from}
use Rattle.command_core.proofs.CountLemmas.{holds_for, at_most_once, distinct_from, all_occurring, all_split, all_joined, times_prefix}
use Rattle.command_types.proofs.PassLemmas.{parts_of, from_parts, Agree, feasible_same, all_feasible_same, known_same}

-- If one of the lists has a stop of the request, the request is planned
planned_by : (lists : List (List ℕ)) (r : Request) (n : ℕ) → is_some (stop_in n r) ≡ true → has_stop lists n ≡ true → is_planned lists r ≡ true
planned_by lists (Single s) n is had = by (eqb s.number n) refl is
  where
    by : (b : Bool) → eqb s.number n ≡ b → is_some (cond b (Some s) None) ≡ true → is_planned lists (Single s) ≡ true
    by true e is = or_left (has_stop lists s.number) false (subst (λ m. has_stop lists m ≡ true) (sym (eqb-true s.number n e)) had)
    by false e is = absurd (let h : false ≡ true = is in cc)
planned_by lists (Pair a b) n is had = by (eqb a.number n) (eqb b.number n) refl refl is
  where
    by : (x y : Bool) → eqb a.number n ≡ x → eqb b.number n ≡ y → is_some (cond x (Some a) (cond y (Some b) None)) ≡ true → is_planned lists (Pair a b) ≡ true
    by true y e f is = or_left (has_stop lists a.number) (has_stop lists b.number || false) (subst (λ m. has_stop lists m ≡ true) (sym (eqb-true a.number n e)) had)
    by false true e f is =
        or_right (has_stop lists a.number) (has_stop lists b.number || false)
        (or_left (has_stop lists b.number) false (subst (λ m. has_stop lists m ≡ true) (sym (eqb-true b.number n f)) had))
    by false false e f is = absurd (let h : false ≡ true = is in cc)

-- A request that is found by a stop number has a stop with this number
has_found : (n : ℕ) (es : List (ℕ × Request)) (r : Request) → first_some (λ q. option_map (λ _. q) (stop_in n q)) es ≡ Some r → is_some (stop_in n r) ≡ true
has_found n [] r is = absurd (none_some r is)
has_found n (e ∷ es) r is = by (stop_in n e.1) refl (has_found n es r) is
  where
    by : (o : Option Stop) → stop_in n e.1 ≡ o → (first_some (λ q. option_map (λ _. q) (stop_in n q)) es ≡ Some r → is_some (stop_in n r) ≡ true)
        → option_or (option_map (λ _. e.1) o) (first_some (λ q. option_map (λ _. q) (stop_in n q)) es) ≡ Some r → is_some (stop_in n r) ≡ true
    by None at rest is = rest is
    by (Some s) at rest is = ap (λ q. is_some (stop_in n q)) (sym (some_same e.1 r is)) ∙ ap is_some at

module _ (p : Instance) (name : ℕ) (valid : IsInstance p) where
  -- The stop does not belong to the request
  abbrev pub IsOther : ℕ → Type 0
  IsOther n = is_of_named p (name ∷ []) n ≡ false

  named_of : (n : ℕ) → is_of_named p (name ∷ []) n ≡ true → name_at p n ≡ Some name
  named_of n is = by (name_at p n) is
    where
      by : (o : Option ℕ) → option_map_or (has (name ∷ [])) o false ≡ true → o ≡ Some name
      by None is = absurd (let h : false ≡ true = is in cc)
      by (Some m) is = elim (or_cases (nat_eq m name) false is) [
        | inl t ↦ ap Some (eqb-true m name t)
        | inr t ↦ absurd (let h : false ≡ true = t in cc)
      ]

  of_named : (n : ℕ) → name_at p n ≡ Some name → is_of_named p (name ∷ []) n ≡ true
  of_named n named = ap (λ (o : Option ℕ). option_map_or (has (name ∷ [])) o false) named ∙ or_left (nat_eq name name) false (eq-eqb name name refl)

  -- A current stop of another request
  abbrev pub IsKept : ℕ → Type 0
  IsKept n = IsKnownStop p n × IsOther n

  pub agree : TakeKeepsOthers → Agree p (without_request p name) IsKept
  agree law = record {
    kind = refl;
    depot = refl;
    capacity = refl;
    fleet = refl;
    same = λ n kept. law p name n valid (λ named. let h : true ≡ false = sym (of_named n named) ∙ kept.1 in cc);
  }

  -- If a stop number belongs to the request with this name, that request has a stop with this number
  name_found : RequestsAreStoredByName → (r : Request) → request_named p name ≡ Some r → (n : ℕ) → name_at p n ≡ Some name → is_some (stop_in n r) ≡ true
  name_found law r named n at = by (request_with p n) refl at
    where
      by : (o : Option Request) → request_with p n ≡ o → option_map request_name o ≡ Some name → is_some (stop_in n r) ≡ true
      by None e is = absurd (none_some name is)
      by (Some q) e is =
          let found : request_named p (request_name q) ≡ Some q = law p n q valid e in
          let same : q ≡ r = some_same q r (sym found ∙ ap (λ m. request_named p m) (some_same (request_name q) name is) ∙ named) in
          subst (λ s. is_some (stop_in n s) ≡ true) same (has_found n p.requests q e)

  -- If a request is not pinned, none of its stops is in a pin
  pub pins_others : RequestsAreStoredByName → (pins : List (List ℕ)) (r : Request) → request_named p name ≡ Some r → is_planned pins r ≡ false → AllByRecursion (AllByRecursion IsOther) pins
  pins_others law pins r named free = all_split IsOther pins (all_occurring IsOther (concat pins) (λ n occurs. by n occurs (is_of_named p (name ∷ []) n) refl))
    where
      by : (n : ℕ) → 1 ≤ times n (concat pins) → (b : Bool) → is_of_named p (name ∷ []) n ≡ b → b ≡ false
      by n occurs false e = refl
      by n occurs true e = absurd (let h : true ≡ false = sym (planned_by pins r n (name_found law r named n (named_of n e)) (often_had (concat pins) n occurs)) ∙ free in cc)

  -- If the vehicle does not serve the request, all stops of its route belong to other requests
  others_all : (route : List ℕ) → serves p name route ≡ false → AllByRecursion IsOther route
  others_all [] none = tt
  others_all (n ∷ route) none = by (is_of_named p (name ∷ []) n) refl none (others_all route)
    where
      by : (b : Bool) → is_of_named p (name ∷ []) n ≡ b → (b || serves p name route) ≡ false → (serves p name route ≡ false → AllByRecursion IsOther route) → AllByRecursion IsOther (n ∷ route)
      by false e none rest = (e, rest none)
      by true e none rest = absurd (let h : true ≡ false = none in cc)

  kept_all : (ns : List ℕ) → AllByRecursion (IsKnownStop p) ns → AllByRecursion IsOther ns → AllByRecursion IsKept ns
  kept_all [] known others = tt
  kept_all (n ∷ ns) known others = ((known.0, others.0), kept_all ns known.1 others.1)

  kept_lists : (lists : List (List ℕ)) → AllByRecursion (AllByRecursion (IsKnownStop p)) lists → AllByRecursion (AllByRecursion IsOther) lists → AllByRecursion (AllByRecursion IsKept) lists
  kept_lists [] known others = tt
  kept_lists (l ∷ lists) known others = (kept_all l known.0 others.0, kept_lists lists known.1 others.1)

  -- All stops that remain in the route are current stops of other requests
  pub kept_without : (route : List ℕ) → AllByRecursion (IsKnownStop p) route → AllByRecursion IsKept (route_without p name route)
  kept_without [] known = tt
  kept_without (n ∷ route) known = by (is_of_named p (name ∷ []) n) refl (kept_without route known.1)
    where
      by : (b : Bool) → is_of_named p (name ∷ []) n ≡ b → AllByRecursion IsKept (route_without p name route)
          → AllByRecursion IsKept (cond (not b) (n ∷ route_without p name route) (route_without p name route))
      by false e rest = ((known.0, e), rest)
      by true e rest = rest

  begins_without : (route pin : List ℕ) → starts_with nat_eq route pin ≡ true → AllByRecursion IsOther pin → starts_with nat_eq (route_without p name route) pin ≡ true
  begins_without route [] begins others = refl
  begins_without [] (m ∷ pin) begins others = begins
  begins_without (n ∷ route) (m ∷ pin) begins others =
      let both = and_parts (nat_eq m n) (starts_with nat_eq route pin) begins in
      let other : is_of_named p (name ∷ []) n ≡ false = subst IsOther (eqb-true m n both.0) others.0 in
      rw other (and_from (nat_eq m n) _ both.0 (begins_without route pin both.1 others.1))

  begins_itself : (route : List ℕ) → starts_with nat_eq route route ≡ true
  begins_itself [] = refl
  begins_itself (n ∷ route) = and_from (nat_eq n n) _ (eq-eqb n n refl) (begins_itself route)

  -- The facts about the remaining route of a vehicle
  pub record IsLeft (pin route new : List ℕ) : Type 0 where
    pub kept : AllByRecursion IsKept new
    pub fewer : (n : ℕ) → times n new ≤ times n route
    pub feasible : feasible_alone (without_request p name) new ≡ true
    pub begins : starts_with nat_eq new pin ≡ true

  module _ (law : FeasibilityIsLocal) (others : TakeKeepsOthers) where
    same_feasible : (route : List ℕ) → AllByRecursion IsKept route → feasible_alone p route ≡ true → feasible_alone (without_request p name) route ≡ true
    same_feasible route kept feasible = sym (feasible_same p (without_request p name) IsKept (agree others) law route kept) ∙ feasible

    left : (pin route : List ℕ) → AllByRecursion (IsKnownStop p) route → feasible_alone p route ≡ true → starts_with nat_eq route pin ≡ true
        → AllByRecursion IsKept pin → AllByRecursion IsOther pin → feasible_alone p pin ≡ true
        → IsLeft pin route (remaining_route p name pin route)
    left pin route known feasible begins pin_kept pin_other pin_feasible = by (serves p name route) (feasible_alone (without_request p name) (route_without p name route)) refl refl
      where
        by : (a b : Bool) → serves p name route ≡ a → feasible_alone (without_request p name) (route_without p name route) ≡ b
            → IsLeft pin route (cond a (cond b (route_without p name route) pin) route)
        by false b e f =
            let kept = kept_all route known (others_all route e) in
            record { kept = kept; fewer = λ n. omega arith; feasible = same_feasible route kept feasible; begins = begins }
        by true true e f = record {
          kept = kept_without route known;
          fewer = λ n. times_kept n (λ m. not (is_of_named p (name ∷ []) m)) route;
          feasible = f;
          begins = begins_without route pin begins pin_other;
        }
        by true false e f = record { kept = pin_kept; fewer = λ n. times_prefix n route pin begins; feasible = same_feasible pin pin_kept pin_feasible; begins = begins_itself pin }

  -- The facts about the remaining routes of all vehicles
  pub record AreLeft (pins routes new : List (List ℕ)) : Type 0 where
    pub kept : AllByRecursion (AllByRecursion IsKept) new
    pub fewer : (n : ℕ) → times n (concat new) ≤ times n (concat routes)
    pub feasible : list_all (feasible_alone (without_request p name)) new ≡ true
    pub begins : begin_with_pins new pins ≡ true
    pub long : length new ≡ length routes

  module _ (law : FeasibilityIsLocal) (others : TakeKeepsOthers) where
    lefts : (pins routes : List (List ℕ)) → length pins ≡ length routes → AllByRecursion (AllByRecursion (IsKnownStop p)) routes
        → list_all (feasible_alone p) routes ≡ true → begin_with_pins routes pins ≡ true
        → AllByRecursion (AllByRecursion IsKept) pins → AllByRecursion (AllByRecursion IsOther) pins → list_all (feasible_alone p) pins ≡ true
        → AreLeft pins routes (remaining_routes p name pins routes)
    lefts [] [] long known feasible begins kept other pins_feasible = record { kept = tt; fewer = λ n. omega arith; feasible = refl; begins = refl; long = refl }
    lefts [] (route ∷ routes) long known feasible begins kept other pins_feasible = absurd (let h : 0 ≡ suc (length routes) = long in omega arith)
    lefts (pin ∷ pins) [] long known feasible begins kept other pins_feasible = absurd (let h : suc (length pins) ≡ 0 = long in omega arith)
    lefts (pin ∷ pins) (route ∷ routes) long known feasible begins kept other pins_feasible =
        let f = and_parts (feasible_alone p route) (list_all (feasible_alone p) routes) feasible in
        let b = and_parts (starts_with nat_eq route pin) (begin_with_pins routes pins) begins in
        let g = and_parts (feasible_alone p pin) (list_all (feasible_alone p) pins) pins_feasible in
        let same : length pins ≡ length routes = (let h : suc (length pins) ≡ suc (length routes) = long in omega arith) in
        let here = left law others pin route known.0 f.0 b.0 kept.0 other.0 g.0 in
        let rest = lefts pins routes same known.1 f.1 b.1 kept.1 other.1 g.1 in
        let here_fewer = here.fewer in
        let rest_fewer = rest.fewer in
        record {
          kept = (here.kept, rest.kept);
          fewer = λ n.
              let h = here_fewer n in
              let k = rest_fewer n in
              let e = times-append n (remaining_route p name pin route) (concat (remaining_routes p name pins routes)) in
              let d = times-append n route (concat routes) in
              omega arith;
          feasible = and_from (feasible_alone (without_request p name) (remaining_route p name pin route)) _ (here.feasible) (rest.feasible);
          begins = and_from (starts_with nat_eq (remaining_route p name pin route) pin) _ (here.begins) (rest.begins);
          long = ap suc (rest.long);
        }

    known_of_kept : (ns : List ℕ) → AllByRecursion IsKept ns → list_all (λ n. is_some (stop_at p n)) ns ≡ true
    known_of_kept [] kept = refl
    known_of_kept (n ∷ ns) kept = and_from (is_some (stop_at p n)) _ kept.0.0 (known_of_kept ns kept.1)

    module _ (pins routes : List (List ℕ)) (good : passes p pins routes ≡ true) (long : length pins ≡ p.fleet) (known : AllByRecursion (AllByRecursion (IsKnownStop p)) routes)
        (pins_known : AllByRecursion (AllByRecursion (IsKnownStop p)) pins) (other : AllByRecursion (AllByRecursion IsOther) pins) (pins_feasible : list_all (feasible_alone p) pins ≡ true) where
      pub withdrawn_passes : passes (without_request p name) pins (remaining_routes p name pins routes) ≡ true
      withdrawn_passes =
          let q = without_request p name in
          let new = remaining_routes p name pins routes in
          let parts = parts_of p pins routes good in
          let all = lefts pins routes (long ∙ sym (parts.fleet)) known (parts.feasible) (parts.pinned) (kept_lists pins pins_known other) other pins_feasible in
          let kept = all_joined IsKept new (all.kept) in
          let fewer = all.fewer in
          from_parts q pins new (record {
            known = sym (known_same p q IsKept (agree others) (concat new) kept) ∙ known_of_kept (concat new) kept;
            distinct = distinct_from (concat new) (λ n. let h = at_most_once (concat routes) (parts.distinct) n in let k = fewer n in omega arith);
            fleet = all.long ∙ parts.fleet;
            feasible = all.feasible;
            pinned = all.begins;
          })

      pub pins_still_feasible : list_all (feasible_alone (without_request p name)) pins ≡ true
      pins_still_feasible = sym (all_feasible_same p (without_request p name) IsKept (agree others) law pins (kept_lists pins pins_known other)) ∙ pins_feasible

-- The remaining stops of a route are current and distinct in the problem without the request
pub without_once : TakeKeepsOthers → (p : Instance) (name : ℕ) → IsInstance p → (route : List ℕ) → AreDistinctStops p route → AreDistinctStops (without_request p name) (route_without p name route)
without_once others p name valid route once =
    let q = without_request p name in
    let rest = route_without p name route in
    let kept = kept_without p name valid route (recursion_from_All (IsKnownStop p) route (once.live)) in
    once_from q rest
    (λ n. let e = times_kept n (λ m. not (is_of_named p (name ∷ []) m)) route in let f = once_few p route once n in omega arith)
    (λ n some. (
    let here = holds_for (IsKept p name valid) rest kept n some in
    let same = (agree p name valid others).same n here in
    subst (λ o. IsSome o) (sym (same.stop)) here.0))
