-- The fact that each step of the audit has established.
use Rattle.std.proofs.Common.{◌≡◌, ℕ, suc, ◌+◌, ◌<◌, ◌≤◌, All, Option, Some, None, List, length, take, refl, sym, subst, ◌∙◌, arith, ◌≢◌, inl, inr, add-one}
use Rattle.plan_types.specs.Instance.{Instance, IsInstance}
use Rattle.plan_types.specs.Laws.{StopsAreBelowNext}
use Rattle.plan_types.specs.declared.requests.Kind.TheVariants.{LiLim, Vrp}
use Rattle.route_sched.specs.Route.{AreDistinctStops, IsPlan}
use Rattle.plan_audit.specs.Rules.{IsNotAfter, IsUnknown, IsRepeated, IsMissing, IsSplit, IsEarlyDelivery, IsOverloaded, IsLate, IsLateReturn}
use Rattle.plan_audit.specs.FirstFault.{
  first_fault,
  place_fault_by,
  unknown_at,
  repeated_at,
  missing_at,
  split_at,
  early_delivery_at,
  visit_fault,
  is_overloaded,
  is_late,
  late_return_fault,
  first_route_beyond,
  unserved_of,
  first_pin_mismatch,
}
use Rattle.plan_types.specs.declared.plans.Cost.{Cost}
use Rattle.route_sched.specs.Cost.{total_length}
use Rattle.plan_audit.proofs.FleetLemmas.{fleet_nothing, fleet_found, used-most, length-take-most}
use Rattle.plan_audit.specs.Verdict.{Subject, planned, printed, routes_of, rule_number, Breaks, KeepsRules, IsFirstBroken, IsBrokenWithin, IsVerdictWithin, IsVerdict}
use Rattle.plan_audit.specs.declared.faults.Fault.{Fault}
use Rattle.plan_audit.specs.declared.rules.Rule.{Rule}
use Rattle.plan_audit.specs.declared.rules.Rule.TheVariants.{UnknownStop, VisitedTwice, MissingStop, SplitPair, EarlyDelivery, Load, Late, LateReturn, Fleet, Pin, PrintedCost}
use Rattle.plan_audit.specs.declared.rules.Verdict.{Verdict}
use Rattle.plan_audit.specs.declared.rules.Verdict.TheVariants.{Pass, Broken}
use Rattle.plan_audit.proofs.FailingPlaces.{IsLeastOf, rule_nothing, rule_found}
use Rattle.plan_audit.proofs.RuleLemmas.{unknown_rule, repeated_rule, missing_rule, split_rule, delivered_rule}
use Rattle.plan_audit.proofs.TimeLemmas.{route_in, load_rule, late_rule, late_return_nothing, late_return_found}
use Rattle.plan_audit.proofs.PinLemmas.{pin_found, pin_nothing}
use Rattle.plan_audit.proofs.PlanLemmas.{known_below, is_plan, live_routes}
use Rattle.plan_audit.proofs.VerdictLemmas.{broken_verdict, KeepsBelow, Keeps, keeps_none, keeps_more, keeps_rules, least_broken, reported_at, unserved_least, missing_least, missing_kept}

-- the verdict that a rule is broken at a fault
abbrev pub fault_verdict : Rule → Fault → Verdict
fault_verdict k f = Broken (rule_number k) (f.route + 1) (f.place + 1) f.stop

pub broken_step : (low high : ℕ) (p : Instance) (s : Subject) (k : Rule) (f : Fault) (v : Verdict) → v ≡ fault_verdict k f → low ≤ rule_number k
    → rule_number k ≤ high → KeepsBelow low (rule_number k) p s
    → IsLeastOf (Breaks p s k) (suc f.route) (suc f.place) f.stop → IsBrokenWithin low high p s v
broken_step low high p s k f v is from to kept one =
    subst (IsBrokenWithin low high p s) (sym is)
    (reported_at low high p s k f.route f.place f.stop (least_broken p s low high k (suc f.route) (suc f.place) f.stop from to kept one))

-- the rules on positions of stops
module _ (p : Instance) (routes : List (List ℕ)) where
  abbrev pub NoneUnknown : Type 0
  NoneUnknown = first_fault (place_fault_by (λ _ _ _ n. unknown_at p routes n)) 0 routes ≡ None

  abbrev pub NoneRepeated : Type 0
  NoneRepeated = first_fault (place_fault_by (λ r _ i n. repeated_at p routes r i n)) 0 routes ≡ None

  abbrev pub NoneMissing : Type 0
  NoneMissing = first_fault (place_fault_by (λ _ _ _ n. missing_at p routes n)) 0 routes ≡ None

  abbrev pub NoneSplit : Type 0
  NoneSplit = first_fault (place_fault_by (λ r _ _ n. split_at p routes r n)) 0 routes ≡ None

  abbrev pub NoneDelivered : Type 0
  NoneDelivered = first_fault (place_fault_by (λ _ _ i n. early_delivery_at p routes i n)) 0 routes ≡ None

  known : NoneUnknown → (r i n : ℕ) → IsUnknown p routes r i n → ⊥
  known a = rule_nothing (IsUnknown p routes) _ routes (unknown_rule p routes) a

  once : NoneRepeated → (r i n : ℕ) → IsRepeated p routes r i n → ⊥
  once b = rule_nothing (IsRepeated p routes) _ routes (repeated_rule p routes) b

  whole : NoneRepeated → NoneSplit → (r i n : ℕ) → IsSplit p routes r i n → ⊥
  whole b d = rule_nothing (IsSplit p routes) _ routes (split_rule p routes (once b)) d

  pub below_from : StopsAreBelowNext → IsInstance p → NoneUnknown → All (λ route. All (λ n. n < p.next_number) route) routes
  below_from stops_below valid a = known_below p routes (known a) stops_below valid

  pub plan_where : NoneUnknown → NoneRepeated → IsPlan p routes
  plan_where a b = is_plan p routes (known a) (once b)

-- a first violation in the routes is a first violation of the plan or solution with these routes
least_of : (s : Subject) (routes : List (List ℕ)) → routes_of s ≡ routes → (B : List (List ℕ) → ℕ → ℕ → ℕ → Type 0) (r i n : ℕ) → IsLeastOf (B routes) r i n
    → IsLeastOf (B (routes_of s)) r i n
least_of s routes is B r i n one = subst (λ (l : List (List ℕ)). IsLeastOf (B l) r i n) (sym is) one

pub none_of : (s : Subject) (routes : List (List ℕ)) → routes_of s ≡ routes → (B : List (List ℕ) → ℕ → ℕ → ℕ → Type 0) → ((r i n : ℕ) → B routes r i n → ⊥)
    → (r i n : ℕ) → B (routes_of s) r i n → ⊥
none_of s routes is B none r i n b = none r i n (subst (λ (l : List (List ℕ)). B l r i n) is b)

-- rules 1 to 5 for a plan or solution with these routes, if u is the first request that must be served and is
-- not
module _ (p : Instance) (routes : List (List ℕ)) (valid : IsInstance p) (s : Subject) (is : routes_of s ≡ routes) (u : Option ℕ)
    (asked : u ≡ unserved_of p s) where
  after_unknown : NoneUnknown p routes → KeepsBelow 1 2 p s
  after_unknown a = keeps_more p s 1 UnknownStop (keeps_none p s 1) (none_of s routes is (IsUnknown p) (known p routes a))

  after_repeated : NoneUnknown p routes → NoneRepeated p routes → KeepsBelow 1 3 p s
  after_repeated a b = keeps_more p s 1 VisitedTwice (after_unknown a) (none_of s routes is (IsRepeated p) (once p routes b))

  after_missing : NoneUnknown p routes → NoneRepeated p routes → u ≡ None → NoneMissing p routes → KeepsBelow 1 4 p s
  after_missing a b none c =
      keeps_more p s 1 MissingStop (after_repeated a b)
      (missing_kept p s u asked none (none_of s routes is (IsMissing p) (rule_nothing (IsMissing p routes) _ routes (missing_rule p routes) c)))

  after_split : NoneUnknown p routes → NoneRepeated p routes → u ≡ None → NoneMissing p routes → NoneSplit p routes → KeepsBelow 1 5 p s
  after_split a b none c d = keeps_more p s 1 SplitPair (after_missing a b none c) (none_of s routes is (IsSplit p) (whole p routes b d))

  pub unknown_step : (f : Fault) (v : Verdict) → v ≡ fault_verdict UnknownStop f → first_fault (place_fault_by (λ _ _ _ n. unknown_at p routes n)) 0 routes ≡ Some f
      → IsBrokenWithin 1 5 p s v
  unknown_step f v eq at =
      broken_step 1 5 p s UnknownStop f v eq (omega arith) (omega arith) (keeps_none p s 1)
      (least_of s routes is (IsUnknown p) (suc f.route) (suc f.place) f.stop (rule_found (IsUnknown p routes) _ routes (unknown_rule p routes) f at))

  pub repeated_step : NoneUnknown p routes → (f : Fault) (v : Verdict) → v ≡ fault_verdict VisitedTwice f
      → first_fault (place_fault_by (λ r _ i n. repeated_at p routes r i n)) 0 routes ≡ Some f → IsBrokenWithin 1 5 p s v
  repeated_step a f v eq at =
      broken_step 1 5 p s VisitedTwice f v eq (omega arith) (omega arith) (after_unknown a)
      (least_of s routes is (IsRepeated p) (suc f.route) (suc f.place) f.stop (rule_found (IsRepeated p routes) _ routes (repeated_rule p routes) f at))

  pub unserved_step : NoneUnknown p routes → NoneRepeated p routes → (n : ℕ) (v : Verdict) → v ≡ Broken (rule_number MissingStop) 0 0 n → u ≡ Some n
      → IsBrokenWithin 1 5 p s v
  unserved_step a b n v eq at =
      subst (IsBrokenWithin 1 5 p s) (sym eq)
      (MissingStop, refl, least_broken p s 1 5 MissingStop 0 0 n (omega arith) (omega arith) (after_repeated a b) (unserved_least p valid s u asked n at))

  pub missing_step : NoneUnknown p routes → NoneRepeated p routes → u ≡ None → (f : Fault) (v : Verdict) → v ≡ fault_verdict MissingStop f
      → first_fault (place_fault_by (λ _ _ _ n. missing_at p routes n)) 0 routes ≡ Some f → IsBrokenWithin 1 5 p s v
  missing_step a b none f v eq at =
      broken_step 1 5 p s MissingStop f v eq (omega arith) (omega arith) (after_repeated a b)
      (missing_least p s u asked none (suc f.route) (suc f.place) f.stop
      (least_of s routes is (IsMissing p) (suc f.route) (suc f.place) f.stop (rule_found (IsMissing p routes) _ routes (missing_rule p routes) f at)))

  pub split_step : NoneUnknown p routes → NoneRepeated p routes → u ≡ None → NoneMissing p routes → (f : Fault) (v : Verdict) → v ≡ fault_verdict SplitPair f
      → first_fault (place_fault_by (λ r _ _ n. split_at p routes r n)) 0 routes ≡ Some f → IsBrokenWithin 1 5 p s v
  split_step a b none c f v eq at =
      broken_step 1 5 p s SplitPair f v eq (omega arith) (omega arith) (after_missing a b none c)
      (least_of s routes is (IsSplit p) (suc f.route) (suc f.place) f.stop
      (rule_found (IsSplit p routes) _ routes (split_rule p routes (once p routes b)) f at))

  pub delivered_step : NoneUnknown p routes → NoneRepeated p routes → u ≡ None → NoneMissing p routes → NoneSplit p routes → (f : Fault) (v : Verdict)
      → v ≡ fault_verdict EarlyDelivery f → first_fault (place_fault_by (λ _ _ i n. early_delivery_at p routes i n)) 0 routes ≡ Some f → IsBrokenWithin 1 5 p s v
  delivered_step a b none c d f v eq at =
      broken_step 1 5 p s EarlyDelivery f v eq (omega arith) (omega arith) (after_split a b none c d)
      (least_of s routes is (IsEarlyDelivery p) (suc f.route) (suc f.place) f.stop
      (rule_found (IsEarlyDelivery p routes) _ routes (delivered_rule p routes (once p routes b) (whole p routes b d)) f at))

  pub placed_step : NoneUnknown p routes → NoneRepeated p routes → u ≡ None → NoneMissing p routes → NoneSplit p routes → NoneDelivered p routes
      → KeepsRules 1 5 p s
  placed_step a b none c d e =
      keeps_rules p s 1 5
      (keeps_more p s 1 EarlyDelivery (after_split a b none c d)
      (none_of s routes is (IsEarlyDelivery p)
      (rule_nothing (IsEarlyDelivery p routes) _ routes (delivered_rule p routes (once p routes b) (whole p routes b d)) e)))

-- the stops of a plan or solution that passes are distinct stops of current requests
pub live_passing : (p : Instance) (s : Subject) (cost : Cost) → IsVerdict p s (Pass cost) → All (AreDistinctStops p) (routes_of s)
live_passing p s cost is =
    live_routes p (routes_of s) (λ r i n b. is.0 UnknownStop r i n (omega arith) (omega arith) b) (λ r i n b. is.0 VisitedTwice r i n (omega arith) (omega arith) b)

pub live_above : (p : Instance) (s : Subject) (rule r i n : ℕ) → IsVerdict p s (Broken rule r i n) → 2 < rule → All (AreDistinctStops p) (routes_of s)
live_above p s rule r i n is above =
    let number = is.1 in
    let least = is.2 in
    live_routes p (routes_of s)
    (λ q j m b. elim (least.least UnknownStop q j m (omega arith) (omega arith) b) [ inl lt ↦ omega arith | inr e ↦ (let same = e.0 in omega arith) ])
    (λ q j m b. elim (least.least VisitedTwice q j m (omega arith) (omega arith) b) [ inl lt ↦ omega arith | inr e ↦ (let same = e.0 in omega arith) ])

-- if rules 1 to 8 hold, the routes are a plan
pub plan_from : (p : Instance) (s : Subject) → KeepsRules 1 8 p s → IsPlan p (routes_of s)
plan_from p s kept =
    is_plan p (routes_of s) (λ r i n b. kept UnknownStop r i n (omega arith) (omega arith) b) (λ r i n b. kept VisitedTwice r i n (omega arith) (omega arith) b)

-- the rules on loads and times
module _ (p : Instance) (routes : List (List ℕ)) (s : Subject) (is : routes_of s ≡ routes) where
  abbrev pub NoneOverloaded : Type 0
  NoneOverloaded = first_fault (place_fault_by (λ _ route i n. visit_fault p (is_overloaded p) route i n)) 0 routes ≡ None

  abbrev pub NoneLate : Type 0
  NoneLate = first_fault (place_fault_by (λ _ route i n. visit_fault p is_late route i n)) 0 routes ≡ None

  abbrev pub NoneLateReturn : Type 0
  NoneLateReturn = first_fault (λ _ route. late_return_fault p route) 0 routes ≡ None

  after_load : NoneOverloaded → KeepsBelow 6 7 p s
  after_load a =
      keeps_more p s 6 Load (keeps_none p s 6) (none_of s routes is (IsOverloaded p) (rule_nothing (IsOverloaded p routes) _ routes (load_rule p routes) a))

  after_late : p.kind ≡ LiLim → NoneOverloaded → NoneLate → KeepsBelow 6 8 p s
  after_late kind a b =
      keeps_more p s 6 Late (after_load a) (none_of s routes is (IsLate p) (rule_nothing (IsLate p routes) _ routes (late_rule p routes kind) b))

  pub load_step : (f : Fault) (v : Verdict) → v ≡ fault_verdict Load f
      → first_fault (place_fault_by (λ _ route i n. visit_fault p (is_overloaded p) route i n)) 0 routes ≡ Some f → IsBrokenWithin 6 8 p s v
  load_step f v eq at =
      broken_step 6 8 p s Load f v eq (omega arith) (omega arith) (keeps_none p s 6)
      (least_of s routes is (IsOverloaded p) (suc f.route) (suc f.place) f.stop (rule_found (IsOverloaded p routes) _ routes (load_rule p routes) f at))

  pub late_step : p.kind ≡ LiLim → NoneOverloaded → (f : Fault) (v : Verdict) → v ≡ fault_verdict Late f
      → first_fault (place_fault_by (λ _ route i n. visit_fault p is_late route i n)) 0 routes ≡ Some f → IsBrokenWithin 6 8 p s v
  late_step kind a f v eq at =
      broken_step 6 8 p s Late f v eq (omega arith) (omega arith) (after_load a)
      (least_of s routes is (IsLate p) (suc f.route) (suc f.place) f.stop (rule_found (IsLate p routes) _ routes (late_rule p routes kind) f at))

  pub return_step : p.kind ≡ LiLim → NoneOverloaded → NoneLate → (f : Fault) (v : Verdict) → v ≡ fault_verdict LateReturn f
      → first_fault (λ _ route. late_return_fault p route) 0 routes ≡ Some f → IsBrokenWithin 6 8 p s v
  return_step kind a b f v eq at =
      broken_step 6 8 p s LateReturn f v eq (omega arith) (omega arith) (after_late kind a b)
      (least_of s routes is (IsLateReturn p) (suc f.route) (suc f.place) f.stop (late_return_found p routes kind f at))

  pub timed_step : p.kind ≡ LiLim → NoneOverloaded → NoneLate → NoneLateReturn → KeepsRules 6 8 p s
  timed_step kind a b c =
      keeps_rules p s 6 8 (keeps_more p s 6 LateReturn (after_late kind a b) (none_of s routes is (IsLateReturn p) (late_return_nothing p routes c)))

  -- without time windows nothing is late
  pub untimed_step : p.kind ≡ Vrp → NoneOverloaded → KeepsRules 6 8 p s
  untimed_step kind a =
      let late : Keeps p s Late = λ r i n b. no_windows (b.0) in
      let back : Keeps p s LateReturn = λ r i n b. no_windows (b.0) in
      keeps_rules p s 6 8 (keeps_more p s 6 LateReturn (keeps_more p s 6 Late (after_load a) late) back)
    where
      no_windows : p.kind ≡ LiLim → ⊥
      no_windows e = let h : Vrp ≡ LiLim = sym kind ∙ e in cc

-- if the rules up to high hold, so do those below high + 1
within : (high : ℕ) (p : Instance) (s : Subject) → KeepsRules 1 high p s → KeepsBelow 1 (high + 1) p s
unfolding KeepsBelow
within high p s kept m r i n from below b = kept m r i n from (omega arith) b

-- the rules after those on times, for printed routes
module _ (p : Instance) (routes : List (List ℕ)) (cost : ℕ) (kept : KeepsRules 1 8 p (printed routes cost)) where
  after_fleet : first_route_beyond p.fleet 0 routes ≡ None → KeepsBelow 1 10 p (printed routes cost)
  after_fleet a = keeps_more p (printed routes cost) 1 Fleet (within 8 p (printed routes cost) kept) (fleet_nothing p routes a)

  pub fleet_step : (m : ℕ) (v : Verdict) → v ≡ Broken (rule_number Fleet) (m + 1) 0 0 → first_route_beyond p.fleet 0 routes ≡ Some m
      → IsVerdictWithin 1 10 p (printed routes cost) v
  fleet_step m v is at =
      let least =
      least_broken p (printed routes cost) 1 10 Fleet (suc m) 0 0 (omega arith) (omega arith) (within 8 p (printed routes cost) kept)
      (fleet_found p routes m at) in
      subst (IsVerdictWithin 1 10 p (printed routes cost)) (sym is)
      (Fleet, refl, subst (λ r. IsFirstBroken 1 10 p (printed routes cost) Fleet r 0 0) (sym (add-one m)) least)

  -- a printed solution has no pins
  pub fleet_kept : first_route_beyond p.fleet 0 routes ≡ None → KeepsRules 1 10 p (printed routes cost)
  fleet_kept a = keeps_rules p (printed routes cost) 1 10 (keeps_more p (printed routes cost) 1 Pin (after_fleet a) (λ r i n b. b))

-- the rule on the printed cost
module _ (p : Instance) (routes : List (List ℕ)) (cost : ℕ) (kept : KeepsRules 1 10 p (printed routes cost)) where
  pub cost_step : (v : Verdict) → v ≡ Broken (rule_number PrintedCost) 0 0 0 → cost ≢ total_length p routes → IsVerdict p (printed routes cost) v
  cost_step v is ne =
      let one : IsLeastOf (Breaks p (printed routes cost) PrintedCost) 0 0 0 = record {
        broken = ((refl, refl), refl, ne);
        least = λ q j t b. (let x = b.0.0 in let y = b.0.1 in inr (sym x, inr (sym y, omega arith)));
      } in
      let least = least_broken p (printed routes cost) 1 11 PrintedCost 0 0 0 (omega arith) (omega arith) (within 10 p (printed routes cost) kept) one in
      subst (IsVerdict p (printed routes cost)) (sym is) (PrintedCost, refl, least)

  pub true_cost_step : cost ≡ total_length p routes → KeepsRules 1 11 p (printed routes cost)
  true_cost_step same =
      keeps_rules p (printed routes cost) 1 11
      (keeps_more p (printed routes cost) 1 PrintedCost (within 10 p (printed routes cost) kept) (λ r i n b. b.2 same))

pub pass_step : (p : Instance) (routes : List (List ℕ)) (cost : ℕ) → KeepsRules 1 8 p (printed routes cost) → first_route_beyond p.fleet 0 routes ≡ None
    → cost ≡ total_length p routes → KeepsRules 1 11 p (printed routes cost)
pass_step p routes cost kept a = true_cost_step p routes cost (fleet_kept p routes cost kept a)

-- the rules after those on times, for a plan with its pins
module _ (p : Instance) (routes pins : List (List ℕ)) (kept : KeepsRules 1 8 p (planned routes pins)) where
  pub length_step : (v : Verdict) → v ≡ Broken (rule_number Fleet) 0 0 0 → length routes ≢ p.fleet → IsVerdict p (planned routes pins) v
  length_step v is ne =
      let one : IsLeastOf (Breaks p (planned routes pins) Fleet) 0 0 0 = record {
        broken = inr ((refl, refl), refl, ne);
        least = λ q j t b. elim b as (λ _. IsNotAfter 0 0 0 q j t) [
          | inl a ↦ (let at = route_in routes a.3.0 q a.3.1 in let e = at.1 in inl (omega arith))
          | inr a ↦ (let x = a.0.0 in let y = a.0.1 in inr (sym x, inr (sym y, omega arith)))
        ];
      } in
      subst (IsVerdict p (planned routes pins)) (sym is)
      (Fleet, refl, least_broken p (planned routes pins) 1 11 Fleet 0 0 0 (omega arith) (omega arith) (within 8 p (planned routes pins) kept) one)

  within_fleet : length routes ≡ p.fleet → Keeps p (planned routes pins) Fleet
  within_fleet same r i n b = elim b [
    | inl a ↦ (let most = used-most (take r routes) in let few = length-take-most r routes in let one = a.2 in omega arith)
    | inr a ↦ a.2 same
  ]

  after_length : length routes ≡ p.fleet → KeepsBelow 1 10 p (planned routes pins)
  after_length same = keeps_more p (planned routes pins) 1 Fleet (within 8 p (planned routes pins) kept) (within_fleet same)

  pub pin_step : length routes ≡ p.fleet → (f : Fault) (v : Verdict) → v ≡ fault_verdict Pin f → first_pin_mismatch routes pins ≡ Some f
      → IsVerdict p (planned routes pins) v
  pin_step same f v is at =
      broken_verdict p (planned routes pins) 1 11 v
      (broken_step 1 11 p (planned routes pins) Pin f v is (omega arith) (omega arith) (after_length same) (pin_found routes pins f at))

  pub planned_step : length routes ≡ p.fleet → first_pin_mismatch routes pins ≡ None → KeepsRules 1 11 p (planned routes pins)
  planned_step same none =
      keeps_rules p (planned routes pins) 1 11
      (keeps_more p (planned routes pins) 1 PrintedCost (keeps_more p (planned routes pins) 1 Pin (after_length same) (pin_nothing routes pins none))
      (λ r i n b. b))
