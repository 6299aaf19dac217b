-- Proofs of the laws on verdicts.
use Rattle.std.proofs.Common.{◌≡◌, ℕ, suc, ◌+◌, ◌<◌, ◌≤◌, ◌⊎◌, true, false, pos, ◌<ℤ◌, List, [], ◌∷◌, length, Option, Some, None, unwrap_or, refl, sym, ap, subst, ◌∙◌, inl, inr, arith, eqb}
use Rattle.std.specs.List.{AllByRecursion}
use Rattle.std.proofs.lemmas.Bool.Decides.{eqb_tells}
use Rattle.std.proofs.lemmas.Option.{same_Some}
use Rattle.plan_types.specs.Instance.{Instance, IsInstance}
use Rattle.plan_types.specs.Laws.{NamedRequestsAreFound, RequestsAreStoredByName}
use Rattle.plan_types.specs.Request.{stops_of}
use Rattle.plan_types.specs.declared.plans.Cost.{Cost}
use Rattle.plan_types.specs.declared.requests.Request.{Request}
use Rattle.plan_types.specs.declared.requests.Request.TheVariants.{Single, Pair}
use Rattle.route_sched.specs.Route.{place}
use Rattle.route_sched.specs.Schedule.{start, load}
use Rattle.route_sched.specs.Cost.{cost_of, used_count, total_length}
use Rattle.plan_audit.specs.Rules.{item_at, HasStopAt, IsVisited}
use Rattle.plan_audit.specs.FirstFault.{first_route_beyond, first_pin_mismatch}
use Rattle.plan_audit.specs.Verdict.{Subject, planned, printed, routes_of, KeepsRules, IsUnserved, IsVerdict}
use Rattle.plan_audit.specs.Alone.{alone}
use Rattle.plan_audit.specs.Laws.{
  IsPlanned,
  IsNamed,
  IsSoundPlan,
  KeepsPins,
  AreAllPlanned,
  PassesAreSound,
  PassesArePlans,
  UnsoundIsBroken,
  PlansPassIffSound,
  SolutionsPassIffSound,
  RoutesAreFeasible,
}
use Rattle.plan_audit.specs.declared.faults.Fault.{Fault}
use Rattle.plan_audit.specs.declared.rules.Rule.TheVariants.{MissingStop, SplitPair, EarlyDelivery, Load, Late, LateReturn, Fleet, Pin, PrintedCost}
use Rattle.plan_audit.specs.declared.rules.Verdict.{Verdict}
use Rattle.plan_audit.specs.declared.rules.Verdict.TheVariants.{Pass, Broken}
use Rattle.plan_audit.proofs.AloneLemmas.{only_route, not_split, in_route}
use Rattle.plan_audit.proofs.FleetLemmas.{fleet_found, none_beyond, used-within}
use Rattle.plan_audit.proofs.PinLemmas.{pin_found, pins_kept}
use Rattle.plan_audit.proofs.SoundLemmas.{missing_in, somewhere_or_not, sound_from, keeps_from, keeps_partners}
use Rattle.plan_audit.proofs.StepLemmas.{plan_from, live_passing, planned_step, pass_step}
use Rattle.plan_audit.proofs.VerdictLemmas.{Keeps}

-- all eleven rules include the first eight
fewer : (p : Instance) (s : Subject) → KeepsRules 1 11 p s → KeepsRules 1 8 p s
fewer p s kept m r i n from to b = kept m r i n from (omega arith) b

pub passes_are_sound : NamedRequestsAreFound → PassesAreSound
passes_are_sound found p s cost valid v = sound_from found p s valid (fewer p s v.0)

pub passes_are_plans : PassesArePlans
passes_are_plans p s cost v = (plan_from p s (fewer p s v.0), live_passing p s cost v)

pub unsound_is_broken : NamedRequestsAreFound → UnsoundIsBroken
unsound_is_broken found p s (Pass cost) valid unsound v = absurd (unsound (passes_are_sound found p s cost valid v))
unsound_is_broken found p s (Broken rule r i n) valid unsound v = (rule, r, i, n, refl)

-- if all rules hold, the verdict is to pass
passes : (p : Instance) (s : Subject) (v : Verdict) → KeepsRules 1 11 p s → IsVerdict p s v → v ≡ Pass (cost_of p (routes_of s))
passes p s (Pass cost) kept is = ap Pass is.1
passes p s (Broken rule r i n) kept is = let least = is.2 in absurd (kept is.0 r i n (least.from) (least.to) (least.broken))

kept_from : (p : Instance) (s : Subject) (v : Verdict) (cost : Cost) → v ≡ Pass cost → IsVerdict p s v → KeepsRules 1 11 p s
kept_from p s v cost same is = (subst (IsVerdict p s) same is).0

-- if the pins are kept, no fault of the pins is found
pub no_pin_off : (routes pins : List (List ℕ)) → KeepsPins routes pins → first_pin_mismatch routes pins ≡ None
no_pin_off routes pins kept = by (first_pin_mismatch routes pins) refl
  where
    by : (o : Option Fault) → first_pin_mismatch routes pins ≡ o → o ≡ None
    by None e = refl
    by (Some f) e =
        let b = (pin_found routes pins f e).broken in
        let t = kept (suc f.route) (suc f.place) f.stop (b.0, b.1, b.2) in
        absurd (b.3 (ap (λ (o : Option (List ℕ)). item_at (unwrap_or o []) (suc f.place)) t.1 ∙ t.2))

pub plans_pass_where_sound : RequestsAreStoredByName → NamedRequestsAreFound → PlansPassIffSound
plans_pass_where_sound by_name found p routes pins v valid is = (
  λ passed. (
      let kept = kept_from p (planned routes pins) v (cost_of p routes) passed is in (
        sound_from found p (planned routes pins) valid (fewer p (planned routes pins) kept),
        in_number kept (eqb_tells (length routes) p.fleet),
        pins_kept routes pins (λ r i n b. kept Pin r i n (omega arith) (omega arith) b),
      )),
  λ good. (
      passes p (planned routes pins) v
      (planned_step p routes pins (keeps_from by_name p valid (planned routes pins) good.0 (keeps_partners by_name p valid (planned routes pins) good.0)) good.1
      (no_pin_off routes pins good.2)) is),
)
  where
    in_number : KeepsRules 1 11 p (planned routes pins)
        → ((eqb (length routes) p.fleet ≡ true) × (length routes ≡ p.fleet)) ⊎ ((eqb (length routes) p.fleet ≡ false) × (length routes ≡ p.fleet → ⊥))
        → length routes ≡ p.fleet
    in_number kept (inl t) = t.1
    in_number kept (inr t) = absurd (kept Fleet 0 0 0 (omega arith) (omega arith) (inr ((refl, refl), refl, t.1)))

-- a request is planned or not
planned_or_not : (routes : List (List ℕ)) (request : Request) → IsPlanned routes request ⊎ (IsPlanned routes request → ⊥)
planned_or_not routes (Single s) = somewhere_or_not routes s.number
planned_or_not routes (Pair a b) = elim (somewhere_or_not routes a.number) [
  | inl t ↦ inl (inl t)
  | inr t ↦ elim (somewhere_or_not routes b.number) [
    | inl u ↦ inl (inr u)
    | inr u ↦ inr (λ either. elim either [ inl x ↦ t x | inr x ↦ u x ])
  ]
]

not_planned : (p : Instance) (routes : List (List ℕ)) (name : ℕ) (request : Request) → IsNamed p name request → (IsPlanned routes request → ⊥)
    → IsUnserved p routes name
not_planned p routes name (Single s) at free = (Single s, at, (free, tt))
not_planned p routes name (Pair a b) at free = (Pair a b, at, (λ t. free (inl t), (λ t. free (inr t), tt)))

pub is_planned : (p : Instance) (routes : List (List ℕ)) → AreAllPlanned p routes → (name : ℕ) → IsUnserved p routes name → ⊥
is_planned p routes all name b = by b.0 b.2 (all name b.0 b.1)
  where
    by : (request : Request) → AllByRecursion (λ s. IsVisited routes s.number → ⊥) (stops_of request) → IsPlanned routes request → ⊥
    by (Single s) nowhere t = nowhere.0 t
    by (Pair a b) nowhere (inl t) = nowhere.0 t
    by (Pair a b) nowhere (inr t) = nowhere.1.0 t

module _ (p : Instance) (routes : List (List ℕ)) (cost : ℕ) (valid : IsInstance p) where
  all_planned : KeepsRules 1 11 p (printed routes cost) → AreAllPlanned p routes
  all_planned kept name request at = elim (planned_or_not routes request) [
    | inl t ↦ t
    | inr free ↦ absurd (kept MissingStop 0 0 name (omega arith) (omega arith) (inr ((refl, refl), not_planned p routes name request at free)))
  ]

  serves_all : RequestsAreStoredByName → IsSoundPlan p routes → AreAllPlanned p routes → Keeps p (printed routes cost) MissingStop
  serves_all by_name sound all r i n b = elim b [
    | inl a ↦ keeps_partners by_name p valid (printed routes cost) sound r i n a
    | inr u ↦ is_planned p routes all n u.1
  ]

  within_fleet : KeepsRules 1 11 p (printed routes cost) → used_count routes ≤ p.fleet
  within_fleet kept = by (first_route_beyond p.fleet 0 routes) refl
    where
      by : (o : Option ℕ) → first_route_beyond p.fleet 0 routes ≡ o → used_count routes ≤ p.fleet
      by None e = used-within p.fleet 0 routes e
      by (Some m) e = absurd (kept Fleet (suc m) 0 0 (omega arith) (omega arith) (fleet_found p routes m e).broken)

  printed_cost : KeepsRules 1 11 p (printed routes cost) → cost ≡ total_length p routes
  printed_cost kept = elim (eqb_tells cost (total_length p routes)) [
    | inl t ↦ t.1
    | inr t ↦ absurd (kept PrintedCost 0 0 0 (omega arith) (omega arith) ((refl, refl), refl, t.1))
  ]

pub solutions_pass_where_sound : RequestsAreStoredByName → NamedRequestsAreFound → SolutionsPassIffSound
solutions_pass_where_sound by_name found p routes cost v valid is = (
  λ passed. (
      let kept = kept_from p (printed routes cost) v (cost_of p routes) passed is in (
        sound_from found p (printed routes cost) valid (fewer p (printed routes cost) kept),
        all_planned p routes cost valid kept,
        within_fleet p routes cost valid kept,
        printed_cost p routes cost valid kept,
      )),
  λ good. (
      passes p (printed routes cost) v
      (pass_step p routes cost (keeps_from by_name p valid (printed routes cost) good.0 (serves_all p routes cost valid by_name good.0 good.1))
      (none_beyond p routes good.2) good.3) is),
)

-- if rules 3 to 8 hold, they also hold for route r as the only route; its stops are stops of the plan
module _ (p : Instance) (s : Subject) (kept : KeepsRules 3 8 p s) (r : ℕ) (route : List ℕ) (at : item_at (routes_of s) r ≡ Some route) where
  stands_there : (q i n : ℕ) → HasStopAt (route ∷ []) q i n → HasStopAt (routes_of s) r i n
  stands_there q i n t = (route, at, subst (λ (l : List ℕ). item_at l i ≡ Some n) (sym (only_route route t.0 q t.1).1) t.2)

  feasible : KeepsRules 3 8 p (alone route)
  feasible MissingStop q i n from to b = elim (somewhere_or_not (routes_of s) n) [
    | inr nowhere ↦ kept MissingStop r i n (omega arith) (omega arith) (missing_in p s r i n (b.0, stands_there q i b.0 b.1, b.2, nowhere))
    | inl u ↦ elim (eqb_tells u.0 r) [
      | inl t ↦ b.3
          (1, u.1, (route, refl, subst (λ (l : List ℕ). item_at l u.1 ≡ Some n) (same_Some _ _ (sym u.2.1 ∙ ap (item_at (routes_of s)) t.1 ∙ at)) u.2.2))
      | inr t ↦ kept SplitPair r i b.0 (omega arith) (omega arith) (stands_there q i b.0 b.1, (n, b.2, (u.0, u.1, t.1, u.2)))
    ]
  ]
  feasible SplitPair q i n from to b = not_split p route q i n b
  feasible EarlyDelivery q i n from to b =
      kept EarlyDelivery r i n (omega arith) (omega arith) (stands_there q i n b.0, (b.1.0, b.1.1, (b.1.2.0, b.1.2.1, stands_there q b.1.2.0 b.1.0 b.1.2.2)))
  feasible Load q i n from to b =
      kept Load r i n (omega arith) (omega arith)
      (route, at, in_route route (λ l. item_at l i ≡ Some n) q b.0 b.1 b.2, in_route route (λ l. pos p.capacity <ℤ load p l i) q b.0 b.1 b.3)
  feasible Late q i n from to b =
      kept Late r i n (omega arith) (omega arith) (
        b.0,
        (
          route,
          at,
          in_route route (λ l. item_at l i ≡ Some n) q b.1.0 b.1.1 b.1.2,
          in_route route (λ l. (place p l i).latest < start p l i) q b.1.0 b.1.1 b.1.3,
        ),
      )
  feasible LateReturn q i n from to b =
      kept LateReturn r i n (omega arith) (omega arith) (
        b.0,
        (
          route,
          at,
          in_route route (λ l. 0 < length l) q b.1.0 b.1.1 b.1.2,
          in_route route (λ l. i ≡ length l + 1) q b.1.0 b.1.1 b.1.3,
          b.1.4,
          in_route route (λ l. p.depot.latest < start p l i) q b.1.0 b.1.1 b.1.5,
        ),
      )
  feasible _ q i n from to b = omega arith

pub routes_are_feasible : RoutesAreFeasible
routes_are_feasible p s kept r route at = feasible p s kept r route at
