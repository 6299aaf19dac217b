-- A function that computes the verdict of each plan and each solution, and the answer for each list of distinct
-- current stops.
use Rattle.std.proofs.Common.{◌≡◌, ◌⊎◌, ℕ, ◌+◌, ◌==◌, Bool, true, false, cond, List, [], ◌∷◌, length, Option, Some, None, refl, sym, subst, arith, inl, inr, is_some}
use Rattle.std.proofs.lemmas.Bool.Decides.{eqb_tells}
use Rattle.plan_types.specs.Instance.{Instance, IsInstance}
use Rattle.plan_types.specs.declared.requests.Kind.{Kind}
use Rattle.plan_types.specs.declared.requests.Kind.TheVariants.{LiLim, Vrp}
use Rattle.route_sched.specs.Cost.{cost_of, total_length}
use Rattle.route_sched.specs.Route.{AreDistinctStops}
use Rattle.plan_audit.specs.Alone.{IsFeasibleAlone, IsFaultAlone, IsFirstBrokenAlone}
use Rattle.plan_audit.specs.FirstFault.{
  first_route_beyond,
  first_place_fault,
  first_fault,
  place_fault_by,
  unknown_at,
  repeated_at,
  missing_at,
  split_at,
  early_delivery_at,
  visit_fault,
  is_overloaded,
  is_late,
  late_return_fault,
  first_pin_mismatch,
  unserved_of,
}
use Rattle.plan_audit.specs.Locality.{SubjectsHaveVerdicts, RoutesHaveAnswers}
use Rattle.plan_audit.specs.Verdict.{Subject, planned, printed, routes_of, rule_number, KeepsRules, IsBrokenWithin, IsVerdict}
use Rattle.plan_audit.specs.declared.faults.Fault.{Fault}
use Rattle.plan_audit.specs.declared.rules.Rule.{Rule}
use Rattle.plan_audit.specs.declared.rules.Rule.TheVariants.{UnknownStop, VisitedTwice, MissingStop, SplitPair, EarlyDelivery, Load, Late, LateReturn, Fleet, Pin, PrintedCost}
use Rattle.plan_audit.specs.declared.rules.Verdict.{Verdict}
use Rattle.plan_audit.specs.declared.rules.Verdict.TheVariants.{Pass, Broken}
use Rattle.plan_audit.proofs.AloneLemmas.{missing_fault, delivered_fault, load_fault, late_fault, return_fault, timed_alone, untimed_alone}
use Rattle.plan_audit.proofs.RoutesLemmas.{still_broken}
use Rattle.plan_audit.proofs.StepLemmas.{
  fault_verdict,
  NoneUnknown,
  NoneRepeated,
  NoneMissing,
  NoneSplit,
  NoneOverloaded,
  NoneLate,
  unknown_step,
  repeated_step,
  unserved_step,
  missing_step,
  split_step,
  delivered_step,
  placed_step,
  load_step,
  late_step,
  return_step,
  timed_step,
  untimed_step,
  fleet_step,
  fleet_kept,
  cost_step,
  true_cost_step,
  length_step,
  pin_step,
  planned_step,
}
use Rattle.plan_audit.proofs.VerdictLemmas.{broken_wider, broken_after, broken_verdict, keeps_both}

-- the verdict by a rule if it is broken, or else the verdict by the later rules
abbrev or_reported : Option Fault → Rule → Verdict → Verdict
or_reported None k rest = rest
or_reported (Some f) k rest = fault_verdict k f

abbrev or_unserved : Option ℕ → Verdict → Verdict
or_unserved None rest = rest
or_unserved (Some n) rest = Broken (rule_number MissingStop) 0 0 n

abbrev or_beyond : Option ℕ → Verdict → Verdict
or_beyond None rest = rest
or_beyond (Some m) rest = Broken (rule_number Fleet) (m + 1) 0 0

abbrev by_kind : Kind → Verdict → Verdict → Verdict
by_kind LiLim timed untimed = timed
by_kind Vrp timed untimed = untimed

-- ---- the rules on vehicles, pins and the printed cost

module _ (p : Instance) (routes pins : List (List ℕ)) where
  abbrev of_pins : Verdict
  of_pins = or_reported (first_pin_mismatch routes pins) Pin (Pass (cost_of p routes))

  abbrev of_plan : Verdict
  of_plan = cond (length routes == p.fleet) of_pins (Broken (rule_number Fleet) 0 0 0)

  module _ (kept : KeepsRules 1 8 p (planned routes pins)) where
    pins_reported : length routes ≡ p.fleet → (o : Option Fault) → first_pin_mismatch routes pins ≡ o
        → IsVerdict p (planned routes pins) (or_reported o Pin (Pass (cost_of p routes)))
    pins_reported same None e = (planned_step p routes pins kept same e, refl)
    pins_reported same (Some f) e = pin_step p routes pins kept same f (fault_verdict Pin f) refl e

    plan_told : IsVerdict p (planned routes pins) of_plan
    plan_told = elim (eqb_tells (length routes) p.fleet) [
      | inl t ↦ subst (λ (b : Bool). IsVerdict p (planned routes pins) (cond b of_pins (Broken (rule_number Fleet) 0 0 0))) (sym t.0)
          (pins_reported t.1 (first_pin_mismatch routes pins) refl)
      | inr t ↦ subst (λ (b : Bool). IsVerdict p (planned routes pins) (cond b of_pins (Broken (rule_number Fleet) 0 0 0))) (sym t.0)
          (length_step p routes pins kept (Broken (rule_number Fleet) 0 0 0) refl t.1)
    ]

module _ (p : Instance) (routes : List (List ℕ)) (cost : ℕ) where
  abbrev of_cost : Verdict
  of_cost = cond (cost == total_length p routes) (Pass (cost_of p routes)) (Broken (rule_number PrintedCost) 0 0 0)

  abbrev of_printed : Verdict
  of_printed = or_beyond (first_route_beyond p.fleet 0 routes) of_cost

  cost_reported : KeepsRules 1 10 p (printed routes cost) → IsVerdict p (printed routes cost) of_cost
  cost_reported kept = elim (eqb_tells cost (total_length p routes)) [
    | inl t ↦ subst (λ (b : Bool). IsVerdict p (printed routes cost) (cond b (Pass (cost_of p routes)) (Broken (rule_number PrintedCost) 0 0 0))) (sym t.0)
        (true_cost_step p routes cost kept t.1, refl)
    | inr t ↦ subst (λ (b : Bool). IsVerdict p (printed routes cost) (cond b (Pass (cost_of p routes)) (Broken (rule_number PrintedCost) 0 0 0))) (sym t.0)
        (cost_step p routes cost kept (Broken (rule_number PrintedCost) 0 0 0) refl t.1)
  ]

  printed_reported : KeepsRules 1 8 p (printed routes cost) → (o : Option ℕ) → first_route_beyond p.fleet 0 routes ≡ o
      → IsVerdict p (printed routes cost) (or_beyond o of_cost)
  printed_reported kept None e = cost_reported (fleet_kept p routes cost kept e)
  printed_reported kept (Some m) e =
      still_broken p (printed routes cost) (Broken (rule_number Fleet) (m + 1) 0 0)
      (λ c e. (let h : Broken (rule_number Fleet) (m + 1) 0 0 ≡ Pass c = e in cc))
      (fleet_step p routes cost kept m (Broken (rule_number Fleet) (m + 1) 0 0) refl e)

abbrev of_fleet : Instance → Subject → Verdict
of_fleet p (planned routes pins) = of_plan p routes pins
of_fleet p (printed routes cost) = of_printed p routes cost

fleet_reported : (p : Instance) (s : Subject) → KeepsRules 1 8 p s → IsVerdict p s (of_fleet p s)
fleet_reported p (planned routes pins) kept = plan_told p routes pins kept
fleet_reported p (printed routes cost) kept = printed_reported p routes cost kept (first_route_beyond p.fleet 0 routes) refl

-- ---- all rules

module _ (p : Instance) (s : Subject) where
  abbrev unknown : Option Fault
  unknown = first_fault (place_fault_by (λ _ _ _ n. unknown_at p (routes_of s) n)) 0 (routes_of s)

  abbrev repeated : Option Fault
  repeated = first_fault (place_fault_by (λ r _ i n. repeated_at p (routes_of s) r i n)) 0 (routes_of s)

  abbrev missing : Option Fault
  missing = first_fault (place_fault_by (λ _ _ _ n. missing_at p (routes_of s) n)) 0 (routes_of s)

  abbrev split : Option Fault
  split = first_fault (place_fault_by (λ r _ _ n. split_at p (routes_of s) r n)) 0 (routes_of s)

  abbrev early_delivery_in : Option Fault
  early_delivery_in = first_fault (place_fault_by (λ _ _ i n. early_delivery_at p (routes_of s) i n)) 0 (routes_of s)

  abbrev overloaded : Option Fault
  overloaded = first_fault (place_fault_by (λ _ route i n. visit_fault p (is_overloaded p) route i n)) 0 (routes_of s)

  abbrev late : Option Fault
  late = first_fault (place_fault_by (λ _ route i n. visit_fault p is_late route i n)) 0 (routes_of s)

  abbrev late_return : Option Fault
  late_return = first_fault (λ _ route. late_return_fault p route) 0 (routes_of s)

  abbrev of_return : Verdict
  of_return = or_reported late_return LateReturn (of_fleet p s)

  abbrev of_late : Verdict
  of_late = or_reported late Late of_return

  abbrev of_load : Verdict
  of_load = or_reported overloaded Load (by_kind p.kind of_late (of_fleet p s))

  abbrev of_delivered : Verdict
  of_delivered = or_reported early_delivery_in EarlyDelivery of_load

  abbrev of_split : Verdict
  of_split = or_reported split SplitPair of_delivered

  abbrev of_missing : Verdict
  of_missing = or_reported missing MissingStop of_split

  abbrev of_unserved : Verdict
  of_unserved = or_unserved (unserved_of p s) of_missing

  abbrev of_repeated : Verdict
  of_repeated = or_reported repeated VisitedTwice of_unserved

  verdict_of : Verdict
  verdict_of = or_reported unknown UnknownStop of_repeated

  module _ (valid : IsInstance p) where
    broken_low : (v : Verdict) → IsBrokenWithin 1 5 p s v → IsVerdict p s v
    broken_low v b = broken_verdict p s 1 11 v (broken_wider p s 1 5 11 v (omega arith) b)

    broken_mid : (v : Verdict) → KeepsRules 1 5 p s → IsBrokenWithin 6 8 p s v → IsVerdict p s v
    broken_mid v kept b = broken_verdict p s 1 11 v (broken_wider p s 1 8 11 v (omega arith) (broken_after p s 1 5 8 v (omega arith) kept b))

    from_return : KeepsRules 1 5 p s → p.kind ≡ LiLim → NoneOverloaded p (routes_of s) s refl → NoneLate p (routes_of s) s refl → (o : Option Fault)
        → late_return ≡ o → IsVerdict p s (or_reported o LateReturn (of_fleet p s))
    from_return kept kind a b None e = fleet_reported p s (keeps_both p s 1 5 8 kept (timed_step p (routes_of s) s refl kind a b e))
    from_return kept kind a b (Some f) e = broken_mid (fault_verdict LateReturn f) kept (return_step p (routes_of s) s refl kind a b f (fault_verdict LateReturn f) refl e)

    from_late : KeepsRules 1 5 p s → p.kind ≡ LiLim → NoneOverloaded p (routes_of s) s refl → (o : Option Fault) → late ≡ o
        → IsVerdict p s (or_reported o Late of_return)
    from_late kept kind a None e = from_return kept kind a e late_return refl
    from_late kept kind a (Some f) e = broken_mid (fault_verdict Late f) kept (late_step p (routes_of s) s refl kind a f (fault_verdict Late f) refl e)

    from_kind : KeepsRules 1 5 p s → NoneOverloaded p (routes_of s) s refl → (k : Kind) → p.kind ≡ k → IsVerdict p s (by_kind k of_late (of_fleet p s))
    from_kind kept a LiLim e = from_late kept e a late refl
    from_kind kept a Vrp e = fleet_reported p s (keeps_both p s 1 5 8 kept (untimed_step p (routes_of s) s refl e a))

    from_load : KeepsRules 1 5 p s → (o : Option Fault) → overloaded ≡ o → IsVerdict p s (or_reported o Load (by_kind p.kind of_late (of_fleet p s)))
    from_load kept None e = from_kind kept e p.kind refl
    from_load kept (Some f) e = broken_mid (fault_verdict Load f) kept (load_step p (routes_of s) s refl f (fault_verdict Load f) refl e)

    module _ (u : Option ℕ) (asked : u ≡ unserved_of p s) (a : NoneUnknown p (routes_of s)) (b : NoneRepeated p (routes_of s)) (none : u ≡ None) where
      from_delivered : NoneMissing p (routes_of s) → NoneSplit p (routes_of s) → (o : Option Fault) → early_delivery_in ≡ o
          → IsVerdict p s (or_reported o EarlyDelivery of_load)
      from_delivered c d None e = from_load (placed_step p (routes_of s) valid s refl u asked a b none c d e) overloaded refl
      from_delivered c d (Some f) e =
          broken_low (fault_verdict EarlyDelivery f) (delivered_step p (routes_of s) valid s refl u asked a b none c d f (fault_verdict EarlyDelivery f) refl e)

      from_split : NoneMissing p (routes_of s) → (o : Option Fault) → split ≡ o → IsVerdict p s (or_reported o SplitPair of_delivered)
      from_split c None e = from_delivered c e early_delivery_in refl
      from_split c (Some f) e = broken_low (fault_verdict SplitPair f) (split_step p (routes_of s) valid s refl u asked a b none c f (fault_verdict SplitPair f) refl e)

      from_missing : (o : Option Fault) → missing ≡ o → IsVerdict p s (or_reported o MissingStop of_split)
      from_missing None e = from_split e split refl
      from_missing (Some f) e = broken_low (fault_verdict MissingStop f) (missing_step p (routes_of s) valid s refl u asked a b none f (fault_verdict MissingStop f) refl e)

    from_unserved : NoneUnknown p (routes_of s) → NoneRepeated p (routes_of s) → (u : Option ℕ) → unserved_of p s ≡ u → IsVerdict p s (or_unserved u of_missing)
    from_unserved a b None e = from_missing None (sym e) a b refl missing refl
    from_unserved a b (Some n) e =
        broken_low (Broken (rule_number MissingStop) 0 0 n)
        (unserved_step p (routes_of s) valid s refl (Some n) (sym e) a b n (Broken (rule_number MissingStop) 0 0 n) refl refl)

    from_repeated : NoneUnknown p (routes_of s) → (o : Option Fault) → repeated ≡ o → IsVerdict p s (or_reported o VisitedTwice of_unserved)
    from_repeated a None e = from_unserved a e (unserved_of p s) refl
    from_repeated a (Some f) e =
        broken_low (fault_verdict VisitedTwice f) (repeated_step p (routes_of s) valid s refl (unserved_of p s) refl a f (fault_verdict VisitedTwice f) refl e)

    from_unknown : (o : Option Fault) → unknown ≡ o → IsVerdict p s (or_reported o UnknownStop of_repeated)
    from_unknown None e = from_repeated e repeated refl
    from_unknown (Some f) e =
        broken_low (fault_verdict UnknownStop f) (unknown_step p (routes_of s) valid s refl (unserved_of p s) refl f (fault_verdict UnknownStop f) refl e)

    is_verdict : IsVerdict p s verdict_of
    unfolding verdict_of
    is_verdict = from_unknown unknown refl

-- each list of distinct current stops is feasible alone or has a fault
module _ (p : Instance) (route : List ℕ) (live : AreDistinctStops p route) where
  abbrev IsAsked : Type 0
  IsAsked = IsFeasibleAlone p route ⊎ ((rule : ℕ) × IsFaultAlone p route rule)

  reported : (k : _) → IsFirstBrokenAlone p route k → IsAsked
  reported k least = inr (rule_number k, (k, refl, least))

  abbrev missing_reported : Bool
  missing_reported = is_some (first_place_fault (λ _ n. missing_at p (route ∷ []) n) 0 route)

  abbrev delivered_reported : Bool
  delivered_reported = is_some (first_place_fault (early_delivery_at p (route ∷ [])) 0 route)

  abbrev loaded_reported : Bool
  loaded_reported = is_some (first_place_fault (visit_fault p (is_overloaded p) route) 0 route)

  abbrev late_reported : Bool
  late_reported = is_some (first_place_fault (visit_fault p is_late route) 0 route)

  alone_return : missing_reported ≡ false → delivered_reported ≡ false → loaded_reported ≡ false → p.kind ≡ LiLim → late_reported ≡ false → (b : Bool)
      → is_some (late_return_fault p route) ≡ b → IsAsked
  alone_return m d l kind t true e = reported _ (return_fault p route live _ refl m _ refl d _ refl l kind _ refl t _ refl e)
  alone_return m d l kind t false e = inl (timed_alone p route live _ refl m _ refl d _ refl l kind _ refl t _ refl e)

  alone_late : missing_reported ≡ false → delivered_reported ≡ false → loaded_reported ≡ false → p.kind ≡ LiLim → (b : Bool) → late_reported ≡ b → IsAsked
  alone_late m d l kind true e = reported _ (late_fault p route live _ refl m _ refl d _ refl l kind _ refl e)
  alone_late m d l kind false e = alone_return m d l kind e (is_some (late_return_fault p route)) refl

  alone_kind : missing_reported ≡ false → delivered_reported ≡ false → loaded_reported ≡ false → (k : Kind) → p.kind ≡ k → IsAsked
  alone_kind m d l LiLim e = alone_late m d l e (late_reported) refl
  alone_kind m d l Vrp e = inl (untimed_alone p route live _ refl m _ refl d _ refl l e)

  alone_load : missing_reported ≡ false → delivered_reported ≡ false → (b : Bool) → loaded_reported ≡ b → IsAsked
  alone_load m d true e = reported _ (load_fault p route live _ refl m _ refl d _ refl e)
  alone_load m d false e = alone_kind m d e p.kind refl

  alone_delivered : missing_reported ≡ false → (b : Bool) → delivered_reported ≡ b → IsAsked
  alone_delivered m true e = reported _ (delivered_fault p route live _ refl m _ refl e)
  alone_delivered m false e = alone_load m e (loaded_reported) refl

  alone_missing : (b : Bool) → missing_reported ≡ b → IsAsked
  alone_missing true e = reported _ (missing_fault p route live _ refl e)
  alone_missing false e = alone_delivered e (delivered_reported) refl

  asked : IsAsked
  asked = alone_missing (missing_reported) refl

pub subjects_have_verdicts : SubjectsHaveVerdicts
subjects_have_verdicts = (verdict_of, is_verdict)

pub routes_have_answers : RoutesHaveAnswers
routes_have_answers p route live = asked p route live
