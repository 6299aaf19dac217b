-- If the schedule is known, the stops of each route, and so of the reported route, are known and distinct.
use Rattle.std.proofs.Common.{◌≡◌, ℕ, zero, true, suc, List, [], All, Some, slice_get, unwrap_or, inl, inr, refl, sym, ap, subst, ◌∙◌, arith}
use Rattle.std.specs.List.{IsDistinct}
use Rattle.std.proofs.lemmas.Option.{slice_get_cases}
use Rattle.plan_types.specs.Instance.{Instance}
use Rattle.route_sched.specs.Route.{AreDistinctStops}
use Rattle.plan_audit.proofs.StepLemmas.{live_passing}
use Rattle.plan_audit.specs.Verdict.{printed, IsVerdict, rule_of}
use Rattle.plan_audit.specs.declared.rules.Verdict.{Verdict}
use Rattle.plan_audit.specs.declared.rules.Verdict.TheVariants.{Broken, Pass}
use Rattle.rule_violations.proofs.VerdictLemmas.{number_reported}
use Rattle.rule_violations.proofs.KnownScheduleLemmas.{distinct_if_known}
use Rattle.plan_explain.specs.VerdictTexts.{rule_schedule_is_known, verdict_schedule_is_known}
use Rattle.plan_explain.specs.Sentences.{reported_route}

no_stops : (p : Instance) → AreDistinctStops p []
unfolding IsDistinct
no_stops p = record { live = λ k d lt. absurd (omega arith); distinct = tt }

-- If the stops of every route are known and distinct, so are those of the reported route.
pub reported_live : (p : Instance) (routes : List (List ℕ)) (r : ℕ) → All (AreDistinctStops p) routes → AreDistinctStops p (reported_route routes r)
reported_live p routes zero live = no_stops p
reported_live p routes (suc k) live = elim (slice_get_cases routes k).1 [
  | inl t ↦ subst (AreDistinctStops p) (sym (ap (λ o. unwrap_or o []) t.2)) (subst (AreDistinctStops p) t.3 (live k t.0 t.1))
  | inr t ↦ subst (AreDistinctStops p) (sym (ap (λ o. unwrap_or o []) t.1)) (no_stops p)
]

-- If the schedule is known, the stops of every route are known and distinct.
pub live_driven : (p : Instance) (routes : List (List ℕ)) (cost : ℕ) (v : Verdict) → verdict_schedule_is_known v ≡ true → IsVerdict p (printed routes cost) v → All (AreDistinctStops p) routes
live_driven p routes cost (Pass c) known is = live_passing p (printed routes cost) c is
live_driven p routes cost (Broken rule r i n) known is =
    let reported : rule_of rule ≡ Some is.0 = ap rule_of is.1 ∙ number_reported is.0 in
    distinct_if_known p (printed routes cost) is.0 r i n (is.0, refl, is.2) (sym (ap rule_schedule_is_known reported) ∙ known)
