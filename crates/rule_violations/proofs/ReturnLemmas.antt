-- The list of rule 8 holds all its violations.
use Rattle.std.proofs.Common.{◌≡◌, ℕ, suc, ◌+◌, ◌-◌, ◌<◌, true, not, List, [], length, Some, unwrap_or, refl, sym, ap, subst, ◌∙◌, inl, arith, eqb, add-one}
use Rattle.std.specs.List.{Contains}
use Rattle.std.proofs.lemmas.Bool.{and_parts, not-true, not_from_false}
use Rattle.plan_types.specs.Instance.{Instance}
use Rattle.route_sched.specs.Schedule.{start}
use Rattle.plan_audit.specs.declared.rules.Rule.TheVariants.{LateReturn}
use Rattle.plan_audit.proofs.TimeLemmas.{nonzero, positive, route_in}
use Rattle.rule_violations.specs.Violations.{violation_if, returns_late, return_violation, return_violations, return_violation_list, position_at}
use Rattle.rule_violations.specs.Laws.{AreAll, IsViolation}
use Rattle.rule_violations.specs.Limits.{is_late}
use Rattle.rule_violations.specs.declared.violations.Violation.{Violation}
use Rattle.rule_violations.proofs.ListLemmas.{in_option, option_in, ascending_option, item_in_violations, reported_ascending, reported_to}
use Rattle.rule_violations.proofs.PlaceLemmas.{if_some, zero-plus}
use Rattle.rule_violations.proofs.RuleLemmas.{both, late_holds, late_true}

module _ (p : Instance) (routes : List (List ℕ)) where
  -- the time when the vehicle returns
  back : List ℕ → ℕ
  back route = start p route (length route + 1)

  over : List ℕ → ℕ
  over route = start p route (length route + 1) - p.depot.latest

  -- the violation by a late return of route r, counted from 0
  reported_at : ℕ → List ℕ → Violation
  reported_at r route = record { route = suc r; place = length route + 1; stop = 0; by = start p route (length route + 1) - p.depot.latest }

  is_reported : (r : ℕ) (route : List ℕ) (b : Violation) → return_violation p r route ≡ Some b → (returns_late p route ≡ true) × (reported_at r route ≡ b)
  unfolding reported_at
  is_reported r route b is =
      let e = if_some (returns_late p route) (position_at r (length route)) 0 (start p route (length route + 1) - p.depot.latest) b is in
      (e.0, ap (λ x. record { route = x; place = length route + 1; stop = 0; by = start p route (length route + 1) - p.depot.latest }) (sym (add-one r)) ∙ e.1)

  pub return_all : AreAll (IsViolation p routes LateReturn) (return_violations p routes)
  unfolding reported_at
  return_all = record {
    each = λ b. (to b, from b);
    ascending = reported_ascending (return_violation_list p) (λ r route. ascending_option (return_violation p r route))
        (λ r q route other b c lt first later. (
        let here = ap (λ (b : Violation). b.route) (is_reported r route b (in_option _ b first)).1 in
        let there = ap (λ (b : Violation). b.route) (is_reported q other c (in_option _ c later)).1 in
        inl (omega arith)))
        0 routes;
  }
    where
      to : (b : Violation) → Contains (return_violations p routes) b → IsViolation p routes LateReturn b
      to b c =
          let t = reported_to (return_violation_list p) 0 routes b c in
          let r = t.0 in let route = t.1 in
          let e = is_reported (0 + r) route b (in_option _ b t.3) in
          let at : reported_at r route ≡ b = ap (λ q. reported_at q route) (sym (zero-plus r)) ∙ e.1 in
          let parts = and_parts (not (eqb (length route) 0)) (is_late p (start p route (length route + 1)) p.depot.latest) e.0 in
          let late = late_true p routes p.kind (start p route (length route + 1)) p.depot.latest parts.1 in
          subst (IsViolation p routes LateReturn) at (
            (λ cost. (late.0, (route, t.2, positive (length route) (not-true _ parts.0), refl, refl, late.1))),
            ap (λ l. start p l (length route + 1) - p.depot.latest) (sym (ap (λ o. unwrap_or o []) t.2)),
          )

      from : (b : Violation) → IsViolation p routes LateReturn b → Contains (return_violations p routes) b
      from b is =
          let late = is.0 0 in
          let route = late.1.0 in
          let at = route_in routes route b.route late.1.1 in
          let r = at.0 in
          let holds : returns_late p route ≡ true =
          both (not (eqb (length route) 0)) (is_late p (start p route (length route + 1)) p.depot.latest) (not_from_false _ (nonzero (length route) late.1.2))
          (late_holds p routes p.kind _ p.depot.latest late.0 (subst (λ i. p.depot.latest < start p route i) late.1.3 late.1.5)) in
          let by : start p route (length route + 1) - p.depot.latest ≡ b.by =
          ap (λ i. start p route i - p.depot.latest) (sym late.1.3) ∙ ap (λ l. start p l b.place - p.depot.latest) (sym (ap (λ o. unwrap_or o []) late.1.1))
          ∙ sym is.1 in
          let reported : ◌≡◌ {A = Violation} (record { route = r + 1; place = length route + 1; stop = 0; by = start p route (length route + 1) - p.depot.latest }) b =
          ap (λ x. record { route = x; place = length route + 1; stop = 0; by = start p route (length route + 1) - p.depot.latest }) (add-one r ∙ sym at.1)
          ∙ ap (λ y. record { route = b.route; place = y; stop = 0; by = start p route (length route + 1) - p.depot.latest }) (sym late.1.3)
          ∙ ap (λ z. record { route = b.route; place = b.place; stop = z; by = start p route (length route + 1) - p.depot.latest }) (sym late.1.4)
          ∙ ap (λ z. record { route = b.route; place = b.place; stop = b.stop; by = z }) by in
          let here : return_violation p r route ≡ Some b =
          ap (λ h. violation_if h (position_at r (length route)) 0 (start p route (length route + 1) - p.depot.latest)) holds ∙ ap Some reported in
          item_in_violations (return_violation_list p) 0 routes b r route at.2 (option_in _ b (subst (λ q. return_violation p q route ≡ Some b) (sym (zero-plus r)) here))
