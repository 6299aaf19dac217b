-- The violations that a test of places finds are those of the rule.
use Rattle.std.proofs.Common.{◌≡◌, ℕ, suc, ◌+◌, ◌<◌, Bool, true, false, List, Option, Some, refl, sym, ap, subst, ◌∙◌, inl, inr, arith, add-one}
use Rattle.std.specs.List.{Contains}
use Rattle.std.specs.Option.{option_to_list}
use Rattle.std.proofs.lemmas.Option.{same_Some}
use Rattle.plan_types.specs.Instance.{Instance}
use Rattle.plan_audit.specs.Rules.{HasStopAt}
use Rattle.plan_audit.specs.Verdict.{Breaks, printed}
use Rattle.plan_audit.specs.declared.rules.Rule.{Rule}
use Rattle.plan_audit.proofs.FirstLemmas.{none_some}
use Rattle.plan_audit.proofs.RuleLemmas.{standing}
use Rattle.plan_audit.proofs.PositionLemmas.{Sits}
use Rattle.rule_violations.specs.Violations.{violation_if, position_at, violations_at_places, violations_in_routes}
use Rattle.rule_violations.specs.Laws.{AreAll, AreAscending, IsBefore, IsViolation, excess}
use Rattle.rule_violations.specs.declared.violations.Violation.{Violation}
use Rattle.rule_violations.specs.declared.positions.PrintedPosition.{PrintedPosition}
use Rattle.rule_violations.proofs.ListLemmas.{in_option, option_in, ascending_option, item_in_violations, reported_ascending, reported_to}

-- there is a violation exactly if the test holds
pub if_some : (holds : Bool) (position : PrintedPosition) (n by : ℕ) (b : Violation) → violation_if holds position n by ≡ Some b
    → (holds ≡ true) × ◌≡◌ {A = Violation} (record { route = position.route; place = position.place; stop = n; by = by }) b
if_some false position n by b is = absurd (none_some b is)
if_some true position n by b is = (refl, same_Some _ _ is)

-- the violation at place i of route r, both counted from 0
abbrev pub violation_at : ℕ → ℕ → ℕ → ℕ → Violation
violation_at r i n by = record { route = suc r; place = suc i; stop = n; by = by }

pub counted_from_1 : (r i n by : ℕ) → ◌≡◌ {A = Violation} (record { route = r + 1; place = i + 1; stop = n; by = by }) (violation_at r i n by)
counted_from_1 r i n by =
    ap (λ x. record { route = x; place = i + 1; stop = n; by = by }) (add-one r) ∙ ap (λ y. record { route = suc r; place = y; stop = n; by = by }) (add-one i)

pub zero-plus : (j : ℕ) → 0 + j ≡ j
zero-plus j = omega arith

module _ (test : ℕ → List ℕ → ℕ → ℕ → Option Violation) (routes : List (List ℕ)) where
  -- b is the violation at place i of route r, both counted from 0
  abbrev pub IsReportedAt : ℕ → ℕ → Violation → Type 0
  IsReportedAt r i b = (n : ℕ) × (t : Sits routes r i n) × (test r t.0 i n ≡ Some b)

  pub places_to : (b : Violation) → Contains (violations_in_routes test routes) b → (r : ℕ) × (i : ℕ) × IsReportedAt r i b
  places_to b c =
      let a = reported_to (violations_at_places test) 0 routes b c in
      let e = reported_to (λ i n. option_to_list (test (0 + a.0) a.1 i n)) 0 a.1 b a.3 in
      let reported : test (0 + a.0) a.1 (0 + e.0) e.1 ≡ Some b = in_option _ b e.3 in (
        a.0,
        e.0,
        (
          e.1,
          (a.1, a.2, e.2),
          subst (λ r. test r a.1 e.0 e.1 ≡ Some b) (zero-plus a.0) (subst (λ i. test (0 + a.0) a.1 i e.1 ≡ Some b) (zero-plus e.0) reported),
        ),
      )

  pub places_of : (b : Violation) (r i : ℕ) → IsReportedAt r i b → Contains (violations_in_routes test routes) b
  places_of b r i t =
      let route = t.1.0 in
      let reported : test (0 + r) route (0 + i) t.0 ≡ Some b =
      subst (λ r. test r route (0 + i) t.0 ≡ Some b) (sym (zero-plus r)) (subst (λ i. test r route i t.0 ≡ Some b) (sym (zero-plus i)) t.2) in
      item_in_violations (violations_at_places test) 0 routes b r route t.1.1
      (item_in_violations (λ i n. option_to_list (test (0 + r) route i n)) 0 route b i t.0 t.1.2 (option_in _ b reported))

  pub places_ascending : ((r : ℕ) (route : List ℕ) (i n : ℕ) (b : Violation) → test r route i n ≡ Some b → (b.route ≡ suc r) × (b.place ≡ suc i))
      → AreAscending (violations_in_routes test routes)
  places_ascending at =
      reported_ascending (violations_at_places test)
      (λ r route. reported_ascending (λ i n. option_to_list (test r route i n)) (λ i n. ascending_option (test r route i n))
      (λ i j n m b c lt first later. following r route i j n m b c lt first later) 0 route)
      (λ r q route other b c lt first later. (
      let s = reported_to (λ i n. option_to_list (test r route i n)) 0 route b first in
      let t = reported_to (λ i n. option_to_list (test q other i n)) 0 other c later in
      let here = (at r route (0 + s.0) s.1 b (in_option _ b s.3)).0 in
      let there = (at q other (0 + t.0) t.1 c (in_option _ c t.3)).0 in
      inl (omega arith)))
      0 routes
    where
      following : (r : ℕ) (route : List ℕ) (i j n m : ℕ) (b c : Violation) → i < j → Contains (option_to_list (test r route i n)) b
          → Contains (option_to_list (test r route j m)) c → IsBefore b c
      following r route i j n m b c lt first later =
          let here = at r route i n b (in_option _ b first) in
          let there = at r route j m c (in_option _ c later) in
          let same = here.0 in let same' = there.0 in let from = here.1 in let to = there.1 in
          inr (omega arith, inl (omega arith))

-- a rule on the stops of places, and its test
module _ (p : Instance) (routes : List (List ℕ)) (k : Rule) (holds : ℕ → List ℕ → ℕ → ℕ → Bool) (over : ℕ → List ℕ → ℕ → ℕ → ℕ) where
  abbrev pub Broken_at : ℕ → ℕ → ℕ → Type 0
  Broken_at r i n = (cost : ℕ) → Breaks p (printed routes cost) k r i n

  abbrev pub rule_test : ℕ → List ℕ → ℕ → ℕ → Option Violation
  rule_test r route i n = violation_if (holds r route i n) (position_at r i) n (over r route i n)

  pub rule_places : ((r i n : ℕ) (t : Sits routes r i n) → holds r (t.0) i n ≡ true → Broken_at (suc r) (suc i) n)
      → ((r i n : ℕ) (t : Sits routes r i n) → Broken_at (suc r) (suc i) n → holds r (t.0) i n ≡ true)
      → ((r i n : ℕ) → Broken_at r i n → HasStopAt routes r i n)
      → ((r i n : ℕ) (t : Sits routes r i n) → over r (t.0) i n ≡ excess p routes k (suc r) (suc i))
      → AreAll (IsViolation p routes k) (violations_in_routes rule_test routes)
  rule_places sound complete item_at_index measured = record {
    each = λ b. (to b, from b);
    ascending = places_ascending rule_test routes (λ r route i n b is. (
        let e = if_some (holds r route i n) (position_at r i) n (over r route i n) b is in
        let at = ap (λ (b : Violation). b.route) e.1 in
        let on = ap (λ (b : Violation). b.place) e.1 in
        (sym at ∙ add-one r, sym on ∙ add-one i)));
  }
    where
      to : (b : Violation) → Contains (violations_in_routes rule_test routes) b → IsViolation p routes k b
      to b c =
          let t = places_to rule_test routes b c in
          let r = t.0 in let i = t.1 in let n = t.2.0 in let at_index = t.2.1 in
          let e = if_some (holds r at_index.0 i n) (position_at r i) n (over r at_index.0 i n) b t.2.2 in
          subst (IsViolation p routes k) (sym (counted_from_1 r i n (over r at_index.0 i n)) ∙ e.1) (sound r i n at_index e.0, measured r i n at_index)

      from : (b : Violation) → IsViolation p routes k b → Contains (violations_in_routes rule_test routes) b
      from b is =
          let st = standing routes b.route b.place b.stop (item_at_index b.route b.place b.stop is.0) in
          let r = st.0 in let i = st.1 in let at_index = st.4 in
          let here : Broken_at (suc r) (suc i) b.stop = subst (λ y. Broken_at (suc r) y b.stop) st.3 (subst (λ x. Broken_at x b.place b.stop) st.2 is.0) in
          let by : over r at_index.0 i b.stop ≡ b.by =
          measured r i b.stop at_index ∙ sym (ap (λ x. excess p routes k x (suc i)) st.2) ∙ sym (ap (λ y. excess p routes k b.route y) st.3) ∙ sym is.1 in
          let reported : ◌≡◌ {A = Violation} (violation_at r i b.stop (over r at_index.0 i b.stop)) b =
          ap (λ x. record { route = x; place = suc i; stop = b.stop; by = over r at_index.0 i b.stop }) (sym st.2)
          ∙ ap (λ y. record { route = b.route; place = y; stop = b.stop; by = over r at_index.0 i b.stop }) (sym st.3)
          ∙ ap (λ z. record { route = b.route; place = b.place; stop = b.stop; by = z }) by in
          places_of rule_test routes b r i (
            b.stop,
            at_index,
            ap (λ h. violation_if h (position_at r i) b.stop (over r at_index.0 i b.stop)) (complete r i b.stop at_index here)
                ∙ ap Some (counted_from_1 r i b.stop (over r at_index.0 i b.stop) ∙ reported),
          )
