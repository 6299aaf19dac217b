-- The list of rule 3 holds all its violations: requests in no route, and places whose partner is in none.
use Rattle.std.proofs.Common.{◌≡◌, ℕ, zero, suc, ◌+◌, ◌<◌, Bool, true, false, not, cond, List, [], ◌∷◌, Option, Some, None, slice_get, refl, sym, ap, subst, ◌∙◌, inl, inr, arith, nat_eq}
use Rattle.std.specs.List.{AllByRecursion, Contains}
use Rattle.std.specs.List.Sorted.{IsStrictlySortedBy}
use Rattle.std.specs.Map.{lookup, keys_of}
use Rattle.std.specs.Option.{option_to_list}
use Rattle.std.specs.Ordering.{nat_cmp}
use Rattle.std.specs.declared.cmp.Ordering.TheVariants.{Less}
use Rattle.std.proofs.lemmas.Bool.{eq-eqb, not-true, not_from_false}
use Rattle.std.proofs.lemmas.Bool.Decides.{eqb_tells}
use Rattle.std.proofs.lemmas.List.Elements.{Contains-append_left, Contains-append_right, Contains-append_cases}
use Rattle.std.proofs.lemmas.Option.{same_Some}
use Rattle.plan_types.specs.Instance.{Instance, IsInstance, partner_at}
use Rattle.plan_types.specs.declared.requests.Request.{Request}
use Rattle.plan_types.specs.declared.requests.Request.TheVariants.{Single, Pair}
use Rattle.route_sched.specs.Cost.{has_stop, is_planned}
use Rattle.plan_audit.specs.Rules.{IsMissing}
use Rattle.plan_audit.specs.Verdict.{IsUnserved}
use Rattle.plan_audit.specs.declared.rules.Rule.TheVariants.{MissingStop}
use Rattle.plan_audit.proofs.FirstLemmas.{none_some}
use Rattle.plan_audit.proofs.RuleLemmas.{standing}
use Rattle.plan_audit.proofs.ServedLemmas.{IsNowhere, below_less, no_seat, not_served}
use Rattle.rule_violations.specs.Violations.{violations_of, missing_violation, position_at, stop_violations, stop_test, violations_from, unserved_violation, unserved_violations}
use Rattle.rule_violations.specs.Laws.{AreAll, AreAscending, IsBefore, IsViolation}
use Rattle.rule_violations.specs.declared.violations.Violation.{Violation}
use Rattle.rule_violations.proofs.ListLemmas.{in_option, option_in, ascending_append, ascending_option, item_in_violations, reported_to}
use Rattle.rule_violations.proofs.PlaceLemmas.{counted_from_1, violation_at, if_some, places_of, places_ascending, places_to}
use Rattle.rule_violations.proofs.PositionLemmas.{has_none}

-- a request with no stop in any route is not planned
pub not_planned : (routes : List (List ℕ)) (r : Request) → IsNowhere routes r → is_planned routes r ≡ false
not_planned routes (Single s) nowhere = rw (has_none routes s.number nowhere.0) refl
not_planned routes (Pair a b) nowhere = rw (has_none routes a.number nowhere.0, has_none routes b.number nowhere.1.0) refl

key_at : (P : ℕ → Type 0) (es : List (ℕ × Request)) (j : ℕ) (e : ℕ × Request) → AllByRecursion P (keys_of es) → slice_get es j ≡ Some e → P e.0
key_at P [] j e all at = absurd (none_some e at)
key_at P (x ∷ es) zero e all at = subst (λ (y : ℕ × Request). P y.0) (same_Some x e at) all.0
key_at P (x ∷ es) (suc j) e all at = key_at P es j e all.1 at

-- an entry of the list is found by its key, and conversely
looked_up : (es : List (ℕ × Request)) (j : ℕ) (e : ℕ × Request) → IsStrictlySortedBy nat_cmp (keys_of es) → slice_get es j ≡ Some e
    → lookup (nat_eq e.0) es ≡ Some e.1
unfolding IsStrictlySortedBy
looked_up [] j e up at = absurd (none_some e at)
looked_up (x ∷ es) zero e up at =
    let same : x ≡ e = same_Some x e at in
    rw (eq-eqb e.0 x.0 (sym (ap (λ (y : ℕ × Request). y.0) same))) (ap (λ (y : ℕ × Request). Some y.1) same)
looked_up (x ∷ es) (suc j) e up at =
    let lt = below_less x.0 e.0 (key_at (λ y. nat_cmp x.0 y ≡ Less) es j e up.0 at) in
    let apart : nat_eq e.0 x.0 ≡ false = elim (eqb_tells e.0 x.0) [ inl t ↦ (let a = t.1 in absurd (omega arith)) | inr t ↦ t.0 ] in
    rw apart (looked_up es j e up.1 at)

item_of_lookup : (es : List (ℕ × Request)) (n : ℕ) (r : Request) → lookup (nat_eq n) es ≡ Some r → (j : ℕ) × (slice_get es j ≡ Some (n, r))
item_of_lookup [] n r is = absurd (none_some r is)
item_of_lookup (e ∷ es) n r is = elim (eqb_tells n e.0) [
  | inl t ↦ (
      let same : e.1 ≡ r = same_Some _ _ (let h : lookup (nat_eq n) (e ∷ es) ≡ Some r = is in rw t.0 at h) in
      (0, ap (λ a. Some (a, e.1)) (sym t.1) ∙ ap (λ b. Some (n, b)) same))
  | inr t ↦ (let later = item_of_lookup es n r (let h : lookup (nat_eq n) (e ∷ es) ≡ Some r = is in rw t.0 at h) in (suc later.0, later.1))
]

unserved_reported : ℕ → Violation
unserved_reported n = record { route = 0; place = 0; stop = n; by = 0 }

module _ (p : Instance) (routes : List (List ℕ)) where
  -- the violation of a request that no route serves, by its name
  abbrev pub IsUnservedViolation : Violation → Type 0
  IsUnservedViolation b = (b.route ≡ 0) × (b.place ≡ 0) × IsUnserved p routes b.stop × (b.by ≡ 0)

  unserved_is : (e : ℕ × Request) (b : Violation) → unserved_violation routes e ≡ Some b → (is_planned routes e.1 ≡ false) × (unserved_reported e.0 ≡ b)
  unfolding unserved_reported
  unserved_is e b is = by (is_planned routes e.1) is
    where
      by : (h : Bool) → cond h None (Some (record { route = 0; place = 0; stop = e.0; by = 0 })) ≡ Some b
          → (h ≡ false) × ◌≡◌ {A = Violation} (record { route = 0; place = 0; stop = e.0; by = 0 }) b
      by true is = absurd (none_some b is)
      by false is = (refl, same_Some _ _ is)

  of_item : ℕ → ℕ × Request → List Violation
  of_item k e = option_to_list (unserved_violation routes e)

  unserved_ascending : (k : ℕ) (es : List (ℕ × Request)) → IsStrictlySortedBy nat_cmp (keys_of es)
      → AreAscending (violations_from (λ _ e. option_to_list (unserved_violation routes e)) k es)
  unfolding IsStrictlySortedBy unserved_reported
  unserved_ascending k [] up = tt
  unserved_ascending k (e ∷ es) up =
      ascending_append (option_to_list (unserved_violation routes e)) (violations_from (λ _ e. option_to_list (unserved_violation routes e)) (k + 1) es)
      (ascending_option (unserved_violation routes e)) (unserved_ascending (k + 1) es up.1)
      (λ b c first later. (
      let t = reported_to (λ _ e. option_to_list (unserved_violation routes e)) (k + 1) es c later in
      let here = (unserved_is e b (in_option _ b first)).1 in
      let there = (unserved_is t.1 c (in_option _ c t.3)).1 in
      let lt = below_less e.0 (t.1.0) (key_at (λ y. nat_cmp e.0 y ≡ Less) es t.0 t.1 up.0 t.2) in
      before e.0 (t.1.0) b c here there lt))
    where
      before : (m n : ℕ) (b c : Violation) → ◌≡◌ {A = Violation} (record { route = 0; place = 0; stop = m; by = 0 }) b
          → ◌≡◌ {A = Violation} (record { route = 0; place = 0; stop = n; by = 0 }) c → m < n → IsBefore b c
      before m n b c here there lt =
          let r = ap (λ (b : Violation). b.route) here in let r' = ap (λ (b : Violation). b.route) there in
          let i = ap (λ (b : Violation). b.place) here in let i' = ap (λ (b : Violation). b.place) there in
          let s = ap (λ (b : Violation). b.stop) here in let s' = ap (λ (b : Violation). b.stop) there in
          inr (omega arith, inr (omega arith, omega arith))

  unserved_all : IsInstance p → AreAll IsUnservedViolation (unserved_violations p routes)
  unfolding unserved_reported
  unserved_all valid = record { each = λ b. (to b, from b); ascending = unserved_ascending 0 p.requests (valid.ascending) }
    where
      to : (b : Violation) → Contains (unserved_violations p routes) b → IsUnservedViolation b
      to b c =
          let t = reported_to (λ _ e. option_to_list (unserved_violation routes e)) 0 p.requests b c in
          let is = unserved_is t.1 b (in_option _ b t.3) in
          subst IsUnservedViolation is.1 (refl, refl, (t.1.1, looked_up p.requests t.0 t.1 (valid.ascending) t.2, not_served routes t.1.1 is.0), refl)

      from : (b : Violation) → IsUnservedViolation b → Contains (unserved_violations p routes) b
      from b is =
          let request = is.2.0 in
          let at = item_of_lookup p.requests b.stop request is.2.1 in
          let reported : ◌≡◌ {A = Violation} (record { route = 0; place = 0; stop = b.stop; by = 0 }) b =
          ap (λ x. record { route = x; place = 0; stop = b.stop; by = 0 }) (sym is.0)
          ∙ ap (λ x. record { route = b.route; place = x; stop = b.stop; by = 0 }) (sym is.1)
          ∙ ap (λ x. record { route = b.route; place = b.place; stop = b.stop; by = x }) (sym is.3) in
          let here : unserved_violation routes (b.stop, request) ≡ Some b =
          ap (λ h. cond h None (Some (record { route = 0; place = 0; stop = b.stop; by = 0 }))) (not_planned routes request is.2.2) ∙ ap Some reported in
          item_in_violations (λ _ e. option_to_list (unserved_violation routes e)) 0 p.requests b at.0 (b.stop, request) at.1 (option_in _ b here)

  -- the violation of a place whose partner is in no route
  abbrev pub IsMissingViolation : Violation → Type 0
  IsMissingViolation b = IsMissing p routes b.route b.place b.stop × (b.by ≡ 0)

  partner_reported : (r i : ℕ) (other : Option ℕ) (b : Violation) → missing_violation routes (position_at r i) other ≡ Some b
      → (m : ℕ) × (other ≡ Some m) × (has_stop routes m ≡ false) × (violation_at r i m 0 ≡ b)
  partner_reported r i None b is = absurd (none_some b is)
  partner_reported r i (Some m) b is =
      let e = if_some (not (has_stop routes m)) (position_at r i) m 0 b is in
      (m, refl, not-true _ e.0, sym (counted_from_1 r i m 0) ∙ e.1)

  partners_all : AreAll IsMissingViolation (stop_violations p routes MissingStop)
  partners_all = record {
    each = λ b. (to b, from b);
    ascending = places_ascending (stop_test p routes MissingStop) routes (λ r route i n b is. (
        let e = (partner_reported r i (partner_at p n) b is).3 in
        (sym (ap (λ (b : Violation). b.route) e), sym (ap (λ (b : Violation). b.place) e))));
  }
    where
      to : (b : Violation) → Contains (stop_violations p routes MissingStop) b → IsMissingViolation b
      to b c =
          let t = places_to (stop_test p routes MissingStop) routes b c in
          let e = partner_reported t.0 t.1 (partner_at p t.2.0) b t.2.2 in
          subst IsMissingViolation e.3 ((t.2.0, t.2.1, e.1, no_seat routes e.0 e.2), refl)

      from : (b : Violation) → IsMissingViolation b → Contains (stop_violations p routes MissingStop) b
      from b is =
          let n = is.0.0 in
          let st = standing routes b.route b.place n is.0.1 in
          let r = st.0 in let i = st.1 in
          let reported : violation_at r i b.stop 0 ≡ b =
          ap (λ x. record { route = x; place = suc i; stop = b.stop; by = 0 }) (sym st.2)
          ∙ ap (λ y. record { route = b.route; place = y; stop = b.stop; by = 0 }) (sym st.3)
          ∙ ap (λ z. record { route = b.route; place = b.place; stop = b.stop; by = z }) (sym is.1) in
          let here : missing_violation routes (position_at r i) (partner_at p n) ≡ Some b =
          ap (missing_violation routes (position_at r i)) is.0.2
          ∙ ap (λ h. cond h (Some (record { route = r + 1; place = i + 1; stop = b.stop; by = 0 })) None) (not_from_false _ (has_none routes b.stop is.0.3))
          ∙ ap Some (counted_from_1 r i b.stop 0 ∙ reported) in
          places_of (stop_test p routes MissingStop) routes b r i (n, st.4, here)

  pub missing_all : IsInstance p → AreAll (IsViolation p routes MissingStop) (violations_of p routes MissingStop)
  missing_all valid =
      let first = unserved_all valid in
      let rest = partners_all in
      record {
        each = λ b. (
          λ c. elim (Contains-append_cases (unserved_violations p routes) (stop_violations p routes MissingStop) b c) [
            | inl left ↦ (let u = ((first.each) b).0 left in ((λ cost. inr ((u.0, u.1), u.2)), u.3))
            | inr right ↦ (let u = ((rest.each) b).0 right in ((λ cost. inl u.0), u.1))
          ],
          λ is. elim (is.0 0) [
            | inl u ↦ Contains-append_right (unserved_violations p routes) (stop_violations p routes MissingStop) b (((rest.each) b).1 (u, is.1))
            | inr u ↦ Contains-append_left (unserved_violations p routes) (stop_violations p routes MissingStop) b (((first.each) b).1 (u.0.0, u.0.1, u.1, is.1))
          ],
        );
        ascending = ascending_append (unserved_violations p routes) (stop_violations p routes MissingStop) (first.ascending) (rest.ascending) (λ b c here there. (
            let u = ((first.each) b).0 here in
            let v = ((rest.each) c).0 there in
            let st = standing routes c.route c.place (v.0.0) v.0.1 in
            let none = u.0 in let some = st.2 in
            inl (omega arith)));
      }
