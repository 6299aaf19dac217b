-- The first place of a plan at which a test of places answers.
use Rattle.std.proofs.Common.{◌≡◌, ℕ, suc, ◌≤◌, List, Option, Some, None, slice_get, refl, sym, subst, ◌∙◌, inl, inr, arith}
use Rattle.std.proofs.lemmas.Bool.{cases_lt}
use Rattle.std.proofs.lemmas.Option.{same_Some}
use Rattle.plan_audit.specs.Rules.{IsNotAfter}
use Rattle.plan_audit.specs.FirstFault.{first_place_fault, first_fault, place_fault_by}
use Rattle.plan_audit.specs.declared.faults.PlaceFault.{PlaceFault}
use Rattle.plan_audit.specs.declared.faults.Fault.{Fault}
use Rattle.plan_audit.proofs.FirstLemmas.{none_some, IsFirst, least_at, fault_found, reported_found, fault_nothing, reported_nothing}

-- the test answers s at place i of route r; both count from 0
abbrev pub Spot : (ℕ → List ℕ → ℕ → ℕ → Option ℕ) → List (List ℕ) → ℕ → ℕ → ℕ → Type 0
Spot test routes r i s = (route : List ℕ) × (m : ℕ) × (slice_get routes r ≡ Some route) × (slice_get route i ≡ Some m) × (test r route i m ≡ Some s)

module _ (test : ℕ → List ℕ → ℕ → ℕ → Option ℕ) (routes : List (List ℕ)) where
  pub spot_nothing : first_fault (place_fault_by test) 0 routes ≡ None → (r i s : ℕ) → Spot test routes r i s → ⊥
  spot_nothing is r i s t =
      let here = reported_nothing (test r t.0) t.0 (fault_nothing (place_fault_by test) routes is r t.0 t.2) i t.1 t.3 in
      none_some s (sym here ∙ t.4)

  -- if the test answers at a place, the route has a first answer
  reported_somewhere : (r i s : ℕ) (t : Spot test routes r i s) → first_place_fault (test r (t.0)) 0 (t.0) ≡ None → ⊥
  reported_somewhere r i s t none = none_some s (sym (reported_nothing (test r t.0) t.0 none i t.1 t.3) ∙ t.4)

  pub spot_found : (f : Fault) → first_fault (place_fault_by test) 0 routes ≡ Some f
      → Spot test routes f.route f.place f.stop × ((r i s : ℕ) → Spot test routes r i s → IsNotAfter f.route f.place f.stop r i s)
  spot_found f is =
      let first = fault_found (place_fault_by test) routes f is in
      let at = first.place in
      let index : first.index ≡ f.route = omega arith in
      let reported = reported_found (test f.route (first.item)) (first.item) (record { place = f.place; stop = f.stop }) (first.reported) in
      let at' = reported.place in
      let index' : reported.index ≡ f.place = omega arith in
      let stands : slice_get routes f.route ≡ Some (first.item) = subst (λ r. slice_get routes r ≡ Some (first.item)) index (first.stands) in
      let stands' : slice_get (first.item) f.place ≡ Some (reported.item) = subst (λ i. slice_get (first.item) i ≡ Some (reported.item)) index' (reported.stands) in (
        (first.item, reported.item, stands, stands', reported.reported),
        λ r i s t. least first reported index index' stands stands' r i s t (first_place_fault (test r t.0) 0 t.0) refl,
      )
    where
      least : (first : IsFirst (place_fault_by test) 0 routes (f.route, record { place = f.place; stop = f.stop }))
          (reported : IsFirst (test f.route (first.item)) 0 (first.item) (f.place, f.stop))
          → first.index ≡ f.route → reported.index ≡ f.place
          → slice_get routes f.route ≡ Some (first.item) → slice_get (first.item) f.place ≡ Some (reported.item)
          → (r i s : ℕ) (t : Spot test routes r i s) (o : Option PlaceFault) → first_place_fault (test r t.0) 0 t.0 ≡ o → IsNotAfter f.route f.place f.stop r i s
      least first reported index index' stands stands' r i s t None e = absurd (reported_somewhere r i s t e)
      least first reported index index' stands stands' r i s t (Some u) e =
          let le = least_at (place_fault_by test) routes (f.route, record { place = f.place; stop = f.stop }) first r t.0 u t.2 e in
          elim (cases_lt f.route r) [
            | inl lt ↦ inl lt
            | inr ge ↦ (
                let here : f.route ≡ r = omega arith in
                let same : first.item ≡ t.0 = same_Some _ _ (sym (subst (λ q. slice_get routes q ≡ Some (first.item)) here stands) ∙ t.2) in
                let on : slice_get (first.item) i ≡ Some t.1 = subst (λ (q : List ℕ). slice_get q i ≡ Some t.1) (sym same) t.3 in
                let says : test f.route (first.item) i t.1 ≡ Some s =
                subst (λ q. test q (first.item) i t.1 ≡ Some s) (sym here) (subst (λ (q : List ℕ). test r q i t.1 ≡ Some s) (sym same) t.4) in
                let le' = least_at (test f.route (first.item)) (first.item) (f.place, f.stop) reported i t.1 s on says in
                elim (cases_lt f.place i) as (λ _. IsNotAfter f.route f.place f.stop r i s) [
                  | inl lt ↦ inr (here, inl lt)
                  | inr ge' ↦ (
                      let here' : f.place ≡ i = omega arith in
                      let same' : reported.item ≡ t.1 = same_Some _ _ (sym (subst (λ q. slice_get (first.item) q ≡ Some (reported.item)) here' stands') ∙ on) in
                      let says' : test f.route (first.item) f.place (reported.item) ≡ Some s =
                      subst (λ q. test f.route (first.item) q (reported.item) ≡ Some s) (sym here')
                      (subst (λ q. test f.route (first.item) i q ≡ Some s) (sym same') says) in
                      let stop : f.stop ≡ s = same_Some _ _ (sym (reported.reported) ∙ says') in
                      let le : f.stop ≤ s = omega arith in
                      inr (here, inr (here', le)))
                ])
          ]

-- the rule is broken at (r, i, n), and nowhere earlier
pub record IsLeastOf (B : ℕ → ℕ → ℕ → Type 0) (r i n : ℕ) : Type 0 where
  pub broken : B r i n
  pub least : (q j m : ℕ) → B q j m → IsNotAfter r i n q j m

-- the rule holds at exactly the places at which the test answers, counted from 1
pub record IsTestOf (B : ℕ → ℕ → ℕ → Type 0) (test : ℕ → List ℕ → ℕ → ℕ → Option ℕ) (routes : List (List ℕ)) : Type 0 where
  pub to : (r i s : ℕ) → Spot test routes r i s → B (suc r) (suc i) s
  pub from : (r i s : ℕ) → B r i s → (q : ℕ) × (j : ℕ) × (r ≡ suc q) × (i ≡ suc j) × Spot test routes q j s

pub rule_nothing : (B : ℕ → ℕ → ℕ → Type 0) (test : ℕ → List ℕ → ℕ → ℕ → Option ℕ) (routes : List (List ℕ)) → IsTestOf B test routes
    → first_fault (place_fault_by test) 0 routes ≡ None → (r i s : ℕ) → B r i s → ⊥
rule_nothing B test routes rule is r i s b = let t = rule.from r i s b in spot_nothing test routes is t.0 t.1 s t.4

pub rule_found : (B : ℕ → ℕ → ℕ → Type 0) (test : ℕ → List ℕ → ℕ → ℕ → Option ℕ) (routes : List (List ℕ)) → IsTestOf B test routes → (f : Fault)
    → first_fault (place_fault_by test) 0 routes ≡ Some f → IsLeastOf B (suc f.route) (suc f.place) f.stop
rule_found B test routes rule f is =
    let found = spot_found test routes f is in
    record {
      broken = rule.to f.route f.place f.stop found.0;
      least = λ q j m b. (let t = rule.from q j m b in
          let le : IsNotAfter f.route f.place f.stop t.0 t.1 m = found.1 t.0 t.1 m t.4 in
          shift f.route f.place f.stop t.0 t.1 m q j t.2 t.3 le);
    }
  where
    shift : (r i n q' j' m q j : ℕ) → q ≡ suc q' → j ≡ suc j' → IsNotAfter r i n q' j' m → IsNotAfter (suc r) (suc i) n q j m
    shift r i n q' j' m q j eq ej (inl lt) = inl (omega arith)
    shift r i n q' j' m q j eq ej (inr (e, inl lt)) = inr (omega arith, inl (omega arith))
    shift r i n q' j' m q j eq ej (inr (e, inr (f, le))) = inr (omega arith, inr (omega arith, le))
