-- Each rule on loads and times agrees with the auditor's test.
use Rattle.std.proofs.Common.{
  ◌≡◌,
  ℕ,
  zero,
  suc,
  ◌+◌,
  ◌<◌,
  Bool,
  true,
  false,
  cond,
  not,
  ◌||◌,
  nat_lt,
  int_lt,
  pos,
  ◌<ℤ◌,
  List,
  length,
  Some,
  None,
  slice_get,
  refl,
  sym,
  ap,
  subst,
  ◌∙◌,
  inl,
  inr,
  arith,
  eqb,
  add-one,
  T,
}
use Rattle.std.proofs.lemmas.Bool.{cases_lt, lt-ltb, ltb-true}
use Rattle.std.proofs.lemmas.Bool.Decides.{eqb_tells}
use Rattle.std.proofs.lemmas.Option.{same_Some}
use Rattle.plan_types.specs.Instance.{Instance}
use Rattle.plan_types.specs.declared.requests.Kind.TheVariants.{LiLim}
use Rattle.route_sched.specs.Route.{place}
use Rattle.route_sched.specs.Schedule.{start, load}
use Rattle.route_sched.specs.VisitList.{visit_after}
use Rattle.route_sched.specs.declared.visits.Visit.{Visit}
use Rattle.plan_audit.specs.Rules.{item_at, IsNotAfter, IsOverloaded, IsLate, IsLateReturn}
use Rattle.plan_audit.specs.FirstFault.{first_fault, visit_fault, is_overloaded, is_late, late_return_fault}
use Rattle.plan_audit.specs.declared.faults.PlaceFault.{PlaceFault}
use Rattle.plan_audit.specs.declared.faults.Fault.{Fault}
use Rattle.plan_audit.proofs.FirstLemmas.{none_some, fault_found, fault_nothing, least_at}
use Rattle.plan_audit.proofs.FailingPlaces.{Spot, IsTestOf, IsLeastOf}

-- if the routes and the places of a route count from 0 instead of 1, both numbers are less by 1
pub standing_in : (routes : List (List ℕ)) (route : List ℕ) (r i n : ℕ) → item_at routes r ≡ Some route → item_at route i ≡ Some n
    → (q : ℕ) × (j : ℕ) × (r ≡ suc q) × (i ≡ suc j) × (slice_get routes q ≡ Some route) × (slice_get route j ≡ Some n)
standing_in routes route zero i n at on = absurd (none_some route at)
standing_in routes route (suc r) zero n at on = absurd (none_some n on)
standing_in routes route (suc r) (suc i) n at on = (r, i, refl, refl, at, on)

-- a rule on visits and its test
module _ (p : Instance) (fails : Visit → Bool) (Fails : List ℕ → ℕ → Type 0)
    (says : (route : List ℕ) (k : ℕ) → fails (visit_after p route k) ≡ true → Fails route (suc k))
    (said : (route : List ℕ) (k : ℕ) → Fails route (suc k) → fails (visit_after p route k) ≡ true) (routes : List (List ℕ)) where
  visit_broken : ℕ → ℕ → ℕ → Type 0
  visit_broken r i n = (route : List ℕ) × (item_at routes r ≡ Some route) × (item_at route i ≡ Some n) × Fails route i

  visit_rule : IsTestOf visit_broken (λ _ route i n. visit_fault p fails route i n) routes
  unfolding visit_broken
  visit_rule = record { to = λ r i s t. to r i s t (fails (visit_after p t.0 i)) refl; from = from }
    where
      to : (r i s : ℕ) (t : Spot (λ _ route i n. visit_fault p fails route i n) routes r i s) (b : Bool) → fails (visit_after p (t.0) i) ≡ b
          → visit_broken (suc r) (suc i) s
      to r i s t false e = absurd (none_some s (let h : cond (fails (visit_after p t.0 i)) (Some t.1) None ≡ Some s = t.4 in rw e at h))
      to r i s t true e =
          let same : t.1 ≡ s = same_Some _ _ (let h : cond (fails (visit_after p t.0 i)) (Some t.1) None ≡ Some s = t.4 in rw e at h) in
          (t.0, t.2, subst (λ n. slice_get t.0 i ≡ Some n) same t.3, says t.0 i e)

      from : (r i s : ℕ) → visit_broken r i s → (q : ℕ) × (j : ℕ) × (r ≡ suc q) × (i ≡ suc j) × Spot (λ _ route i n. visit_fault p fails route i n) routes q j s
      from r i s b =
          let t = standing_in routes b.0 r i s b.1 b.2 in
          (t.0, t.1, t.2, t.3, (b.0, s, t.4, t.5, ap (λ c. cond c (Some s) None) (said b.0 t.1 (subst (λ i. Fails b.0 i) t.3 b.3))))

pub true_from : (b : Bool) → T b → b ≡ true
true_from true t = refl
true_from false t = absurd t

pub load_rule : (p : Instance) (routes : List (List ℕ)) → IsTestOf (IsOverloaded p routes) (λ _ route i n. visit_fault p (is_overloaded p) route i n) routes
unfolding visit_broken
load_rule p routes =
    visit_rule p (is_overloaded p) (λ route i. pos p.capacity <ℤ load p route i)
    (λ route k h. subst (λ i. pos p.capacity <ℤ load p route i) (add-one k) (record { lt = subst T (sym h) tt }))
    (λ route k h. subst (λ i. int_lt (pos p.capacity) (load p route i) ≡ true) (sym (add-one k))
    (true_from (int_lt (pos p.capacity) (load p route (suc k))) (h.lt))) routes

pub late_rule : (p : Instance) (routes : List (List ℕ)) → p.kind ≡ LiLim → IsTestOf (IsLate p routes) (λ _ route i n. visit_fault p is_late route i n) routes
unfolding visit_broken
late_rule p routes kind =
    let rule = visit_rule p is_late (λ route i. (place p route i).latest < start p route i)
    (λ route k h. subst (λ i. (place p route i).latest < start p route i) (add-one k) (ltb-true _ _ h))
    (λ route k h. lt-ltb _ _ (subst (λ i. (place p route i).latest < start p route i) (sym (add-one k)) h)) routes in
    record { to = λ r i s t. (kind, rule.to r i s t); from = λ r i s b. rule.from r i s b.1 }

pub positive : (n : ℕ) → eqb n 0 ≡ false → 0 < n
positive n e = elim (eqb_tells n 0) [
  | inl t ↦ absurd (let g : true ≡ false = sym t.0 ∙ e in cc)
  | inr t ↦ (let ne = t.1 in omega arith)
]

pub nonzero : (n : ℕ) → 0 < n → eqb n 0 ≡ false
nonzero n h = elim (eqb_tells n 0) [
  | inl t ↦ (let e = t.1 in absurd (omega arith))
  | inr t ↦ t.0
]

-- a late return is reported at the place after the last stop
return_facts : (p : Instance) (route : List ℕ) (t : PlaceFault) → late_return_fault p route ≡ Some t
    → (0 < length route) × (t.place ≡ length route) × (t.stop ≡ 0) × (p.depot.latest < start p route (length route + 1))
return_facts p route t is = by (eqb (length route) 0) refl (nat_lt p.depot.latest (start p route (length route + 1))) refl
  where
    tested : cond (eqb (length route) 0 || not (nat_lt p.depot.latest (start p route (length route + 1)))) None (Some (record { place = length route; stop = 0 }))
        ≡ Some t
    tested = is

    by : (a : Bool) → eqb (length route) 0 ≡ a → (b : Bool) → nat_lt p.depot.latest (start p route (length route + 1)) ≡ b
        → (0 < length route) × (t.place ≡ length route) × (t.stop ≡ 0) × (p.depot.latest < start p route (length route + 1))
    by true ea b eb = absurd (none_some t (rw ea at tested))
    by false ea false eb = absurd (none_some t (rw (ea, eb) at tested))
    by false ea true eb =
        let reported : ◌≡◌ {A = PlaceFault} (record { place = length route; stop = 0 }) t = same_Some _ _ (rw (ea, eb) at tested) in
        (positive (length route) ea, sym (ap (λ (t : PlaceFault). t.place) reported), sym (ap (λ (t : PlaceFault). t.stop) reported), ltb-true _ _ eb)

return_tells : (p : Instance) (route : List ℕ) → 0 < length route → p.depot.latest < start p route (length route + 1)
    → late_return_fault p route ≡ Some (record { place = length route; stop = 0 })
return_tells p route some late = rw (nonzero (length route) some, lt-ltb _ _ late) refl

-- the index of route r, which is less by 1 because routes count from 1
pub route_in : (routes : List (List ℕ)) (route : List ℕ) (r : ℕ) → item_at routes r ≡ Some route → (q : ℕ) × (r ≡ suc q) × (slice_get routes q ≡ Some route)
route_in routes route zero at = absurd (none_some route at)
route_in routes route (suc r) at = (r, refl, at)

pub late_return_nothing : (p : Instance) (routes : List (List ℕ)) → first_fault (λ _ route. late_return_fault p route) 0 routes ≡ None → (r i n : ℕ)
    → IsLateReturn p routes r i n → ⊥
late_return_nothing p routes is r i n b =
    let route = b.1.0 in
    let at = route_in routes route r b.1.1 in
    let late : p.depot.latest < start p route (length route + 1) = subst (λ i. p.depot.latest < start p route i) b.1.3 b.1.5 in
    none_some _ (sym (fault_nothing (λ _ route. late_return_fault p route) routes is at.0 route at.2) ∙ return_tells p route b.1.2 late)

pub late_return_found : (p : Instance) (routes : List (List ℕ)) → p.kind ≡ LiLim → (f : Fault) → first_fault (λ _ route. late_return_fault p route) 0 routes ≡ Some f
    → IsLeastOf (IsLateReturn p routes) (suc f.route) (suc f.place) f.stop
late_return_found p routes kind f is =
    let first = fault_found (λ _ route. late_return_fault p route) routes f is in
    let place = first.place in
    let index : first.index ≡ f.route = omega arith in
    let stands : slice_get routes f.route ≡ Some (first.item) = subst (λ r. slice_get routes r ≡ Some (first.item)) index (first.stands) in
    let facts = return_facts p (first.item) (record { place = f.place; stop = f.stop }) (first.reported) in
    let following : suc f.place ≡ length (first.item) + 1 = (let e = facts.1 in omega arith) in
    record {
      broken = (kind, (first.item, stands, facts.0, following, facts.2, subst (λ i. p.depot.latest < start p (first.item) i) (sym following) facts.3));
      least = λ q j m b. (
          let route = b.1.0 in
          let at = route_in routes route q b.1.1 in
          let late : p.depot.latest < start p route (length route + 1) = subst (λ i. p.depot.latest < start p route i) b.1.3 b.1.5 in
          let le =
          least_at (λ _ route. late_return_fault p route) routes (f.route, record { place = f.place; stop = f.stop }) first at.0 route
          (record { place = length route; stop = 0 }) at.2 (return_tells p route b.1.2 late) in
          elim (cases_lt f.route at.0) as (λ _. IsNotAfter (suc f.route) (suc f.place) f.stop q j m) [
            | inl lt ↦ (let e = at.1 in inl (omega arith))
            | inr ge ↦ (
                let here : f.route ≡ at.0 = omega arith in
                let same : first.item ≡ route = same_Some _ _ (sym (subst (λ r. slice_get routes r ≡ Some (first.item)) here stands) ∙ at.2) in
                let long : length (first.item) ≡ length route = ap length same in
                let e = at.1 in let j_is = b.1.3 in let m_is = b.1.4 in let stop = facts.2 in
                inr (omega arith, inr (omega arith, omega arith)))
          ]);
    }
