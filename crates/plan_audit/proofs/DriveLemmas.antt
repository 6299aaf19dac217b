-- One pass along each route: its distance, and that it keeps the rules on loads and times.
use Rattle.std.proofs.Common.{◌≡◌, ℕ, suc, ◌+◌, ◌-◌, ◌<◌, ◌≤◌, true, false, List, [], ◌∷◌, map, length, get_or, slice_get, Some, int_lt, pos, refl, sym, ap, subst, ◌∙◌, arith, add-one, T}
use Rattle.std.specs.List.{AllByRecursion, range_with_len, sum_by}
use Rattle.std.proofs.lemmas.Bool.{lt-ltb, false≢true, or_parts}
use Rattle.std.proofs.lemmas.List.Elements.{All-from_recursion}
use Rattle.std.proofs.lemmas.List.Sums.{sum_by-cons, sum-map}
use Rattle.std.proofs.lemmas.Option.{slice_get_within, get_or_from_slice_get}
use Rattle.plan_types.specs.Instance.{Instance}
use Rattle.plan_types.specs.declared.requests.Kind.{Kind}
use Rattle.plan_types.specs.declared.requests.Kind.TheVariants.{LiLim}
use Rattle.plan_types.specs.declared.requests.Stop.{Stop}
use Rattle.route_sched.specs.Route.{place}
use Rattle.route_sched.specs.Schedule.{leg, start, load, route_length}
use Rattle.route_sched.specs.VisitList.{visits_from, visit_after}
use Rattle.route_sched.specs.declared.visits.Visit.{Visit}
use Rattle.route_sched.proofs.KnownStops.{place-return}
use Rattle.plan_audit.specs.Rules.{IsOverloaded, IsLate, IsLateReturn}
use Rattle.plan_audit.specs.FirstFault.{is_overloaded, breaks_window, breaks_limits, KeepsLimits}
use Rattle.plan_audit.specs.Verdict.{Subject, routes_of, KeepsRules}
use Rattle.plan_audit.specs.declared.rules.Rule.TheVariants.{Load, Late, LateReturn}
use Rattle.plan_audit.proofs.LocalLemmas.{all_items}
use Rattle.plan_audit.proofs.StepLemmas.{none_of}
use Rattle.plan_audit.proofs.TimeLemmas.{standing_in, route_in, true_from}
use Rattle.plan_audit.proofs.VerdictLemmas.{keeps_none, keeps_more, keeps_rules}
use Rattle.plan_audit.proofs.VisitLemmas.{nth-range}

-- the sum of the legs of these visits
abbrev pub legs : List Visit → ℕ
legs vs = sum_by (λ (v : Visit). v.leg) vs

sum_by-map : {X Y : Type 0} (f : Y → ℕ) (g : X → Y) (xs : List X) → sum_by f (map g xs) ≡ sum_by (λ x. f (g x)) xs
sum_by-map f g [] = refl
sum_by-map f g (x ∷ xs) = omega (arith, sum_by-cons f (g x) (map g xs), sum_by-cons (λ x. f (g x)) x xs, sum_by-map f g xs)

-- the sum of the legs of all visits is the route's length
pub legs_of_route : (p : Instance) (route : List ℕ) → legs (visits_from p route 0) ≡ route_length p route
unfolding route_length
legs_of_route p route =
    let all : length route + 1 - 0 ≡ length route + 1 = omega arith in
    sum_by-map (λ (v : Visit). v.leg) (visit_after p route) (range_with_len 0 (length route + 1 - 0))
    ∙ ap (λ n. sum_by (leg p route) (range_with_len 0 n)) all
    ∙ sym (sum-map (leg p route) (range_with_len 0 (length route + 1)))

-- if all visits keep the limits, so does the route
pub kept_visits : (p : Instance) (route : List ℕ) (visits : List Visit) → visits ≡ visits_from p route 0
    → AllByRecursion (λ v. breaks_limits p v ≡ false) visits → KeepsLimits p route
unfolding KeepsLimits
kept_visits p route visits all kept some = subst (AllByRecursion (λ v. breaks_limits p v ≡ false)) all kept

-- an empty route keeps the limits, and its distance is 0
pub kept_idle : (p : Instance) (route : List ℕ) → length route ≡ 0 → KeepsLimits p route
unfolding KeepsLimits
kept_idle p route none some = absurd (omega arith)

-- the limits that hold after place k of a route that keeps the limits
module _ (p : Instance) (route : List ℕ) (kept : KeepsLimits p route) (some : 0 < length route) (k : ℕ) (le : k ≤ length route) where
  limits_at : breaks_limits p (visit_after p route k) ≡ false
  unfolding KeepsLimits
  limits_at =
      let at : slice_get (visits_from p route 0) k ≡ Some (visit_after p route k) =
      nth-range (visit_after p route) 0 (length route + 1 - 0) k (omega arith)
      ∙ ap (λ i. Some (visit_after p route i)) (let e : 0 + k ≡ k = omega arith in e) in
      all_items (λ v. breaks_limits p v ≡ false) (visits_from p route 0)
      (All-from_recursion (λ v. breaks_limits p v ≡ false) (visits_from p route 0) (kept some)) (suc k) (visit_after p route k) at

  light : int_lt (pos p.capacity) (load p route (k + 1)) ≡ true → ⊥
  light heavy = false≢true (sym (or_parts (is_overloaded p (visit_after p route k)) _ limits_at).0 ∙ heavy)

  in_time : p.kind ≡ LiLim → (place p route (k + 1)).latest < start p route (k + 1) → ⊥
  in_time kind late =
      let is =
      subst (λ (kind : Kind). breaks_window kind (visit_after p route k) ≡ false) kind
      (or_parts (is_overloaded p (visit_after p route k)) (breaks_window p.kind (visit_after p route k)) limits_at).1 in
      false≢true (sym is ∙ lt-ltb (place p route (k + 1)).latest (start p route (k + 1)) late)

-- routes that keep the limits also keep the rules on loads and times
module _ (p : Instance) (routes : List (List ℕ)) (each : (k : ℕ) → k < length routes → KeepsLimits p (get_or routes k [])) where
  kept_at : (q : ℕ) (route : List ℕ) → slice_get routes q ≡ Some route → KeepsLimits p route
  kept_at q route at = subst (KeepsLimits p) (get_or_from_slice_get routes q route [] at) (each q (slice_get_within routes q route at))

  none_heavy : (r i n : ℕ) → IsOverloaded p routes r i n → ⊥
  none_heavy r i n b =
      let t = standing_in routes b.0 r i n b.1 b.2 in
      let within = slice_get_within b.0 t.1 n t.5 in
      let following : i ≡ t.1 + 1 = t.3 ∙ sym (add-one t.1) in
      light p b.0 (kept_at t.0 b.0 t.4) (omega arith) t.1 (omega arith) (true_from _ (subst (λ i. T (int_lt (pos p.capacity) (load p b.0 i))) following (b.3.lt)))

  none_late : (r i n : ℕ) → IsLate p routes r i n → ⊥
  none_late r i n b =
      let route = b.1.0 in
      let t = standing_in routes route r i n b.1.1 b.1.2 in
      let within = slice_get_within route t.1 n t.5 in
      let following : i ≡ t.1 + 1 = t.3 ∙ sym (add-one t.1) in
      in_time p route (kept_at t.0 route t.4) (omega arith) t.1 (omega arith) b.0 (subst (λ i. (place p route i).latest < start p route i) following b.1.3)

  none_back_late : (r i n : ℕ) → IsLateReturn p routes r i n → ⊥
  none_back_late r i n b =
      let route = b.1.0 in
      let t = route_in routes route r b.1.1 in
      let late : p.depot.latest < start p route (length route + 1) = subst (λ i. p.depot.latest < start p route i) b.1.3 b.1.5 in
      in_time p route (kept_at t.0 route t.2) b.1.2 (length route) (omega arith) b.0
      (subst (λ (s : Stop). s.latest < start p route (length route + 1)) (sym (place-return p route (length route) (omega arith))) late)

  pub driven : (s : Subject) → routes_of s ≡ routes → KeepsRules 6 8 p s
  driven s is =
      keeps_rules p s 6 8
      (keeps_more p s 6 LateReturn
      (keeps_more p s 6 Late
      (keeps_more p s 6 Load (keeps_none p s 6) (none_of s routes is (IsOverloaded p) none_heavy))
      (none_of s routes is (IsLate p) none_late))
      (none_of s routes is (IsLateReturn p) none_back_late))
