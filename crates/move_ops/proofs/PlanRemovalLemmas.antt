-- Requests removed from a plan that passes.
use Rattle.std.proofs.Common.{◌≡◌, ℕ, zero, suc, ◌≤◌, not, Bool, true, false, cond, eqb, List, [], ◌∷◌}
use Rattle.std.proofs.Common.{All, map, filter, Option, Some, None, slice_get, refl, sym, ap, subst, ◌∙◌, inl, inr, arith}
use Rattle.std.specs.List.{list_all, concat}
use Rattle.std.specs.Option.{option_map, option_map_or, option_or}
use Rattle.std.proofs.lemmas.Bool.{cases_Bool, and_parts, or_cases, eqb-true, not-true}
use Rattle.std.proofs.lemmas.Bool.Decides.{eqb_tells}
use Rattle.std.proofs.lemmas.List.{length-map}
use Rattle.plan_types.specs.Instance.{Instance, IsInstance, first_some, request_with}
use Rattle.plan_types.specs.Laws.{RequestsAreStoredByName}
use Rattle.plan_types.specs.Request.{request_name, stop_in}
use Rattle.plan_types.specs.declared.requests.Request.{Request}
use Rattle.plan_types.specs.declared.requests.Request.TheVariants.{Single, Pair}
use Rattle.route_sched.specs.Cost.{is_planned}
use Rattle.route_sched.specs.Route.{AreDistinctStops, IsPlan}
use Rattle.plan_audit.specs.Laws.{KeepsPins}
use Rattle.plan_audit.specs.Locality.{PassingIsLocal, PlansAreDisjointRoutes, FeasibleAloneDecidesFeasibility}
use Rattle.plan_audit.specs.Passes.{has, feasible_alone, passes}
use Rattle.move_ops.specs.Moves.{is_movable, is_movable_name, is_of_named, without_named, removed}
use Rattle.move_ops.proofs.OccurrenceLemmas.{none_some, some_same, times, one_here, times-append, once_from, once_few, once_known}
use Rattle.move_ops.proofs.ReplacementLemmas.{parts}
use Rattle.move_ops.proofs.InsertionLemmas.{numbers_of, nowhere}
use Rattle.move_ops.proofs.PlanChangeLemmas.{passes_where_feasible, each_once, pins_map}

-- a number occurs no more often among those that are kept
pub times_kept : (n : ℕ) (keep : ℕ → Bool) (xs : List ℕ) → times n (filter keep xs) ≤ times n xs
times_kept n keep [] = omega arith
times_kept n keep (x ∷ xs) = elim (cases_Bool (keep x)) [
  | inl t ↦ rw t (let h = times_kept n keep xs in omega arith)
  | inr f ↦ rw f (let h = times_kept n keep xs in omega arith)
]

times_left : (n : ℕ) (keep : ℕ → Bool) (routes : List (List ℕ)) → times n (concat (map (filter keep) routes)) ≤ times n (concat routes)
times_left n keep [] = omega arith
times_left n keep (route ∷ routes) =
    let e = times-append n (filter keep route) (concat (map (filter keep) routes)) in
    let f = times-append n route (concat routes) in
    let g = times_kept n keep route in
    let h = times_left n keep routes in
    omega arith

-- a prefix that is kept stays a prefix
prefix_kept : (keep : ℕ → Bool) (pin route : List ℕ) → ((k n : ℕ) → slice_get pin k ≡ Some n → slice_get route k ≡ Some n)
    → ((k n : ℕ) → slice_get pin k ≡ Some n → keep n ≡ true)
    → (k n : ℕ) → slice_get pin k ≡ Some n → slice_get (filter keep route) k ≡ Some n
prefix_kept keep [] route same all k n at = absurd (none_some n at)
prefix_kept keep (x ∷ pin) [] same all k n at = absurd (none_some x (same zero x refl))
prefix_kept keep (x ∷ pin) (y ∷ route) same all zero n at =
    let e : y ≡ n = some_same y n (same zero n at) in
    let t : keep y ≡ true = ap keep e ∙ all zero n at in
    rw t (ap Some e)
prefix_kept keep (x ∷ pin) (y ∷ route) same all (suc k) n at =
    let e : y ≡ x = some_same y x (same zero x refl) in
    let t : keep y ≡ true = ap keep e ∙ all zero x refl in
    rw t (prefix_kept keep pin route (λ j m. same (suc j) m) (λ j m. all (suc j) m) k n at)

-- a test of all names holds for each name
test_of : (test : ℕ → Bool) (names : List ℕ) (m : ℕ) → list_all test names ≡ true → has names m ≡ true → test m ≡ true
test_of test [] m all in_it = absurd (let h : false ≡ true = in_it in cc)
test_of test (x ∷ xs) m all in_it =
    let both = and_parts (test x) (list_all test xs) all in
    elim (or_cases (eqb m x) (has xs m) in_it) [
      | inl here ↦ ap test (eqb-true m x here) ∙ both.0
      | inr there ↦ test_of test xs m both.1 there
    ]

-- the request found at a number has a stop with this number
module _ (n : ℕ) (r : Request) where
  found_in : (q : Request) (rest : Option Request) → (rest ≡ Some r → 1 ≤ times n (numbers_of r))
      → option_or (option_map (λ _. q) (stop_in n q)) rest ≡ Some r → 1 ≤ times n (numbers_of r)
  found_in (Single s) rest further h = elim (eqb_tells s.number n) [
    | inl t ↦ (let same : Single s ≡ r = some_same (Single s) r (rw t.0 at h) in
        let e = one_here n s.number (sym t.1) in
        subst (λ x. 1 ≤ times n (numbers_of x)) same (omega arith))
    | inr t ↦ further (rw t.0 at h)
  ]
  found_in (Pair a b) rest further h = elim (eqb_tells a.number n) [
    | inl t ↦ (let same : Pair a b ≡ r = some_same (Pair a b) r (rw t.0 at h) in
        let e = one_here n a.number (sym t.1) in
        subst (λ x. 1 ≤ times n (numbers_of x)) same (omega arith))
    | inr t ↦ elim (eqb_tells b.number n) [
      | inl u ↦ (let same : Pair a b ≡ r = some_same (Pair a b) r (rw (t.0, u.0) at h) in
          let e = one_here n b.number (sym u.1) in
          subst (λ x. 1 ≤ times n (numbers_of x)) same (omega arith))
      | inr u ↦ further (rw (t.0, u.0) at h)
    ]
  ]

  pub found_has : (es : List (ℕ × Request)) → first_some (λ q. option_map (λ _. q) (stop_in n q)) es ≡ Some r → 1 ≤ times n (numbers_of r)
  found_has [] at = absurd (none_some r at)
  found_has (e ∷ es) at = found_in e.1 (first_some (λ q. option_map (λ _. q) (stop_in n q)) es) (found_has es) at

-- no stop of a movable request is pinned
pub unpinned : (pins routes : List (List ℕ)) (r : Request) → is_movable pins routes r ≡ true → (n : ℕ) → 1 ≤ times n (concat pins) → times n (numbers_of r) ≡ 0
unpinned pins routes r movable n pinned = elim (eqb_tells (times n (numbers_of r)) 0) [
  | inl t ↦ t.1
  | inr t ↦ (
      let free = not-true (is_planned pins r) (and_parts (is_planned routes r) (not (is_planned pins r)) movable).1 in
      let h = nowhere pins r free n (omega arith) in
      absurd (omega arith))
]

module _ (by_name : RequestsAreStoredByName) (p : Instance) (pins routes : List (List ℕ)) (valid : IsInstance p) (names : List ℕ)
    (movable : list_all (is_movable_name p pins routes) names ≡ true) where
  -- a pinned stop is kept
  pinned_kept : (n : ℕ) → 1 ≤ times n (concat pins) → not (is_of_named p names n) ≡ true
  pinned_kept n pinned = by (request_with p n) refl
    where
      by : (o : Option Request) → request_with p n ≡ o → not (option_map_or (has names) (option_map request_name o) false) ≡ true
      by None e = refl
      by (Some r) e = elim (cases_Bool (has names (request_name r))) [
        | inr away ↦ rw away refl
        | inl named ↦ absurd (
            let one = test_of (is_movable_name p pins routes) names (request_name r) movable named in
            let two : is_movable pins routes r ≡ true = sym (ap (λ o. option_map_or (is_movable pins routes) o false) (by_name p n r valid e)) ∙ one in
            let three = unpinned pins routes r two n pinned in
            let four = found_has n r p.requests e in
            omega arith)
      ]

module _ (by_name : RequestsAreStoredByName) (local : PassingIsLocal) (plans : PlansAreDisjointRoutes) (says : FeasibleAloneDecidesFeasibility) (p : Instance)
    (pins routes : List (List ℕ)) (valid : IsInstance p)
    (good : passes p pins routes ≡ true) (names : List ℕ) (movable : list_all (is_movable_name p pins routes) names ≡ true) where
  pub left_plan : IsPlan p (without_named p names routes)
  left_plan =
      once_from p (concat (without_named p names routes))
      (λ n. let e = times_left n (λ m. not (is_of_named p names m)) routes in
      let f = once_few p (concat routes) ((parts local p pins routes good).plan) n in
      omega arith)
      (λ n some. let e = times_left n (λ m. not (is_of_named p names m)) routes in
      once_known p (concat routes) ((parts local p pins routes good).plan) n (omega arith))

  pub left_pinned : KeepsPins (without_named p names routes) pins
  left_pinned =
      pins_map (filter (λ m. not (is_of_named p names m))) routes pins ((parts local p pins routes good).pinned)
      (λ pin route same pinned. prefix_kept (λ m. not (is_of_named p names m)) pin route same
      (λ k n at. pinned_kept by_name p pins routes valid names movable n (pinned k n at)))

  pub left_once : All (AreDistinctStops p) (without_named p names routes)
  left_once = each_once plans p (without_named p names routes) left_plan

  pub removed_is : (b : Bool) → b ≡ list_all (feasible_alone p) (without_named p names routes)
      → removed p pins routes names ≡ cond b (Some (without_named p names routes)) None
  removed_is b e =
      rw (
        movable,
        passes_where_feasible local says p pins routes good (without_named p names routes) left_plan
            (length-map routes (filter (λ m. not (is_of_named p names m)))) left_pinned b e,
      ) refl
