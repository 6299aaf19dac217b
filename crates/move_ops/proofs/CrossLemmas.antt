-- Two routes of a plan that passes exchange their ends.
use Rattle.std.proofs.Common.{◌≡◌, ℕ, zero, suc, ◌+◌, ◌-◌, ◌≤◌, ◌&&◌, not, Bool, true, false, cond, eqb}
use Rattle.std.proofs.Common.{leb, List, length, take, drop, Some, None, refl, sym, ap, subst, ◌∙◌, inl, inr, arith}
use Rattle.std.specs.List.{concat}
use Rattle.std.proofs.lemmas.Bool.{cases_Bool, and_parts, and_from, eq-eqb, leb-true}
use Rattle.std.proofs.lemmas.List.{length-set}
use Rattle.std.proofs.lemmas.List.Elements.{All-set}
use Rattle.plan_types.specs.Instance.{Instance}
use Rattle.route_sched.specs.Route.{AreDistinctStops, IsPlan}
use Rattle.plan_audit.specs.Alone.{IsFeasibleAlone}
use Rattle.plan_audit.specs.Laws.{KeepsPins}
use Rattle.plan_audit.specs.Locality.{PassingIsLocal, FeasibleAloneDecidesFeasibility}
use Rattle.plan_audit.specs.Passes.{feasible_alone, passes}
use Rattle.plan_audit.specs.Rules.{item_at}
use Rattle.move_ops.specs.Insertion.{route_of, with_route}
use Rattle.move_ops.specs.Moves.{is_cut, joined, with_ends_exchanged, crossed}
use Rattle.move_ops.proofs.OccurrenceLemmas.{times, times-append, times_split, once_from, once_few, once_known}
use Rattle.move_ops.proofs.ReplacementLemmas.{within_list, times_with, times_in_vehicle, other_vehicle, same_vehicle, pins_with, all_at, parts, passes_too}
use Rattle.move_ops.proofs.InsertionLemmas.{get_prefix}

-- the first stops of a joined route are those of its first part
prefix_joined : (one other : List ℕ) (c d k n : ℕ) → k ≤ c → item_at one k ≡ Some n → item_at (joined one c other d) k ≡ Some n
prefix_joined one other c d zero n below at = at
prefix_joined one other c d (suc j) n below at = get_prefix c one (drop d other) j n (omega arith) at

times_joined : (n : ℕ) (one other : List ℕ) (c d : ℕ) → times n (joined one c other d) + times n (joined other d one c) ≡ times n one + times n other
times_joined n one other c d =
    let e = times-append n (take c one) (drop d other) in
    let f = times-append n (take d other) (drop c one) in
    let g = times_split n c one in
    let h = times_split n d other in
    omega arith

module _ (local : PassingIsLocal) (p : Instance) (pins routes : List (List ℕ)) (good : passes p pins routes ≡ true) (a ca b cb : ℕ) (apart : b ≡ a → ⊥)
    (a_from : 1 ≤ a) (a_within : a ≤ length routes) (b_from : 1 ≤ b) (b_within : b ≤ length routes) where
  abbrev pub x : List ℕ
  x = joined (route_of routes a) ca (route_of routes b) cb

  abbrev pub y : List ℕ
  y = joined (route_of routes b) cb (route_of routes a) ca

  abbrev pub half : List (List ℕ)
  half = with_route routes a (joined (route_of routes a) ca (route_of routes b) cb)

  abbrev pub others : List (List ℕ)
  others = with_ends_exchanged routes a ca b cb

  plan : IsPlan p routes
  plan = (parts local p pins routes good).plan

  as_many : length half ≡ length routes
  as_many = length-set routes (a - 1) x

  b_in_half : b ≤ length half
  b_in_half = let e = as_many in omega arith

  -- each stop is in the plan as often as before
  pub same_times : (n : ℕ) → times n (concat others) ≡ times n (concat routes)
  same_times n =
      let e = times_with n routes a x a_from a_within in
      let f = times_with n half b y b_from b_in_half in
      let g = ap (times n) (other_vehicle routes a b x a_from apart) in
      let h = times_joined n (route_of routes a) (route_of routes b) ca cb in
      omega arith

  pub crossed_plan : IsPlan p others
  crossed_plan =
      once_from p (concat others) (λ n. let e = same_times n in let f = once_few p (concat routes) plan n in omega arith)
      (λ n some. let e = same_times n in once_known p (concat routes) plan n (omega arith))

  all_many : length others ≡ length routes
  all_many = length-set half (b - 1) y ∙ as_many

  in_plan : (z : List ℕ) (v : ℕ) → 1 ≤ v → v ≤ length routes → route_of others v ≡ z → AreDistinctStops p z
  in_plan z v from within at =
      let few = λ (n : ℕ). (let e = times_in_vehicle n others v from (let m = all_many in omega arith) in e) in
      once_from p z
      (λ n. let e = few n in let f = ap (times n) at in let g = once_few p (concat others) crossed_plan n in omega arith)
      (λ n some. let e = few n in let f = ap (times n) at in once_known p (concat others) crossed_plan n (omega arith))

  at_a : route_of others a ≡ x
  at_a = other_vehicle half b a y b_from (λ same. apart (sym same)) ∙ same_vehicle routes a x a_from a_within

  at_b : route_of others b ≡ y
  at_b = same_vehicle half b y b_from b_in_half

  pub first_once : AreDistinctStops p x
  first_once = in_plan x a a_from a_within at_a

  pub second_once : AreDistinctStops p y
  second_once = in_plan y b b_from b_within at_b

  -- the plan passes exactly when both routes are feasible alone
  module _ (a_kept : length (route_of pins a) ≤ ca) (b_kept : length (route_of pins b) ≤ cb) where
    half_pinned : KeepsPins half pins
    half_pinned = pins_with routes pins a x a_from a_within ((parts local p pins routes good).pinned)
        (λ k n pinned at. prefix_joined (route_of routes a) (route_of routes b) ca cb k n
        (let h = within_list (route_of pins a) k n pinned in omega arith) at)

    pub crossed_passes : IsFeasibleAlone p x → IsFeasibleAlone p y → passes p pins others ≡ true
    crossed_passes first second =
        passes_too local p pins routes good others crossed_plan all_many
        (All-set (IsFeasibleAlone p) half (b - 1) y second (All-set (IsFeasibleAlone p) routes (a - 1) x first ((parts local p pins routes good).feasible)))
        (pins_with half pins b y b_from b_in_half half_pinned
        (λ k n pinned at.
        prefix_joined (route_of routes b) (route_of routes a) cb ca k n (let h = within_list (route_of pins b) k n pinned in omega arith)
        (subst (λ l. item_at l k ≡ Some n) (other_vehicle routes a b x a_from apart) at)))

  feasible_at : (z : List ℕ) (v : ℕ) → 1 ≤ v → v ≤ length routes → route_of others v ≡ z → passes p pins others ≡ true → IsFeasibleAlone p z
  feasible_at z v from within at passed =
      subst (IsFeasibleAlone p) at (all_at (IsFeasibleAlone p) others v from (let m = all_many in omega arith) (((local p pins others).0 passed).feasible))

  pub first_feasible : passes p pins others ≡ true → IsFeasibleAlone p x
  first_feasible passed = feasible_at x a a_from a_within at_a passed

  pub second_feasible : passes p pins others ≡ true → IsFeasibleAlone p y
  second_feasible passed = feasible_at y b b_from b_within at_b passed

module _ (local : PassingIsLocal) (says : FeasibleAloneDecidesFeasibility) (p : Instance) (pins routes : List (List ℕ)) (good : passes p pins routes ≡ true) (a ca b cb : ℕ)
    (can : true ≡ (not (eqb a b) && (is_cut pins routes a ca && is_cut pins routes b cb))) where
  -- the conditions that the test of a cut checks
  cut_parts : (v c : ℕ) → is_cut pins routes v c ≡ true → (1 ≤ v) × (v ≤ length routes) × (length (route_of pins v) ≤ c)
  cut_parts v c t =
      let one = and_parts (leb 1 v) (leb v (length routes) && (leb (length (route_of pins v)) c && leb c (length (route_of routes v)))) t in
      let two = and_parts (leb v (length routes)) (leb (length (route_of pins v)) c && leb c (length (route_of routes v))) one.1 in
      let three = and_parts (leb (length (route_of pins v)) c) (leb c (length (route_of routes v))) two.1 in
      (leb-true 1 v one.0, leb-true v (length routes) two.0, leb-true (length (route_of pins v)) c three.0)

  both_cut : (is_cut pins routes a ca ≡ true) × (is_cut pins routes b cb ≡ true)
  both_cut =
      and_parts (is_cut pins routes a ca) (is_cut pins routes b cb)
      (and_parts (not (eqb a b)) (is_cut pins routes a ca && is_cut pins routes b cb) (sym can)).1

  differ : b ≡ a → ⊥
  differ same =
      let h : not (eqb a b) ≡ true = (and_parts (not (eqb a b)) (is_cut pins routes a ca && is_cut pins routes b cb) (sym can)).0 in
      let e : false ≡ true = rw (eq-eqb a b (sym same)) at h in
      cc

  pub of_a : (1 ≤ a) × (a ≤ length routes) × (length (route_of pins a) ≤ ca)
  of_a = cut_parts a ca both_cut.0

  pub of_b : (1 ≤ b) × (b ≤ length routes) × (length (route_of pins b) ≤ cb)
  of_b = cut_parts b cb both_cut.1

  pub first_route_once : AreDistinctStops p (joined (route_of routes a) ca (route_of routes b) cb)
  first_route_once = first_once local p pins routes good a ca b cb differ of_a.0 of_a.1 of_b.0 of_b.1

  pub second_route_once : AreDistinctStops p (joined (route_of routes b) cb (route_of routes a) ca)
  second_route_once = second_once local p pins routes good a ca b cb differ of_a.0 of_a.1 of_b.0 of_b.1

  not_both : (f s : Bool) → (f && s) ≡ false → f ≡ true → s ≡ true → ⊥
  not_both f s none first second = let h : true ≡ false = sym (and_from f s first second) ∙ none in cc

  passes_where_both : (f s : Bool) → f ≡ feasible_alone p (joined (route_of routes a) ca (route_of routes b) cb)
      → s ≡ feasible_alone p (joined (route_of routes b) cb (route_of routes a) ca)
      → passes p pins (with_ends_exchanged routes a ca b cb) ≡ (f && s)
  passes_where_both f s e g = elim (cases_Bool (f && s)) [
    | inl both ↦ (
        let t = and_parts f s both in
        crossed_passes local p pins routes good a ca b cb differ of_a.0 of_a.1 of_b.0 of_b.1 of_a.2 of_b.2
        ((says p (joined (route_of routes a) ca (route_of routes b) cb)).0 (sym e ∙ t.0))
        ((says p (joined (route_of routes b) cb (route_of routes a) ca)).0 (sym g ∙ t.1)) ∙ sym both)
    | inr none ↦ elim (cases_Bool (passes p pins (with_ends_exchanged routes a ca b cb))) [
      | inr fails ↦ fails ∙ sym none
      | inl passed ↦ absurd (not_both f s none
          (e ∙ (says p (joined (route_of routes a) ca (route_of routes b) cb)).1
          (first_feasible local p pins routes good a ca b cb differ of_a.0 of_a.1 of_b.0 of_b.1 passed))
          (g ∙ (says p (joined (route_of routes b) cb (route_of routes a) ca)).1
          (second_feasible local p pins routes good a ca b cb differ of_a.0 of_a.1 of_b.0 of_b.1 passed)))
    ]
  ]

  pub crossed_is : (f s : Bool) → f ≡ feasible_alone p (joined (route_of routes a) ca (route_of routes b) cb)
      → s ≡ feasible_alone p (joined (route_of routes b) cb (route_of routes a) ca)
      → crossed p pins routes a ca b cb ≡ cond (f && s) (Some (with_ends_exchanged routes a ca b cb)) None
  crossed_is f s e g = rw (sym can, passes_where_both f s e g) refl

  pub as_often : (n : ℕ) → times n (concat (with_ends_exchanged routes a ca b cb)) ≡ times n (concat routes)
  as_often = same_times local p pins routes good a ca b cb differ of_a.0 of_a.1 of_b.0 of_b.1
