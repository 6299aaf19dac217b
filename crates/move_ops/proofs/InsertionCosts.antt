-- The cost of a plan with a request inserted, and which of two insertions is no worse.
use Rattle.std.proofs.Common.{◌≡◌, ℕ, ◌+◌, ◌-◌, ◌<◌, ◌≤◌, ◌⊎◌, ℤ, pos, ◌+ℤ◌, ◌<ℤ◌, eqb, cond, ◌&&◌, ◌||◌}
use Rattle.std.proofs.Common.{Bool, true, false, not, List, [], length, refl, sym, ap, ◌∙◌, inl, inr, arith, nat_eq}
use Rattle.std.specs.List.{concat, list_any, count_by, sum_by}
use Rattle.std.proofs.lemmas.Bool.{and_from, or_left, or_right}
use Rattle.std.proofs.lemmas.Bool.Decides.{eqb_tells}
use Rattle.std.proofs.lemmas.Int.{ints}
use Rattle.std.proofs.lemmas.List.Sums.{sum_by-set}
use Rattle.std.proofs.lemmas.Option.{get_or_from_slice_get}
use Rattle.plan_types.specs.Cost.{cost_below, cost_at_most, CostBelowIsCorrect, CostAtMostIsCorrect}
use Rattle.plan_types.specs.Instance.{Instance}
use Rattle.plan_types.specs.declared.plans.Cost.{Cost}
use Rattle.plan_types.specs.declared.requests.Request.{Request}
use Rattle.plan_types.specs.declared.requests.Request.TheVariants.{Single, Pair}
use Rattle.plan_types.specs.declared.requests.Kind.{Kind}
use Rattle.plan_types.specs.declared.requests.Kind.TheVariants.{LiLim, Vrp}
use Rattle.route_sched.specs.Cost.{has_stop, is_planned, unplanned_count, vehicle_count, total_length}
use Rattle.route_sched.specs.Schedule.{route_length}
use Rattle.slack_tables.specs.Insertion.{inserted}
use Rattle.move_ops.specs.Insertion.{Insertion, route_of, with_route, with_request_at, cost_with, is_no_later, is_no_worse}
use Rattle.move_ops.specs.Changes.{used}
use Rattle.move_ops.specs.InsertionSearch.{opens}
use Rattle.move_ops.proofs.OccurrenceLemmas.{times}
use Rattle.move_ops.proofs.FitLemmas.{had_often, often_had}
use Rattle.move_ops.proofs.InsertionLemmas.{numbers_of, times_inserted}
use Rattle.move_ops.proofs.ReplacementLemmas.{at_vehicle, times_with}

-- ---- unplanned requests: the same number, wherever the request is inserted
pub any_same : (n : ℕ) (xs ys : List ℕ) → times n xs ≡ times n ys → list_any (nat_eq n) xs ≡ list_any (nat_eq n) ys
any_same n xs ys same = by (list_any (nat_eq n) xs) (list_any (nat_eq n) ys) refl refl
  where
    by : (a b : Bool) → list_any (nat_eq n) xs ≡ a → list_any (nat_eq n) ys ≡ b → list_any (nat_eq n) xs ≡ list_any (nat_eq n) ys
    by true true d e = d ∙ sym e
    by false false d e = d ∙ sym e
    by true false d e = absurd (let h = often_had ys n (let k = had_often xs n d in omega arith) in let m : true ≡ false = sym h ∙ e in cc)
    by false true d e = absurd (let h = often_had xs n (let k = had_often ys n e in omega arith) in let m : true ≡ false = sym h ∙ d in cc)

module _ (xs ys : List (List ℕ)) (same : (n : ℕ) → times n (concat xs) ≡ times n (concat ys)) where
  planned_same : (q : Request) → is_planned xs q ≡ is_planned ys q
  planned_same (Single s) = ap (λ b. b || false) (any_same s.number (concat xs) (concat ys) (same s.number))
  planned_same (Pair a b) =
      ap (λ h. h || (has_stop xs b.number || false)) (any_same a.number (concat xs) (concat ys) (same a.number))
      ∙ ap (λ h. has_stop ys a.number || (h || false)) (any_same b.number (concat xs) (concat ys) (same b.number))

  pub unplanned_same : (p : Instance) → unplanned_count p xs ≡ unplanned_count p ys
  unplanned_same p =
      let each : (λ (q : Request). is_planned xs q) ≡ (λ (q : Request). is_planned ys q) = λ i q. planned_same q i in
      ap (λ (f : Request → Bool). count_by (λ e. not (f e.1)) p.requests) each

module _ (p : Instance) (routes : List (List ℕ)) (r : Request) where
  -- the plan with the request has each number as often, wherever it is inserted
  pub often_with : (x : Insertion) → 1 ≤ x.0 → x.0 ≤ length routes → (n : ℕ)
      → times n (concat (with_request_at routes r x)) ≡ times n (concat routes) + times n (numbers_of r)
  often_with x from within n =
      let e = times_with n routes x.0 (inserted r x.1 x.2 (route_of routes x.0)) from within in
      let f = times_inserted n r x.1 x.2 (route_of routes x.0) in
      omega arith

  unplanned_with : (x y : Insertion) → 1 ≤ x.0 → x.0 ≤ length routes → 1 ≤ y.0 → y.0 ≤ length routes
      → (cost_with p routes r x).unplanned ≡ (cost_with p routes r y).unplanned
  unplanned_with x y from within low high =
      unplanned_same (with_request_at routes r x) (with_request_at routes r y) (λ n. often_with x from within n ∙ sym (often_with y low high n)) p

-- ---- vehicles and distance
pub replaced : (f : List ℕ → ℕ) (routes : List (List ℕ)) (v : ℕ) (new : List ℕ) → 1 ≤ v → v ≤ length routes
    → sum_by f (with_route routes v new) + f (route_of routes v) ≡ sum_by f routes + f new
replaced f routes v new from within =
    let here = ap f (get_or_from_slice_get routes (v - 1) (route_of routes v) [] (at_vehicle routes v from within)) in
    let e = sum_by-set f routes (v - 1) new [] (omega arith) in
    omega arith

used_or : (b : Bool) → cond (not b) 1 0 + cond b 1 0 ≡ 1
used_or true = refl
used_or false = refl

pub used_some : (new : List ℕ) → (length new ≡ 0 → ⊥) → used new ≡ 1
used_some new some = elim (eqb_tells (length new) 0) [
  | inl t ↦ absurd (some t.1)
  | inr t ↦ rw t.0 refl
]

vehicle_count_with : (kind : Kind) (routes : List (List ℕ)) (v : ℕ) (new : List ℕ) → 1 ≤ v → v ≤ length routes → (length new ≡ 0 → ⊥)
    → vehicle_count kind (with_route routes v new) ≡ vehicle_count kind routes + cond (opens kind (route_of routes v)) 1 0
vehicle_count_with Vrp routes v new from within some = refl
vehicle_count_with LiLim routes v new from within some =
    let e = replaced used routes v new from within in
    let f = used_or (eqb (length (route_of routes v)) 0) in
    let g = used_some new some in
    omega arith

-- ---- the order of insertions
pub same_cost : (a b : Cost) → a.unplanned ≡ b.unplanned → a.vehicles ≡ b.vehicles → a.distance ≡ b.distance → a ≡ b
same_cost a b e f g = λ i. record { unplanned = e i; vehicles = f i; distance = g i }

module _ (p : Instance) (routes : List (List ℕ)) (r : Request) where
  abbrev pub new_route : Insertion → List ℕ
  new_route x = inserted r x.1 x.2 (route_of routes x.0)

  -- the parts of the cost with the request inserted at place x that differ between insertions: whether it opens
  -- a vehicle, and the added distance
  pub record IsPriced (x : Insertion) (o : Bool) (d : ℤ) : Type 0 where
    pub from : 1 ≤ x.0
    pub within : x.0 ≤ length routes
    pub some : length (new_route x) ≡ 0 → ⊥
    pub opens : opens p.kind (route_of routes x.0) ≡ o
    pub added : pos (route_length p (new_route x)) ≡ pos (route_length p (route_of routes x.0)) +ℤ d

  -- insertion x is no worse than y: it opens fewer vehicles; or equally many, and it adds less distance; or
  -- both are equal, and its place is no later
  abbrev pub Ahead : Insertion → Bool → ℤ → Insertion → Bool → ℤ → Type 0
  Ahead x a d y b e = ((a ≡ false) × (b ≡ true)) ⊎ ((a ≡ b) × ((d <ℤ e) ⊎ ((d ≡ e) × (is_no_later x y ≡ true))))

  pub distance_with : (x : Insertion) (o : Bool) (d : ℤ) → IsPriced x o d → pos (cost_with p routes r x).distance ≡ pos (total_length p routes) +ℤ d
  distance_with x o d is =
      let e = replaced (route_length p) routes x.0 (new_route x) (is.from) (is.within) in
      omega (arith, ints)

  pub used_with : (x : Insertion) (o : Bool) (d : ℤ) → IsPriced x o d → (cost_with p routes r x).vehicles ≡ vehicle_count p.kind routes + cond o 1 0
  used_with x o d is =
      vehicle_count_with p.kind routes x.0 (new_route x) (is.from) (is.within) (is.some)
      ∙ ap (λ (b : Bool). vehicle_count p.kind routes + cond b 1 0) (is.opens)

  module _ (below : CostBelowIsCorrect) (at_most : CostAtMostIsCorrect) where
    pub no_worse : (x y : Insertion) (a b : Bool) (d e : ℤ) → IsPriced x a d → IsPriced y b e → Ahead x a d y b e → is_no_worse p routes r x y ≡ true
    no_worse x y a b d e one two ahead = elim ahead [
      | inl opened ↦ or_left (cost_below (cost_with p routes r x) (cost_with p routes r y))
          (cost_at_most (cost_with p routes r x) (cost_with p routes r y) && is_no_later x y)
          ((below (cost_with p routes r x) (cost_with p routes r y)).1 (inr (left_out, inl (fewer opened.0 opened.1))))
      | inr alike ↦ elim alike.1 [
        | inl less ↦ or_left (cost_below (cost_with p routes r x) (cost_with p routes r y))
            (cost_at_most (cost_with p routes r x) (cost_with p routes r y) && is_no_later x y)
            ((below (cost_with p routes r x) (cost_with p routes r y)).1 (inr (left_out, inr (as_many alike.0, nearer less))))
        | inr same ↦ or_right (cost_below (cost_with p routes r x) (cost_with p routes r y))
            (cost_at_most (cost_with p routes r x) (cost_with p routes r y) && is_no_later x y)
            (and_from (cost_at_most (cost_with p routes r x) (cost_with p routes r y)) (is_no_later x y)
            ((at_most (cost_with p routes r x) (cost_with p routes r y)).1
            (inr (same_cost (cost_with p routes r x) (cost_with p routes r y) left_out (as_many alike.0) (as_far same.0)))) same.1)
      ]
    ]
      where
        left_out : (cost_with p routes r x).unplanned ≡ (cost_with p routes r y).unplanned
        left_out = unplanned_with p routes r x y (one.from) (one.within) (two.from) (two.within)

        fewer : a ≡ false → b ≡ true → (cost_with p routes r x).vehicles < (cost_with p routes r y).vehicles
        fewer none some =
            let f = used_with x a d one ∙ ap (λ (o : Bool). vehicle_count p.kind routes + cond o 1 0) none in
            let g = used_with y b e two ∙ ap (λ (o : Bool). vehicle_count p.kind routes + cond o 1 0) some in
            omega arith

        as_many : a ≡ b → (cost_with p routes r x).vehicles ≡ (cost_with p routes r y).vehicles
        as_many same = used_with x a d one ∙ (ap (λ (o : Bool). vehicle_count p.kind routes + cond o 1 0) same ∙ sym (used_with y b e two))

        nearer : d <ℤ e → (cost_with p routes r x).distance < (cost_with p routes r y).distance
        nearer less = let f = distance_with x a d one in let g = distance_with y b e two in omega (arith, ints)

        as_far : d ≡ e → (cost_with p routes r x).distance ≡ (cost_with p routes r y).distance
        as_far same = let f = distance_with x a d one in let g = distance_with y b e two in omega (arith, ints)
