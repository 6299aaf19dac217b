-- The invariants of the steps of a search.
use Rattle.std.proofs.Common.{
  ◌≡◌,
  ℕ,
  zero,
  suc,
  ◌+◌,
  ◌-◌,
  ◌<◌,
  ◌≤◌,
  Bool,
  true,
  false,
  cond,
  ◌&&◌,
  nat_lt,
  nat_le,
  List,
  [],
  ◌∷◌,
  ◌++◌,
  length,
  slice_index,
  Option,
  Some,
  None,
  unwrap_or,
  IfSome,
  IsSomeAnd,
  IsTrue,
  refl,
  sym,
  ap,
  subst,
  ◌∙◌,
  inl,
  inr,
  arith,
  eqb,
}
use Rattle.std.specs.Option.{option_map, option_and_then}
use Rattle.std.proofs.lemmas.Bool.{cond_both, cases_lt, cases_order, eqb-true, eq-eqb, leb-true, le-leb, lt-ltb, not_from_true, or_cases, or_left, or_right, and_parts, and_from, both_ways}
use Rattle.plan_types.specs.Cost.{cost_below, cost_at_most, CostsAreTotal, CostsAreTransitive, BelowIsAtMost}
use Rattle.plan_types.specs.Instance.{Instance, IsInstance}
use Rattle.plan_types.specs.declared.plans.Cost.{Cost}
use Rattle.route_sched.specs.Cost.{cost_of}
use Rattle.plan_audit.specs.Passes.{passes}
use Rattle.move_ops.specs.Insertion.{Insertion, request_named, passing, best_insertion, inserted_at}
use Rattle.move_ops.specs.Laws.{RelocationsNeverCostMore}
use Rattle.move_ops.specs.Moves.{removed, exchanged, crossed}
use Rattle.move_ops.proofs.OccurrenceLemmas.{none_some, some_same}
use Rattle.seeded_search.specs.Words.{pick, step_words}
use Rattle.seeded_search.specs.Steps.{
  picked,
  movable_names,
  unplanned_names,
  placed_all,
  relocated,
  exchanged_by,
  used_vehicles,
  cut_by,
  crossed_by,
  ruined_names,
  recreated_by,
  candidate,
  SearchPlans,
  has_lower_counts,
  has_equal_counts,
  is_near,
  after_candidate,
  after_candidate_if_any,
  many,
  step,
  steps,
  search_plans,
}
use Rattle.move_ops.specs.MoveCosts.{IsCostIfMade}
use Rattle.move_ops.specs.Drafts.{placed, AreIdleAfter, DraftState, base_of, draft_of, IsDraftOf, IsMade}
use Rattle.seeded_search.specs.SpatialIndex.{AreNearestStopLists}
use Rattle.seeded_search.specs.SearchStates.{AreListsOf, IsMadeIfNear, IsSearchState, HasNewWorkingPlan}
use Rattle.seeded_search.specs.declared.spatial_index.SpatialIndex.{SpatialIndex}
use Rattle.seeded_search.specs.declared.search_state.SearchState.{SearchState}
use Rattle.plan_types.specs.declared.plans.Plan.{Plan}
use Rattle.seeded_search.specs.StepLaws.{RelocatedNeverCostMore, StepsAddUp, BothPass, StepsKeepPassing, IncumbentsNeverCostMore, IsWorkingNear, WorkingStaysNear}

-- if `option_and_then f o` is some value, `o` is some x, and `f x` is that value
pub and_then_some : {X Y : Type 0} (f : X → Option Y) (o : Option X) (y : Y) → option_and_then f o ≡ Some y → (x : X) × (o ≡ Some x) × (f x ≡ Some y)
and_then_some f None y is = absurd (none_some y is)
and_then_some f (Some x) y is = (x, refl, is)

map_some : {X Y : Type 0} (f : X → Y) (o : Option X) (y : Y) → option_map f o ≡ Some y → (x : X) × (o ≡ Some x) × (f x ≡ y)
map_some f None y is = absurd (none_some y is)
map_some f (Some x) y is = (x, refl, some_same (f x) y is)

pub then_some : {X : Type 0} (b : Bool) (o : Option X) (y : X) → cond b o None ≡ Some y → (b ≡ true) × (o ≡ Some y)
then_some true o y is = (refl, is)
then_some false o y is = absurd (none_some y is)

else_some : {X : Type 0} (b : Bool) (o : Option X) (y : X) → cond b None o ≡ Some y → o ≡ Some y
else_some false o y is = is
else_some true o y is = absurd (none_some y is)

-- ---- many steps of any kind
pub same_cost : CostsAreTotal → (a : Cost) → IsTrue (cost_at_most a a)
same_cost total a = elim (total a a) [ inl t ↦ t | inr t ↦ t ]

module _ (one : ℕ → SearchPlans → SearchPlans) where
  pub many_add_up : (b a n : ℕ) (s : SearchPlans) → many one n (a + b) s ≡ many one (n + a) b (many one n a s)
  many_add_up b zero n s =
      let none : 0 + b ≡ b = omega arith in
      let here : n ≡ n + 0 = omega arith in
      ap (λ k. many one n k s) none ∙ ap (λ m. many one m b s) here
  many_add_up b (suc a) n s =
      let more : suc a + b ≡ suc (a + b) = omega arith in
      let there : n + 1 + a ≡ n + suc a = omega arith in
      ap (λ k. many one n k s) more ∙ many_add_up b a (n + 1) (one n s) ∙ ap (λ m. many one m b (many one (n + 1) a (one n s))) there

  -- a property that each step keeps holds after many steps
  pub many_keep : (P : SearchPlans → Type 0) → ((n : ℕ) (s : SearchPlans) → P s → P (one n s)) → (count n : ℕ) (s : SearchPlans) → P s → P (many one n count s)
  many_keep P keep zero n s is = is
  many_keep P keep (suc count) n s is = many_keep P keep count (n + 1) (one n s) (keep n s is)

  pub many_cost : (p : Instance) → CostsAreTotal → CostsAreTransitive → ((n : ℕ) (s : SearchPlans) → IsTrue (cost_at_most (cost_of p (one n s).incumbent) (cost_of p s.incumbent)))
      → (count n : ℕ) (s : SearchPlans) → IsTrue (cost_at_most (cost_of p (many one n count s).incumbent) (cost_of p s.incumbent))
  many_cost p total transitive less count n s =
      many_keep (λ (t : SearchPlans). IsTrue (cost_at_most (cost_of p t.incumbent) (cost_of p s.incumbent)))
      (λ m t so_far. transitive (cost_of p (one m t).incumbent) (cost_of p t.incumbent) (cost_of p s.incumbent) (less m t) so_far) count n s (same_cost total (cost_of p s.incumbent))

-- if a step is made with the words of its number, the remaining steps lead to the same result as all steps
pub walked_more : (made_by : List ℕ → SearchPlans → SearchPlans) (seed n count k : ℕ) (s new : SearchPlans) (words : List ℕ) (key number : ℕ) (all : SearchPlans)
    → many (λ m t. made_by (step_words seed m) t) (n + k) (count - k) s ≡ all → k < count → words ≡ step_words key number → key ≡ seed → number ≡ n + k → new ≡ made_by words s
    → many (λ m t. made_by (step_words seed m) t) (n + (k + 1)) (count - (k + 1)) new ≡ all
walked_more made_by seed n count k s new words key number all so_far within is_words is_seed is_number made =
    let less : count - k ≡ suc (count - (k + 1)) = omega arith in
    let there : n + k + 1 ≡ n + (k + 1) = omega arith in
    let same : new ≡ made_by (step_words seed (n + k)) s = made ∙ ap (λ ws. made_by ws s) (is_words ∙ (ap (λ x. step_words x number) is_seed ∙ ap (step_words seed) is_number)) in
    ap (λ m. many (λ m t. made_by (step_words seed m) t) m (count - (k + 1)) new) (sym there)
    ∙ (ap (λ t. many (λ m t. made_by (step_words seed m) t) (n + k + 1) (count - (k + 1)) t) same ∙ (ap (λ m. many (λ m t. made_by (step_words seed m) t) (n + k) m s) (sym less) ∙ so_far))

module _ (p : Instance) (pins : List (List ℕ)) where
  abbrev pub Passes : List (List ℕ) → Type 0
  Passes routes = passes p pins routes ≡ true

  passing_gives : (x y : List (List ℕ)) → passing p pins x ≡ Some y → Passes y
  passing_gives x y is = by (passes p pins x) refl is
    where
      by : (b : Bool) → passes p pins x ≡ b → cond b (Some x) None ≡ Some y → Passes y
      by true e is = subst Passes (some_same x y is) e
      by false e is = absurd (none_some y is)

  put_in_passes : (routes : List (List ℕ)) (name : ℕ) (x : Insertion) (y : List (List ℕ)) → inserted_at p pins routes name x ≡ Some y → Passes y
  put_in_passes routes name x y is = let t = and_then_some _ (request_named p name) y is in passing_gives _ y (then_some _ _ y t.2).1

  pub removed_passes : (routes : List (List ℕ)) (names : List ℕ) (y : List (List ℕ)) → removed p pins routes names ≡ Some y → Passes y
  removed_passes routes names y is = passing_gives _ y (then_some _ _ y is).1

  pub exchanged_passes : (routes : List (List ℕ)) (a b : ℕ) (y : List (List ℕ)) → exchanged p pins routes a b ≡ Some y → Passes y
  exchanged_passes routes a b y is =
      let t = and_then_some _ (request_named p a) y (else_some (eqb a b) _ y is) in
      let u = and_then_some _ (request_named p b) y t.2 in
      passing_gives _ y (then_some _ _ y u.2).1

  crossed_passes : (routes : List (List ℕ)) (a ca b cb : ℕ) (y : List (List ℕ)) → crossed p pins routes a ca b cb ≡ Some y → Passes y
  crossed_passes routes a ca b cb y is = passing_gives _ y (then_some _ _ y is).1

  pub placed_passes : (routes : List (List ℕ)) (name : ℕ) → Passes routes → Passes (placed p pins routes name)
  placed_passes routes name pass = by (option_and_then (inserted_at p pins routes name) (best_insertion p pins routes name)) refl
    where
      by : (o : Option (List (List ℕ))) → option_and_then (inserted_at p pins routes name) (best_insertion p pins routes name) ≡ o → Passes (unwrap_or o routes)
      by None e = pass
      by (Some y) e = let t = and_then_some (inserted_at p pins routes name) (best_insertion p pins routes name) y e in put_in_passes routes name t.0 y t.2

  pub placed_all_passes : (names : List ℕ) (routes : List (List ℕ)) → Passes routes → Passes (placed_all p pins routes names)
  placed_all_passes [] routes pass = pass
  placed_all_passes (name ∷ names) routes pass = placed_all_passes names (placed p pins routes name) (placed_passes routes name pass)

  relocated_passes : (routes : List (List ℕ)) (w : ℕ) (y : List (List ℕ)) → relocated p pins routes w ≡ Some y → Passes y
  relocated_passes routes w y is =
      let t = and_then_some _ (picked w (movable_names p pins routes)) y is in
      let u = map_some (λ left. placed p pins left t.0) (removed p pins routes (t.0 ∷ [])) y t.2 in
      subst Passes u.2 (placed_passes u.0 t.0 (removed_passes routes (t.0 ∷ []) u.0 u.1))

  -- a relocated plan costs no more, by the law of relocations
  pub relocated_cost : RelocationsNeverCostMore → IsInstance p → (routes : List (List ℕ)) (w : ℕ) (y : List (List ℕ)) → Passes routes
      → relocated p pins routes w ≡ Some y → IsTrue (cost_at_most (cost_of p y) (cost_of p routes))
  relocated_cost law valid routes w y pass is =
      let t = and_then_some _ (picked w (movable_names p pins routes)) y is in
      let u = map_some (λ left. placed p pins left t.0) (removed p pins routes (t.0 ∷ [])) y t.2 in
      let all = law p pins routes u.0 t.0 valid pass u.1 in
      subst (λ (plan : List (List ℕ)). IsTrue (cost_at_most (cost_of p plan) (cost_of p routes))) u.2 (all.cost)

  exchanged_by_passes : (routes : List (List ℕ)) (w v : ℕ) (y : List (List ℕ)) → exchanged_by p pins routes w v ≡ Some y → Passes y
  exchanged_by_passes routes w v y is =
      let t = and_then_some _ (picked w (movable_names p pins routes)) y is in
      let u = and_then_some _ (picked v (movable_names p pins routes)) y t.2 in
      exchanged_passes routes t.0 u.0 y u.2

  -- 2-opt* of the vehicles a and b, cut as words 3 and 4 say
  abbrev second_vehicle : List (List ℕ) → List ℕ → ℕ → ℕ → Option (List (List ℕ))
  second_vehicle routes words a b = crossed p pins routes a (cut_by pins routes a (slice_index words 3)) b (cut_by pins routes b (slice_index words 4))

  abbrev first_vehicle : List (List ℕ) → List ℕ → ℕ → Option (List (List ℕ))
  first_vehicle routes words a = option_and_then (second_vehicle routes words a) (picked (slice_index words 2) (used_vehicles routes))

  crossed_by_passes : (routes : List (List ℕ)) (words : List ℕ) (y : List (List ℕ)) → crossed_by p pins routes words ≡ Some y → Passes y
  crossed_by_passes routes words y is =
      let t = and_then_some (first_vehicle routes words) (picked (slice_index words 1) (used_vehicles routes)) y is in
      let u = and_then_some (second_vehicle routes words t.0) (picked (slice_index words 2) (used_vehicles routes)) y t.2 in
      crossed_passes routes t.0 (cut_by pins routes t.0 (slice_index words 3)) u.0 (cut_by pins routes u.0 (slice_index words 4)) y u.2

  recreated_by_passes : (routes : List (List ℕ)) (words : List ℕ) (y : List (List ℕ)) → recreated_by p pins routes words ≡ Some y → Passes y
  recreated_by_passes routes words y is =
      let names = ruined_names p pins routes words in
      let t = map_some (λ left. placed_all p pins left (ruined_names p pins routes words ++ unplanned_names p routes)) (removed p pins routes (ruined_names p pins routes words)) y
      (else_some (eqb (length (ruined_names p pins routes words)) 0) _ y is) in
      subst Passes t.2 (placed_all_passes (ruined_names p pins routes words ++ unplanned_names p routes) t.0 (removed_passes routes (ruined_names p pins routes words) t.0 t.1))

  pub candidate_passes : (routes : List (List ℕ)) (words : List ℕ) (y : List (List ℕ)) → candidate p pins routes words ≡ Some y → Passes y
  unfolding candidate
  candidate_passes routes words y is = by (eqb (pick (slice_index words 0) 4) 0) (eqb (pick (slice_index words 0) 4) 1) (eqb (pick (slice_index words 0) 4) 2) is
    where
      by : (a b c : Bool)
          → cond a (relocated p pins routes (slice_index words 1))
          (cond b (exchanged_by p pins routes (slice_index words 1) (slice_index words 2))
          (cond c (crossed_by p pins routes words) (recreated_by p pins routes words))) ≡ Some y
          → Passes y
      by true b c is = relocated_passes routes (slice_index words 1) y is
      by false true c is = exchanged_by_passes routes (slice_index words 1) (slice_index words 2) y is
      by false false true is = crossed_by_passes routes words y is
      by false false false is = recreated_by_passes routes words y is

  module _ (deviation seed : ℕ) where
    pub moved_passes : (words : List ℕ) (s : SearchPlans) → BothPass p pins s → (o : Option (List (List ℕ))) → candidate p pins s.working words ≡ o → BothPass p pins (after_candidate_if_any p deviation s o)
    moved_passes words s both None e = both
    moved_passes words s both (Some c) e =
        let pass = candidate_passes s.working words c e in
        record {
          incumbent = cond_both (cost_at_most (cost_of p c) (cost_of p s.incumbent)) c s.incumbent Passes (λ t. pass) (λ t. both.incumbent);
          working = cond_both (is_near deviation (cost_of p c) (cost_of p s.incumbent)) c s.working Passes (λ t. pass) (λ t. both.working);
        }

    step_passes : (n : ℕ) (s : SearchPlans) → BothPass p pins s → BothPass p pins (step p pins deviation seed n s)
    unfolding step
    step_passes n s both = moved_passes (step_words seed n) s both (candidate p pins s.working (step_words seed n)) refl

    -- the incumbent after a step costs no more than before it
    step_cost : CostsAreTotal → (n : ℕ) (s : SearchPlans) → IsTrue (cost_at_most (cost_of p (step p pins deviation seed n s).incumbent) (cost_of p s.incumbent))
    unfolding step
    step_cost total n s = by (candidate p pins s.working (step_words seed n))
      where
        by : (o : Option (List (List ℕ))) → IsTrue (cost_at_most (cost_of p (after_candidate_if_any p deviation s o).incumbent) (cost_of p s.incumbent))
        by None = same_cost total (cost_of p s.incumbent)
        by (Some c) =
            cond_both (cost_at_most (cost_of p c) (cost_of p s.incumbent)) c s.incumbent
            (λ best. IsTrue (cost_at_most (cost_of p best) (cost_of p s.incumbent))) (λ t. t) (λ t. same_cost total (cost_of p s.incumbent))

-- a plan that is near and costs more has equally many unplanned requests and vehicles, and at most the
-- deviation more distance
near_apart : BelowIsAtMost → (deviation : ℕ) (a b : Cost) → is_near deviation a b ≡ true → cost_at_most a b ≡ false
    → (a.unplanned ≡ b.unplanned) × (a.vehicles ≡ b.vehicles) × (a.distance ≤ b.distance + deviation)
near_apart below deviation a b near above = elim (or_cases (has_lower_counts a b) (has_equal_counts a b && nat_le a.distance (b.distance + deviation)) near) [
  | inl less ↦ absurd (both_ways (cost_at_most a b) above (below a b (less_is_below less)))
  | inr same ↦ (
      let both = and_parts (has_equal_counts a b) (nat_le a.distance (b.distance + deviation)) same in
      let pair = and_parts (eqb a.unplanned b.unplanned) (eqb a.vehicles b.vehicles) both.0 in
      (eqb-true a.unplanned b.unplanned pair.0, eqb-true a.vehicles b.vehicles pair.1, leb-true a.distance (b.distance + deviation) both.1))
]
  where
    less_is_below : has_lower_counts a b ≡ true → cost_below a b ≡ true
    less_is_below less = elim (or_cases (nat_lt a.unplanned b.unplanned) (eqb a.unplanned b.unplanned && nat_lt a.vehicles b.vehicles) less) [
      | inl lt ↦ or_left (nat_lt a.unplanned b.unplanned) _ lt
      | inr both ↦ (
          let parts = and_parts (eqb a.unplanned b.unplanned) (nat_lt a.vehicles b.vehicles) both in
          or_right (nat_lt a.unplanned b.unplanned) _ (and_from (eqb a.unplanned b.unplanned) _ parts.0 (or_left (nat_lt a.vehicles b.vehicles) _ parts.1)))
    ]

-- a plan that costs no more is near
at_most_is_near : (deviation : ℕ) (a b : Cost) → cost_at_most a b ≡ true → is_near deviation a b ≡ true
at_most_is_near deviation a b most = elim (cases_order a.unplanned b.unplanned) [
  | inl same ↦ elim (cases_order a.vehicles b.vehicles) [
    | inl alike ↦ (
        let here : eqb b.unplanned a.unplanned ≡ true = eq-eqb b.unplanned a.unplanned (sym same) in
        let there : eqb b.vehicles a.vehicles ≡ true = eq-eqb b.vehicles a.vehicles (sym alike) in
        elim (cases_lt b.distance a.distance) [
          | inl lt ↦ absurd (above (or_right (nat_lt b.unplanned a.unplanned) _
              (and_from (eqb b.unplanned a.unplanned) _ here
              (or_right (nat_lt b.vehicles a.vehicles) _ (and_from (eqb b.vehicles a.vehicles) _ there (lt-ltb b.distance a.distance lt))))))
          | inr le ↦ or_right (has_lower_counts a b) _
              (and_from (has_equal_counts a b) _
              (and_from (eqb a.unplanned b.unplanned) _ (eq-eqb a.unplanned b.unplanned same) (eq-eqb a.vehicles b.vehicles alike))
              (le-leb a.distance (b.distance + deviation) (omega arith)))
        ])
    | inr apart ↦ elim apart [
      | inl lt ↦ or_left (has_lower_counts a b) _
          (or_right (nat_lt a.unplanned b.unplanned) _
          (and_from (eqb a.unplanned b.unplanned) _ (eq-eqb a.unplanned b.unplanned same) (lt-ltb a.vehicles b.vehicles lt)))
      | inr gt ↦ absurd (above (or_right (nat_lt b.unplanned a.unplanned) _
          (and_from (eqb b.unplanned a.unplanned) _ (eq-eqb b.unplanned a.unplanned (sym same))
          (or_left (nat_lt b.vehicles a.vehicles) _ (lt-ltb b.vehicles a.vehicles gt)))))
    ]
  ]
  | inr apart ↦ elim apart [
    | inl lt ↦ or_left (has_lower_counts a b) _ (or_left (nat_lt a.unplanned b.unplanned) _ (lt-ltb a.unplanned b.unplanned lt))
    | inr gt ↦ absurd (above (or_left (nat_lt b.unplanned a.unplanned) _ (lt-ltb b.unplanned a.unplanned gt)))
  ]
]
  where
    above : cost_below b a ≡ true → ⊥
    above is = both_ways (cost_at_most a b) (not_from_true (cost_below b a) is) most

module _ (p : Instance) (pins : List (List ℕ)) (deviation seed : ℕ) (below : BelowIsAtMost) where
  -- a plan is near itself
  itself : (routes : List (List ℕ)) → IsWorkingNear p deviation (record { incumbent = routes; working = routes })
  itself routes = (refl, refl, omega arith)

  moved_near : (s : SearchPlans) (c : List (List ℕ)) → IsWorkingNear p deviation s → IsWorkingNear p deviation (after_candidate p deviation s c)
  moved_near s c near = by (cost_at_most (cost_of p c) (cost_of p s.incumbent)) (is_near deviation (cost_of p c) (cost_of p s.incumbent)) refl refl
    where
      by : (b t : Bool) → cost_at_most (cost_of p c) (cost_of p s.incumbent) ≡ b → is_near deviation (cost_of p c) (cost_of p s.incumbent) ≡ t
          → IsWorkingNear p deviation (record { incumbent = cond b c s.incumbent; working = cond t c s.working })
      by true true e f = itself c
      by false true e f = near_apart below deviation (cost_of p c) (cost_of p s.incumbent) f e
      by false false e f = near
      by true false e f = absurd (both_ways (is_near deviation (cost_of p c) (cost_of p s.incumbent)) f (at_most_is_near deviation (cost_of p c) (cost_of p s.incumbent) e))

  step_near : (n : ℕ) (s : SearchPlans) → IsWorkingNear p deviation s → IsWorkingNear p deviation (step p pins deviation seed n s)
  unfolding step
  step_near n s near = by (candidate p pins s.working (step_words seed n))
    where
      by : (o : Option (List (List ℕ))) → IsWorkingNear p deviation (after_candidate_if_any p deviation s o)
      by None = near
      by (Some c) = moved_near s c near

pub working_stays_near : BelowIsAtMost → WorkingStaysNear
unfolding steps
working_stays_near below p pins deviation seed n count s near = many_keep (step p pins deviation seed) (IsWorkingNear p deviation) (step_near p pins deviation seed below) count n s near

pub steps_add_up : StepsAddUp
unfolding steps
steps_add_up p pins deviation seed n a b s = many_add_up (step p pins deviation seed) b a n s

pub steps_keep_passing : StepsKeepPassing
unfolding steps
steps_keep_passing p pins deviation seed n count s both = many_keep (step p pins deviation seed) (BothPass p pins) (step_passes p pins deviation seed) count n s both

pub incumbents_never_cost_more : CostsAreTotal → CostsAreTransitive → IncumbentsNeverCostMore
unfolding steps
incumbents_never_cost_more total transitive p pins deviation seed n count s = many_cost (step p pins deviation seed) p total transitive (step_cost p pins deviation seed total) count n s

-- a candidate that is far, for which `is_near` fails, changes nothing
module _ (p : Instance) (deviation : ℕ) (s : SearchPlans) (c : List (List ℕ)) where
  pub none_moved : cost_at_most (cost_of p c) (cost_of p s.incumbent) ≡ false → is_near deviation (cost_of p c) (cost_of p s.incumbent) ≡ false → s ≡ after_candidate p deviation s c
  none_moved above far = by (cost_at_most (cost_of p c) (cost_of p s.incumbent)) (is_near deviation (cost_of p c) (cost_of p s.incumbent)) above far
    where
      by : (b t : Bool) → b ≡ false → t ≡ false → s ≡ search_plans (cond b c s.incumbent) (cond t c s.working)
      by b t e f = rw e (rw f refl)

-- after the candidate became the working plan, the search state is valid
pub accepted_search_state : (p : Instance) (pins : List (List ℕ)) (old new : SearchState) → HasNewWorkingPlan p pins old new → passes p pins old.incumbent.routes ≡ true → old.best ≡ cost_of p old.incumbent.routes
    → AreIdleAfter old.used_len old.incumbent.routes → AreNearestStopLists p old.spatial_index → IsSearchState p pins new
accepted_search_state p pins old new h pass best idle spatial_index =
    let same : old.incumbent.routes ≡ new.incumbent.routes = ap (λ (plan : Plan). plan.routes) (sym h.incumbent) in
    record {
      keeps = record {
        draft = h.draft;
        incumbent = subst (λ routes. passes p pins routes ≡ true) same pass;
        best = h.best ∙ (best ∙ ap (cost_of p) same);
        idle = subst (λ n. AreIdleAfter n new.incumbent.routes) (sym h.used_len) (subst (AreIdleAfter old.used_len) same idle);
        lists = subst (λ routes. AreListsOf p pins routes new.lists) (sym h.base) h.lists;
        at = λ yes. absurd (both_ways new.is_at_incumbent h.at yes);
        spatial_index = subst (AreNearestStopLists p) (sym h.spatial_index) spatial_index;
      };
      settled = h.settled ∙ sym h.base;
    }

-- the search state stays valid if `is_at_incumbent` is set while the working plan is the incumbent
pub noted_walk : (p : Instance) (pins : List (List ℕ)) (w : SearchState) (at : Bool) → IsSearchState p pins w → (IsTrue at → w.incumbent.routes ≡ base_of w.draft) → IsSearchState p pins (record w { is_at_incumbent = at })
noted_walk p pins w at is same = record {
  keeps = record {
    draft = is.keeps.draft;
    incumbent = is.keeps.incumbent;
    best = is.keeps.best;
    idle = is.keeps.idle;
    lists = is.keeps.lists;
    at = same;
    spatial_index = is.keeps.spatial_index;
  };
  settled = is.settled;
}

-- if a move was made, the draft is the plan of the move
pub made_some : (answer : Option (List (List ℕ))) (made : Bool) (old new : DraftState) → IsMade answer made old new → made ≡ true → answer ≡ Some (draft_of new)
made_some None made old new h is = absurd (both_ways made h.0 is)
made_some (Some routes) made old new h is = ap (λ x. Some x) (sym h.1)

-- a search state whose draft is the base again is valid with this draft
pub stayed_walk : (p : Instance) (pins : List (List ℕ)) (w : SearchState) (draft : DraftState) (spatial_index : SpatialIndex) → IsSearchState p pins w → AreNearestStopLists p spatial_index → IsDraftOf p pins draft → base_of draft ≡ base_of w.draft
    → draft_of draft ≡ draft_of w.draft → IsSearchState p pins (record w { draft = draft; spatial_index = spatial_index })
stayed_walk p pins w draft spatial_index is nearest_stops drafted base same = record {
  keeps = record {
    draft = drafted;
    incumbent = is.keeps.incumbent;
    best = is.keeps.best;
    idle = is.keeps.idle;
    lists = subst (λ routes. AreListsOf p pins routes w.lists) (sym base) is.keeps.lists;
    at = λ yes. is.keeps.at yes ∙ sym base;
    spatial_index = nearest_stops;
  };
  settled = same ∙ (is.settled ∙ sym base);
}

-- ---- a candidate that is made only if it is near
module _ (p : Instance) (deviation : ℕ) (best : Cost) where
  pub made_near : (answer : Option (List (List ℕ))) (made : Bool) (old new : DraftState) → IsMade answer made old new → IsMadeIfNear p deviation best answer made old new
  made_near None made old new h = h
  made_near (Some routes) made old new h = record { is = λ yes. h.1; stays = λ none. absurd (both_ways made none h.0); far = λ none. absurd (both_ways made none h.0) }

  pub foreseen_far : (answer : Option (List (List ℕ))) (old new : DraftState) (cost : Option Cost) → IfSome cost (λ k. IsCostIfMade p answer k)
      → IsSomeAnd cost (λ k. is_near deviation k best ≡ false) → draft_of new ≡ draft_of old
      → IsMadeIfNear p deviation best answer false old new
  foreseen_far None old new cost priced far same = (refl, same)
  foreseen_far (Some routes) old new None priced far same = absurd far
  foreseen_far (Some routes) old new (Some k) priced far same = record {
    is = λ yes. absurd (let h : false ≡ true = yes in cc);
    stays = λ none. same;
    far = λ none. subst (λ (c : Cost). is_near deviation c best ≡ false) (priced routes refl) far;
  }

  pub made_then : (answer : Option (List (List ℕ))) (made : Bool) (old new : DraftState) → IsMadeIfNear p deviation best answer made old new → made ≡ true → answer ≡ Some (draft_of new)
  made_then None made old new h is = absurd (both_ways made h.0 is)
  made_then (Some routes) made old new h is = ap (λ x. Some x) (sym (h.is is))

  pub stays_then : (answer : Option (List (List ℕ))) (made : Bool) (old new : DraftState) → IsMadeIfNear p deviation best answer made old new → made ≡ false → draft_of new ≡ draft_of old
  stays_then None made old new h is = h.1
  stays_then (Some routes) made old new h is = h.stays is

  pub far_then : (answer : Option (List (List ℕ))) (made : Bool) (old new : DraftState) → IsMadeIfNear p deviation best answer made old new → made ≡ false
      → (s : SearchPlans) → best ≡ cost_of p s.incumbent → s ≡ after_candidate_if_any p deviation s answer
  far_then None made old new h is s cost = refl
  far_then (Some routes) made old new h is s cost =
      let far : is_near deviation (cost_of p routes) (cost_of p s.incumbent) ≡ false = subst (λ (k : Cost). is_near deviation (cost_of p routes) k ≡ false) cost (h.far is) in
      none_moved p deviation s routes (above (cost_at_most (cost_of p routes) (cost_of p s.incumbent)) refl far) far
    where
      above : (t : Bool) → cost_at_most (cost_of p routes) (cost_of p s.incumbent) ≡ t → is_near deviation (cost_of p routes) (cost_of p s.incumbent) ≡ false
          → cost_at_most (cost_of p routes) (cost_of p s.incumbent) ≡ false
      above false e far = e
      above true e far = absurd (both_ways (is_near deviation (cost_of p routes) (cost_of p s.incumbent)) far (at_most_is_near deviation (cost_of p routes) (cost_of p s.incumbent) e))

pub relocated_never_cost_more : RelocationsNeverCostMore → RelocatedNeverCostMore
relocated_never_cost_more law p pins routes new word valid good is = relocated_cost p pins law valid routes word new good is
