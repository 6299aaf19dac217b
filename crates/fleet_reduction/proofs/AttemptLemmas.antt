-- Attempts one after another: the properties that each attempt preserves, and that the attempts end.
use Rattle.std.proofs.Common.{◌≡◌, ◌∙◌, ℕ, zero, suc, ◌+◌, ◌-◌, ◌/◌, ◌<◌, ◌≤◌, Bool, true, false, cond, not, ◌==◌, ◌&&◌, List, [], ◌∷◌, length, replicate, Option, Some, None, IsTrue, refl, sym, ap, subst, inl, inr, arith}
use Rattle.std.specs.Prelude.{min, nat_lt, nat_le}
use Rattle.std.specs.List.{concat}
use Rattle.std.proofs.lemmas.Bool.{and_from, and_parts, both_ways, cases_Bool, eqb-true, leb-true, lt-ltb, ltb-true, not_from_true}
use Rattle.std.proofs.lemmas.List.{length-replicate}
use Rattle.std.proofs.lemmas.List.FromFn.{length-map-range_with_len}
use Rattle.plan_types.specs.Cost.{BelowIsAtMost, CostBelowIsCorrect, CostsAreTotal, CostsAreTransitive, cost_at_most, cost_below}
use Rattle.plan_types.specs.Instance.{Instance}
use Rattle.plan_types.specs.Limits.{IsFleet}
use Rattle.plan_types.specs.declared.plans.Plan.{Plan}
use Rattle.plan_types.specs.declared.requests.Kind.{Kind}
use Rattle.plan_types.specs.declared.requests.Kind.TheVariants.{LiLim, Vrp}
use Rattle.route_sched.specs.Cost.{cost_of, unplanned_count, used_count, vehicle_count}
use Rattle.route_sched.specs.Route.{AreDistinctStops}
use Rattle.plan_audit.specs.Locality.{IsPassing}
use Rattle.plan_audit.specs.Passes.{passes}
use Rattle.plan_audit.proofs.FleetLemmas.{used-most}
use Rattle.plan_audit.proofs.LocalLemmas.{passing_is_local}
use Rattle.move_ops.proofs.OccurrenceLemmas.{none_some, some_same}
use Rattle.seeded_search.proofs.SearchLemmas.{same_cost}
use Rattle.anneal_search.specs.AttemptLaws.{AttemptsAreBounded, AttemptsKeepPassing}
use Rattle.anneal_search.specs.AttemptState.{AttemptState}
use Rattle.fleet_reduction.specs.Fleets.{is_kept, kept, marked, picked, put_back, with_fleet}
use Rattle.fleet_reduction.specs.Laws.{AreAttempts, PickedPass, PutBackPass, AttemptsKeepPlans, AttemptsNeverCostMore}
use Rattle.fleet_reduction.specs.ReductionStates.{IsBetweenAttempts, IsSubfleet, attempts_left}
use Rattle.fleet_reduction.specs.Attempts.{Attempts, after_attempt, subfleet, first_attempts, can_continue, serves_all, limit, max_attempts, next, next_by, attempt, attempts_from, attempts_of}
use Rattle.fleet_reduction.proofs.SubfleetLemmas.{all_marked, all_own, kept_few, kept_own, kept_some}
use Rattle.fleet_reduction.proofs.PickedLemmas.{used_back}

abbrev Routes : Type 0
Routes = List (List ℕ)

-- the laws that the lemmas use
pub record Below : Type 0 where
  pub picked : PickedPass
  pub back : PutBackPass
  pub passing : AttemptsKeepPassing
  pub short : AttemptsAreBounded

pub below_of : PickedPass → PutBackPass → AttemptsKeepPassing → AttemptsAreBounded → Below
below_of picked back passing short = record { picked = picked; back = back; passing = passing; short = short }

few_used : (p : Instance) (pins routes : Routes) → passes p pins routes ≡ true → used_count routes ≤ p.fleet
few_used p pins routes is = let h : IsPassing p pins routes = (passing_is_local p pins routes).0 is in let f : length routes ≡ p.fleet = h.fleet in omega (arith, used-most routes, f)

-- ---- the vehicles of an attempt
all_picked : (lists : Routes) → picked (replicate (length lists) true) lists ≡ lists
all_picked [] = refl
all_picked (l ∷ lists) = ap (λ ls. l ∷ ls) (all_picked lists)

module _ (p : Instance) (pins : Routes) (pinned : length pins ≡ p.fleet) (t : Attempts) (is : passes p pins t.plan ≡ true) (some : 0 < t.size) (vehicles : IsFleet p.fleet) where
  passing : IsPassing p pins t.plan
  passing = (passing_is_local p pins t.plan).0 is

  abbrev fewer : ℕ
  fewer = used_count t.plan - t.size

  pub crew_is : (marks : List Bool) → subfleet p pins t ≡ Some marks → IsSubfleet p pins t marks
  crew_is marks found = by (serves_all p t.plan) refl found
    where
      all : serves_all p t.plan ≡ false → replicate p.fleet true ≡ marks → IsSubfleet p pins t marks
      all lacks same =
          subst (IsSubfleet p pins t) same (record {
            long = length-replicate p.fleet true;
            some = (omega (arith, vehicles.0, all_marked p.fleet), omega (arith, vehicles.1, all_marked p.fleet));
            own = subst (λ n. put_back (replicate n true) (picked (replicate n true) pins) ≡ pins) pinned (all_own pins);
            fewer = λ whole. absurd (both_ways (serves_all p t.plan) lacks whole);
          })

      some_kept : nat_lt t.size (used_count t.plan) ≡ true → nat_le (used_count pins) fewer ≡ true → kept pins t.plan fewer ≡ marks → IsSubfleet p pins t marks
      some_kept more room same =
          let a = ltb-true t.size (used_count t.plan) more in
          let b = leb-true (used_count pins) fewer room in
          let f : length t.plan ≡ p.fleet = passing.fleet in
          let long : length pins ≡ length t.plan = pinned ∙ sym f in
          let few = kept_few pins t.plan long fewer b in
          subst (IsSubfleet p pins t) same (record {
            long = length-map-range_with_len (is_kept pins t.plan fewer) 1 (length t.plan) ∙ f;
            some = (kept_some pins t.plan long fewer (omega (arith, a)) (omega (arith, a)), omega (arith, few, few_used p pins t.plan is, vehicles.1));
            own = kept_own pins t.plan long fewer;
            fewer = λ whole. omega (arith, few, a, some);
          })

      by : (whole : Bool) → serves_all p t.plan ≡ whole
          → cond (not whole) (Some (replicate p.fleet true))
          (cond (nat_lt t.size (used_count t.plan) && nat_le (used_count pins) fewer) (Some (kept pins t.plan fewer)) None) ≡ Some marks
          → IsSubfleet p pins t marks
      by false e found = all e (some_same (replicate p.fleet true) marks found)
      by true e found = room (nat_lt t.size (used_count t.plan) && nat_le (used_count pins) fewer) refl found
        where
          room : (b : Bool) → (nat_lt t.size (used_count t.plan) && nat_le (used_count pins) fewer) ≡ b → cond b (Some (kept pins t.plan fewer)) None ≡ Some marks → IsSubfleet p pins t marks
          room false e found = absurd (none_some marks found)
          room true e found =
              let both = and_parts (nat_lt t.size (used_count t.plan)) (nat_le (used_count pins) fewer) e in some_kept both.0 both.1 (some_same (kept pins t.plan fewer) marks found)

  pub none_whole : subfleet p pins t ≡ None → serves_all p t.plan ≡ true
  none_whole none = by (serves_all p t.plan) refl none
    where
      by : (whole : Bool) → serves_all p t.plan ≡ whole
          → cond (not whole) (Some (replicate p.fleet true))
          (cond (nat_lt t.size (used_count t.plan) && nat_le (used_count pins) (used_count t.plan - t.size))
          (Some (kept pins t.plan (used_count t.plan - t.size))) None) ≡ None
          → serves_all p t.plan ≡ true
      by true e none = e
      by false e none = absurd (none_some (replicate p.fleet true) (sym none))

  -- if the plan leaves requests unplanned, the attempt begins with all routes of the plan
  pub begins_whole : serves_all p t.plan ≡ false → (marks : List Bool) → subfleet p pins t ≡ Some marks → picked marks t.plan ≡ t.plan
  begins_whole lacks marks found =
      let same : replicate p.fleet true ≡ marks =
      some_same (replicate p.fleet true) marks (
      ap (λ b. cond (not b) (Some (replicate p.fleet true))
      (cond (nat_lt t.size (used_count t.plan) && nat_le (used_count pins) (used_count t.plan - t.size))
      (Some (kept pins t.plan (used_count t.plan - t.size))) None)) (sym lacks)
      ∙ found) in
      let f : length t.plan ≡ p.fleet = passing.fleet in
      ap (λ ks. picked ks t.plan) (sym same) ∙ subst (λ n. picked (replicate n true) t.plan ≡ t.plan) f (all_picked t.plan)

-- the laws on the order of costs that the lemmas use
pub record Order : Type 0 where
  pub below_is_correct : CostBelowIsCorrect
  pub at_most : BelowIsAtMost

pub order_of : CostBelowIsCorrect → BelowIsAtMost → Order
order_of below_is_correct at_most = record { below_is_correct = below_is_correct; at_most = at_most }

module _ (laws : Order) (p : Instance) (lilim : p.kind ≡ LiLim) where
  none_out : (routes : Routes) → serves_all p routes ≡ true → unplanned_count p routes ≡ 0
  none_out routes whole = eqb-true (unplanned_count p routes) 0 whole

  some_out : (routes : Routes) → serves_all p routes ≡ false → 0 < unplanned_count p routes
  some_out routes lacks = by (unplanned_count p routes) refl
    where
      by : (n : ℕ) → unplanned_count p routes ≡ n → 0 < unplanned_count p routes
      by zero e = absurd (let h : true ≡ false = sym (ap (λ n. n == 0) e) ∙ lacks in cc)
      by (suc n) e = omega (arith, e)

  counted : (routes : Routes) → (cost_of p routes).vehicles ≡ used_count routes
  counted routes = ap (λ k. vehicle_count k routes) lilim

  -- with fewer vehicles a plan costs no more, if both plans have all requests
  cheaper : (found plan : Routes) → serves_all p found ≡ true → serves_all p plan ≡ true → used_count found < used_count plan → cost_at_most (cost_of p found) (cost_of p plan) ≡ true
  cheaper found plan a b fewer =
      laws.at_most (cost_of p found) (cost_of p plan)
      ((laws.below_is_correct (cost_of p found) (cost_of p plan)).1 (inr (none_out found a ∙ sym (none_out plan b), inl (omega (arith, counted found, counted plan, fewer)))))

  -- a plan that leaves a request unplanned costs more than one with all requests
  dearer : (found plan : Routes) → serves_all p found ≡ false → serves_all p plan ≡ true → cost_at_most (cost_of p found) (cost_of p plan) ≡ false
  dearer found plan a b =
      not_from_true (cost_below (cost_of p plan) (cost_of p found))
      ((laws.below_is_correct (cost_of p plan) (cost_of p found)).1 (inl (let h = none_out plan b in let g = some_out found a in omega (arith, h, g))))

-- ---- one turn
-- the properties of the state after one attempt, or after `size` is halved
pub record IsTurn (p : Instance) (pins : Routes) (end : ℕ) (t new : Attempts) : Type 0 where
  pub plan : passes p pins new.plan ≡ true
  pub first : t.step ≤ new.step
  pub last : new.step ≤ end
  pub sinks : Order → p.kind ≡ LiLim → attempts_left p end new < attempts_left p end t

left_whole : (p : Instance) (end : ℕ) (t : Attempts) → serves_all p t.plan ≡ true → attempts_left p end t ≡ end - t.step + (used_count t.plan + t.size)
left_whole p end t whole = ap (λ b. end - t.step + (cond b (used_count t.plan) (p.fleet + 1) + t.size)) whole

left_lacking : (p : Instance) (end : ℕ) (t : Attempts) → serves_all p t.plan ≡ false → attempts_left p end t ≡ end - t.step + (p.fleet + 1 + t.size)
left_lacking p end t lacks = ap (λ b. end - t.step + (cond b (used_count t.plan) (p.fleet + 1) + t.size)) lacks

half_less : (n : ℕ) → 0 < n → n / 2 < n
half_less n some = omega (arith, some)

module _ (laws : Below) (p : Instance) (pins : Routes) (pinned : length pins ≡ p.fleet) (vehicles : IsFleet p.fleet) (seed count end : ℕ) (t : Attempts)
    (is : passes p pins t.plan ≡ true) (on : can_continue p pins end t ≡ true) where
  below : t.step < end
  below = ltb-true t.step end (and_parts (nat_lt t.step end) (nat_lt 0 t.size) on).0

  size : 0 < t.size
  size = ltb-true 0 t.size (and_parts (nat_lt t.step end) (nat_lt 0 t.size) on).1

  abbrev last : ℕ
  last = limit (serves_all p t.plan) count end t

  limited : (t.step ≤ last) × (last ≤ end)
  limited = by (serves_all p t.plan && nat_lt 1 t.size)
    where
      by : (b : Bool) → (t.step ≤ cond b (min end (t.step + count / 8)) end) × (cond b (min end (t.step + count / 8)) end ≤ end)
      by true = let h = below in (omega (arith, h), omega arith)
      by false = let h = below in (omega (arith, h), omega arith)

  -- the case in which there is no attempt
  none_turn : subfleet p pins t ≡ None → IsTurn p pins end t (record t { size = t.size / 2 })
  none_turn none = record {
    plan = is;
    first = omega arith;
    last = let h = below in omega (arith, h);
    sinks = λ order lilim. (
        let whole = none_whole p pins pinned t is size vehicles none in
        let a = left_whole p end t whole in
        let b = left_whole p end (record t { size = t.size / 2 }) whole in
        let h = half_less t.size size in
        omega (arith, a, b, h));
  }

  module _ (marks : List Bool) (found : subfleet p pins t ≡ Some marks) where
    the_crew : IsSubfleet p pins t marks
    the_crew = crew_is p pins pinned t is size vehicles marks found

    abbrev smaller : Instance
    smaller = with_fleet p (marked marks)

    abbrev ended : AttemptState
    ended = attempt p pins seed last t marks

    begin_passes : passes smaller (picked marks pins) (picked marks t.plan) ≡ true
    begin_passes = laws.picked p pins t.plan marks the_crew.long (the_crew.long ∙ sym pinned) is

    pub end_passes : passes smaller (picked marks pins) ended.incumbent ≡ true
    end_passes = (laws.passing smaller (picked marks pins) _ seed (last - t.step) _ (record { incumbent = begin_passes; working = begin_passes })).incumbent

    abbrev back : Routes
    back = put_back marks ended.incumbent

    pub back_passes : passes p pins back ≡ true
    back_passes = laws.back p pins ended.incumbent marks the_crew.long the_crew.own end_passes

    steps : (t.step ≤ ended.step) × (ended.step ≤ end)
    steps =
        let short = laws.short smaller (picked marks pins) _ seed (last - t.step) _ in
        let l = limited in
        (short.0, omega (arith, short.1, l.0, l.1))

    few_back : used_count back ≤ marked marks
    few_back = used_back marks ended.incumbent

    abbrev after_it : Attempts
    after_it = after_attempt p pins t marks ended

    taken : cost_at_most (cost_of p back) (cost_of p t.plan) ≡ true → after_it.plan ≡ back
    taken is_so = ap (λ b. cond b back t.plan) is_so

    kept_plan : cost_at_most (cost_of p back) (cost_of p t.plan) ≡ false → after_it.plan ≡ t.plan
    kept_plan is_not = ap (λ b. cond b back t.plan) is_not

    sized : (a b : Bool) → serves_all p t.plan ≡ a → serves_all p back ≡ b → after_it.size ≡ cond (a && not b) (t.size / 2) t.size
    sized a b e f = ap (λ x. cond (x && not (serves_all p back)) (t.size / 2) t.size) e ∙ ap (λ x. cond (a && not x) (t.size / 2) t.size) f

    -- if the state after the attempt has this plan, it serves all requests exactly if the plan does
    whole_then : (plan : Routes) → after_it.plan ≡ plan → serves_all p after_it.plan ≡ serves_all p plan
    whole_then plan same = ap (serves_all p) same

    sinks_by : Order → p.kind ≡ LiLim → (a b : Bool) → serves_all p t.plan ≡ a → serves_all p back ≡ b → attempts_left p end after_it < attempts_left p end t
    sinks_by order lilim true true e f =
        let fewer = the_crew.fewer e in
        let less : used_count back < used_count t.plan = omega (arith, few_back, fewer) in
        let same = taken (cheaper order p lilim back t.plan f e less) in
        let used = ap used_count same in
        let x = left_whole p end t e in
        let y = left_whole p end after_it (whole_then back same ∙ f) in
        let s = steps in
        let z : after_it.size ≡ t.size = sized true true e f in
        omega (arith, x, y, used, less, s.0, s.1, z)
    sinks_by order lilim true false e f =
        let same = kept_plan (dearer order p lilim back t.plan f e) in
        let used = ap used_count same in
        let x = left_whole p end t e in
        let y = left_whole p end after_it (whole_then t.plan same ∙ e) in
        let s = steps in
        let z : after_it.size ≡ t.size / 2 = sized true false e f in
        let h = half_less t.size size in
        omega (arith, x, y, used, s.0, s.1, z, h)
    sinks_by order lilim false true e f = by (cost_at_most (cost_of p back) (cost_of p t.plan)) refl
      where
        by : (c : Bool) → cost_at_most (cost_of p back) (cost_of p t.plan) ≡ c → attempts_left p end after_it < attempts_left p end t
        by true is_so =
            let same = taken is_so in
            let used = ap used_count same in
            let few = few_used p pins back back_passes in
            let x = left_lacking p end t e in
            let y = left_whole p end after_it (whole_then back same ∙ f) in
            let s = steps in
            let z : after_it.size ≡ t.size = sized false true e f in
            omega (arith, x, y, used, few, s.0, s.1, z)
        by false is_not = absurd (both_ways (cost_at_most (cost_of p back) (cost_of p t.plan)) is_not better)
          where
            better : cost_at_most (cost_of p back) (cost_of p t.plan) ≡ true
            better =
                order.at_most (cost_of p back) (cost_of p t.plan)
                ((order.below_is_correct (cost_of p back) (cost_of p t.plan)).1 (inl (let h = none_out order p lilim back f in let g = some_out order p lilim t.plan e in omega (arith, h, g))))
    sinks_by order lilim false false e f =
        let begun : (unplanned_count p (picked marks t.plan) == 0) ≡ false = ap (serves_all p) (begins_whole p pins pinned t is size vehicles e marks found) ∙ e in
        let ends : last ≡ end = ap (λ b. cond (b && nat_lt 1 t.size) (min end (t.step + count / 8)) end) e in
        let h = below in
        let more : t.step < ended.step = (laws.short smaller (picked marks pins) _ seed (last - t.step) _).2 (omega (arith, ends, h)) begun in
        let lacks : serves_all p after_it.plan ≡ false = by (cost_at_most (cost_of p back) (cost_of p t.plan)) refl in
        let x = left_lacking p end t e in
        let y = left_lacking p end after_it lacks in
        let s = steps in
        let z : after_it.size ≡ t.size = sized false false e f in
        omega (arith, x, y, more, s.1, z)
      where
        by : (c : Bool) → cost_at_most (cost_of p back) (cost_of p t.plan) ≡ c → serves_all p after_it.plan ≡ false
        by true is_so = whole_then back (taken is_so) ∙ f
        by false is_not = whole_then t.plan (kept_plan is_not) ∙ e

    some_turn : IsTurn p pins end t after_it
    some_turn = record {
      plan = by_plan (cost_at_most (cost_of p back) (cost_of p t.plan));
      first = steps.0;
      last = steps.1;
      sinks = λ order lilim. sinks_by order lilim (serves_all p t.plan) (serves_all p back) refl refl;
    }
      where
        by_plan : (c : Bool) → passes p pins (cond c back t.plan) ≡ true
        by_plan true = back_passes
        by_plan false = is

  pub turn : IsTurn p pins end t (next p pins seed count end t)
  turn = by (subfleet p pins t) refl
    where
      by : (o : Option (List Bool)) → subfleet p pins t ≡ o → IsTurn p pins end t (next_by p pins seed count end t o)
      by None e = none_turn e
      by (Some marks) e = some_turn marks e

-- ---- all attempts
-- the remaining attempts from state t have the same result as all attempts
pub record AtAttempts (p : Instance) (pins : Routes) (seed count end : ℕ) (all t : Attempts) : Type 0 where
  pub going : IsBetweenAttempts p pins end t
  pub rest : ℕ
  pub enough : attempts_left p end t ≤ rest
  pub makes : attempts_from p pins seed count end rest t ≡ all

module _ (laws : Below) (p : Instance) (pins : Routes) (pinned : length pins ≡ p.fleet) (vehicles : IsFleet p.fleet) (seed count end : ℕ) where
  attempts_keep : (left : ℕ) (t : Attempts) → passes p pins t.plan ≡ true → t.step ≤ end
      → (passes p pins (attempts_from p pins seed count end left t).plan ≡ true) × (t.step ≤ (attempts_from p pins seed count end left t).step) × ((attempts_from p pins seed count end left t).step ≤ end)
  unfolding attempts_from
  attempts_keep zero t is within = (is, omega arith, within)
  attempts_keep (suc left) t is within = elim (cases_Bool (can_continue p pins end t)) [
    | inr off ↦ rw off (is, omega arith, within)
    | inl on ↦ rw on (
        let one = turn laws p pins pinned vehicles seed count end t is on in
        let rest = attempts_keep left (next p pins seed count end t) one.plan one.last in
        (rest.0, omega (arith, one.first, rest.1), rest.2))
  ]

  pub at_next : Order → p.kind ≡ LiLim → (all t new : Attempts) → can_continue p pins end t ≡ true → new ≡ next p pins seed count end t → AtAttempts p pins seed count end all t
      → AtAttempts p pins seed count end all new × (attempts_left p end new < attempts_left p end t) × (t.step ≤ new.step)
  unfolding attempts_from
  at_next order lilim all t new on made at =
      let one = turn laws p pins pinned vehicles seed count end t at.going.plan on in
      subst (λ u. AtAttempts p pins seed count end all u × (attempts_left p end u < attempts_left p end t) × (t.step ≤ u.step)) (sym made) (by at.rest at.enough at.makes one, one.sinks order lilim, one.first)
    where
      by : (rest : ℕ) → attempts_left p end t ≤ rest → attempts_from p pins seed count end rest t ≡ all → IsTurn p pins end t (next p pins seed count end t)
          → AtAttempts p pins seed count end all (next p pins seed count end t)
      by zero few makes one = absurd (let h = one.sinks order lilim in omega (arith, few, h))
      by (suc rest) few makes one = record {
        going = record { plan = one.plan; last = one.last };
        rest = rest;
        enough = let h = one.sinks order lilim in omega (arith, few, h);
        makes = sym (ap (λ b. cond b (attempts_from p pins seed count end rest (next p pins seed count end t)) t) on) ∙ makes;
      }

  pub at_end : (all t : Attempts) → can_continue p pins end t ≡ false → AtAttempts p pins seed count end all t → t ≡ all
  unfolding attempts_from
  at_end all t off at = by at.rest at.makes
    where
      by : (rest : ℕ) → attempts_from p pins seed count end rest t ≡ all → t ≡ all
      by zero makes = makes
      by (suc rest) makes = sym (ap (λ b. cond b (attempts_from p pins seed count end rest (next p pins seed count end t)) t) off) ∙ makes

  pub at_begin : (t : Attempts) → end ≡ t.step + count → passes p pins t.plan ≡ true → AtAttempts p pins seed count end (attempts_from p pins seed count end (max_attempts p pins count t) t) t
  at_begin t is plan = record {
    going = record { plan = plan; last = omega (arith, is) };
    rest = max_attempts p pins count t;
    enough = by (serves_all p t.plan);
    makes = refl;
  }
    where
      by : (b : Bool) → end - t.step + (cond b (used_count t.plan) (p.fleet + 1) + t.size) ≤ count + (p.fleet + 1 + t.size)
      by true = omega (arith, is, few_used p pins t.plan plan)
      by false = omega (arith, is)

pub attempts_keep_plans : Below → AttemptsKeepPlans
attempts_keep_plans laws p pins routes seed count step pinned some is = by p.kind
  where
    by : (k : Kind) → AreAttempts p pins count step (attempts_of p pins k seed count (first_attempts routes step))
    by Vrp = record { plan = is; first = omega arith; last = omega arith }
    by LiLim =
        let t = first_attempts routes step in
        let all = attempts_keep laws p pins pinned some seed count (step + count) (max_attempts p pins count t) t is (omega arith) in
        record { plan = all.0; first = all.1; last = all.2 }

-- ---- the cost
module _ (total : CostsAreTotal) (transitive : CostsAreTransitive) (p : Instance) (pins : Routes) (seed count end : ℕ) where
  abbrev CostsNoMore : Routes → Routes → Type 0
  CostsNoMore new old = IsTrue (cost_at_most (cost_of p new) (cost_of p old))

  next_cost : (t : Attempts) (o : Option (List Bool)) → CostsNoMore (next_by p pins seed count end t o).plan t.plan
  next_cost t None = same_cost total (cost_of p t.plan)
  next_cost t (Some marks) = let found = put_back marks (attempt p pins seed (limit (serves_all p t.plan) count end t) t marks).incumbent in
      by found (cost_at_most (cost_of p found) (cost_of p t.plan)) refl
    where
      by : (found : Routes) (c : Bool) → cost_at_most (cost_of p found) (cost_of p t.plan) ≡ c → CostsNoMore (cond c found t.plan) t.plan
      by found true is_so = is_so
      by found false is_not = same_cost total (cost_of p t.plan)

  all_cost : (left : ℕ) (t : Attempts) → CostsNoMore (attempts_from p pins seed count end left t).plan t.plan
  unfolding attempts_from
  all_cost zero t = same_cost total (cost_of p t.plan)
  all_cost (suc left) t = elim (cases_Bool (can_continue p pins end t)) [
    | inr off ↦ rw off (same_cost total (cost_of p t.plan))
    | inl on ↦ rw on (
        let new = next p pins seed count end t in
        transitive (cost_of p (attempts_from p pins seed count end left new).plan) (cost_of p new.plan) (cost_of p t.plan) (all_cost left new) (next_cost t (subfleet p pins t)))
  ]

pub attempts_never_cost_more : CostsAreTotal → CostsAreTransitive → AttemptsNeverCostMore
attempts_never_cost_more total transitive p pins routes seed count step = by p.kind
  where
    by : (k : Kind) → IsTrue (cost_at_most (cost_of p (attempts_of p pins k seed count (first_attempts routes step)).plan) (cost_of p routes))
    by Vrp = same_cost total (cost_of p routes)
    by LiLim = all_cost total transitive p pins seed count (step + count) (max_attempts p pins count (first_attempts routes step)) (first_attempts routes step)

-- ---- the state after the code's attempt
pub after_attempt_is : (p : Instance) (pins plan : Routes) (t : Attempts) (marks : List Bool) (end : AttemptState) (routes : Routes) (step size : ℕ) → routes ≡ end.incumbent → step ≡ end.step
    → plan ≡ cond (cost_at_most (cost_of p (put_back marks routes)) (cost_of p t.plan)) (put_back marks routes) t.plan
    → size ≡ cond (serves_all p t.plan && not (serves_all p (put_back marks routes))) (t.size / 2) t.size
    → (record { plan = plan; step = step; size = size }) ≡ after_attempt p pins t marks end
after_attempt_is p pins plan t marks end routes step size same steps taken sized =
    let back : put_back marks routes ≡ put_back marks end.incumbent = ap (put_back marks) same in
    let plans = taken ∙ ap (λ found. cond (cost_at_most (cost_of p found) (cost_of p t.plan)) found t.plan) back in
    let sizes = sized ∙ ap (λ found. cond (serves_all p t.plan && not (serves_all p found)) (t.size / 2) t.size) back in
    ap (λ l. record { plan = l; step = step; size = size }) plans
    ∙ (ap (λ n. record { plan = cond (cost_at_most (cost_of p (put_back marks end.incumbent)) (cost_of p t.plan)) (put_back marks end.incumbent) t.plan; step = n; size = size }) steps
    ∙ ap (λ n. record { plan = cond (cost_at_most (cost_of p (put_back marks end.incumbent)) (cost_of p t.plan)) (put_back marks end.incumbent) t.plan; step = end.step; size = n }) sizes)

pub chosen_routes : (b : Bool) (found plan : Plan) → (cond b found plan).routes ≡ cond b found.routes plan.routes
chosen_routes true found plan = refl
chosen_routes false found plan = refl

pub picked_passes : PickedPass → (p q : Instance) (pins routes a b : Routes) (kept : List Bool) (n : ℕ) → length kept ≡ p.fleet → length kept ≡ length pins → passes p pins routes ≡ true
    → q ≡ with_fleet p n → n ≡ marked kept → a ≡ picked kept pins → b ≡ picked kept routes → passes q a b ≡ true
picked_passes law p q pins routes a b kept n long pinned is smaller fleet pins_are routes_are =
    ap (λ x. passes x a b) (smaller ∙ ap (with_fleet p) fleet)
    ∙ (ap (λ l. passes (with_fleet p (marked kept)) l b) pins_are ∙ (ap (passes (with_fleet p (marked kept)) (picked kept pins)) routes_are ∙ law p pins routes kept long pinned is))

pub next_is : (p : Instance) (pins : Routes) (seed count end : ℕ) (t new : Attempts) (marks : List Bool) (until : ℕ) (whole : Bool) → subfleet p pins t ≡ Some marks
    → whole ≡ serves_all p t.plan → until ≡ limit whole count end t
    → new ≡ after_attempt p pins t marks (attempt p pins seed until t marks) → new ≡ next p pins seed count end t
next_is p pins seed count end t new marks until whole found wholes lasts made =
    made ∙ (ap (λ l. after_attempt p pins t marks (attempt p pins seed l t marks)) (lasts ∙ ap (λ w. limit w count end t) wholes) ∙ ap (next_by p pins seed count end t) (sym found))

pub plan_of_passing : (p : Instance) (pins routes : Routes) → passes p pins routes ≡ true → AreDistinctStops p (concat routes)
plan_of_passing p pins routes is = ((passing_is_local p pins routes).0 is).plan

pub size_of : (p : Instance) (pins : Routes) (end : ℕ) (t : Attempts) → can_continue p pins end t ≡ true → 0 < t.size
size_of p pins end t on = ltb-true 0 t.size (and_parts (nat_lt t.step end) (nat_lt 0 t.size) on).1

pub goes_on : (p : Instance) (pins : Routes) (end : ℕ) (t : Attempts) → t.step < end → 0 < t.size → can_continue p pins end t ≡ true
goes_on p pins end t below some = and_from (nat_lt t.step end) (nat_lt 0 t.size) (lt-ltb t.step end below) (lt-ltb 0 t.size some)

pub goes_off : (p : Instance) (pins : Routes) (end : ℕ) (t : Attempts) → (t.step < end → 0 < t.size → ⊥) → can_continue p pins end t ≡ false
goes_off p pins end t never = by (can_continue p pins end t) refl
  where
    by : (b : Bool) → can_continue p pins end t ≡ b → can_continue p pins end t ≡ false
    by false e = e
    by true e = let both = and_parts (nat_lt t.step end) (nat_lt 0 t.size) e in absurd (never (ltb-true t.step end both.0) (ltb-true 0 t.size both.1))
