-- If a plan passes, its routes of the marked vehicles pass as a plan of just these vehicles. A plan of these vehicles,
-- put back as a plan of all vehicles, passes as well.
use Rattle.std.proofs.Common.{◌≡◌, ◌∙◌, ℕ, zero, suc, ◌+◌, ◌<◌, ◌≤◌, Bool, true, false, cond, drop, get_or, not, ◌==◌, List, [], ◌∷◌, ◌++◌, All, length, Some, refl, sym, ap, subst, arith}
use Rattle.std.specs.List.{concat}
use Rattle.std.proofs.Math.Seq.{drop-cons}
use Rattle.std.proofs.lemmas.List.Elements.{All-cons, All-tail}
use Rattle.std.proofs.lemmas.List.Sums.{count_by-le-length, sum_by-cons}
use Rattle.plan_types.specs.Instance.{Instance}
use Rattle.plan_types.specs.declared.requests.Kind.{Kind}
use Rattle.plan_types.specs.declared.requests.Kind.TheVariants.{LiLim, Vrp}
use Rattle.route_sched.specs.Cost.{used_count}
use Rattle.route_sched.specs.Route.{AreDistinctStops}
use Rattle.plan_audit.specs.Alone.{IsFeasibleAlone}
use Rattle.plan_audit.specs.Laws.{KeepsPins}
use Rattle.plan_audit.specs.Locality.{FeasibilityIsLocal, IsPassing}
use Rattle.plan_audit.specs.Passes.{feasible_alone, keeps_times}
use Rattle.plan_audit.specs.Rules.{item_at}
use Rattle.plan_audit.proofs.LocalLemmas.{passing_is_local}
use Rattle.plan_audit.proofs.TestLemmas.{feasible_alone_decides_feasibility}
use Rattle.move_ops.proofs.OccurrenceLemmas.{none_some, some_same, once_few, once_from, once_known, times, times-append}
use Rattle.fleet_reduction.specs.Fleets.{list_at, marked, picked, put_back, with_fleet}
use Rattle.fleet_reduction.specs.Laws.{PickedPass, PutBackPass, PutBackUseFewer}

abbrev Routes : Type 0
Routes = List (List ℕ)

pub marked_more : (k : Bool) (kept : List Bool) → marked (k ∷ kept) ≡ cond k 1 0 + marked kept
marked_more k kept = sum_by-cons (λ (x : Bool). cond x 1 0) k kept

pub few_marked : (kept : List Bool) → marked kept ≤ length kept
few_marked kept = count_by-le-length (λ (k : Bool). k) kept

-- ---- the number and the stops of picked lists
pub length_picked : (kept : List Bool) (lists : Routes) → length (picked kept lists) ≡ marked kept
length_picked [] lists = refl
length_picked (true ∷ kept) [] = let h = length_picked kept [] in let m = marked_more true kept in omega (arith, h, m)
length_picked (true ∷ kept) (l ∷ lists) = let h = length_picked kept lists in let m = marked_more true kept in omega (arith, h, m)
length_picked (false ∷ kept) [] = let h = length_picked kept [] in let m = marked_more false kept in omega (arith, h, m)
length_picked (false ∷ kept) (l ∷ lists) = let h = length_picked kept lists in let m = marked_more false kept in omega (arith, h, m)

length_back : (kept : List Bool) (lists : Routes) → length (put_back kept lists) ≡ length kept
length_back [] lists = refl
length_back (true ∷ kept) [] = let h = length_back kept [] in omega (arith, h)
length_back (true ∷ kept) (l ∷ lists) = let h = length_back kept lists in omega (arith, h)
length_back (false ∷ kept) lists = let h = length_back kept lists in omega (arith, h)

times_picked : (x : ℕ) (kept : List Bool) (lists : Routes) → times x (concat (picked kept lists)) ≤ times x (concat lists)
times_picked x [] lists = omega arith
times_picked x (true ∷ kept) [] = times_picked x kept []
times_picked x (true ∷ kept) (l ∷ lists) =
    let h = times_picked x kept lists in let a = times-append x l (concat (picked kept lists)) in let b = times-append x l (concat lists) in omega (arith, h, a, b)
times_picked x (false ∷ kept) [] = times_picked x kept []
times_picked x (false ∷ kept) (l ∷ lists) = let h = times_picked x kept lists in let b = times-append x l (concat lists) in omega (arith, h, b)

concat_back : (kept : List Bool) (lists : Routes) → length lists ≡ marked kept → concat (put_back kept lists) ≡ concat lists
concat_back [] [] all = refl
concat_back [] (l ∷ lists) all = absurd (omega (arith, all))
concat_back (true ∷ kept) [] all = absurd (let m = marked_more true kept in omega (arith, all, m))
concat_back (true ∷ kept) (l ∷ lists) all = ap (λ ns. l ++ ns) (concat_back kept lists (let m = marked_more true kept in omega (arith, all, m)))
concat_back (false ∷ kept) lists all = concat_back kept lists (let m = marked_more false kept in omega (arith, all, m))

used_more : (l : List ℕ) (lists : Routes) → used_count (l ∷ lists) ≡ cond (not (length l == 0)) 1 0 + used_count lists
used_more l lists = sum_by-cons (λ (route : List ℕ). cond (not (length route == 0)) 1 0) l lists

one_used : (b : Bool) → cond b 1 0 ≤ 1
one_used true = omega arith
one_used false = omega arith

pub used_back : (kept : List Bool) (lists : Routes) → used_count (put_back kept lists) ≤ marked kept
used_back [] lists = omega arith
used_back (true ∷ kept) [] = let h = used_back kept [] in let m = marked_more true kept in let u = used_more [] (put_back kept []) in omega (arith, h, m, u)
used_back (true ∷ kept) (l ∷ lists) =
    let h = used_back kept lists in let m = marked_more true kept in let u = used_more l (put_back kept lists) in let o = one_used (not (length l == 0)) in omega (arith, h, m, u, o)
used_back (false ∷ kept) lists = let h = used_back kept lists in let m = marked_more false kept in let u = used_more [] (put_back kept lists) in omega (arith, h, m, u)

-- ---- properties of each list
module _ (P : List ℕ → Type 0) (none : P []) where
  all_picked : (kept : List Bool) (lists : Routes) → All P lists → All P (picked kept lists)
  all_picked [] lists all = λ k d below. absurd (omega (arith, below))
  all_picked (true ∷ kept) [] all = All-cons P [] (picked kept []) none (all_picked kept [] all)
  all_picked (true ∷ kept) (l ∷ lists) all = All-cons P l (picked kept lists) (all zero l (omega arith)) (all_picked kept lists (All-tail P l lists all))
  all_picked (false ∷ kept) [] all = all_picked kept [] all
  all_picked (false ∷ kept) (l ∷ lists) all = all_picked kept lists (All-tail P l lists all)

  all_back : (kept : List Bool) (lists : Routes) → All P lists → All P (put_back kept lists)
  all_back [] lists all = λ k d below. absurd (omega (arith, below))
  all_back (true ∷ kept) [] all = All-cons P [] (put_back kept []) none (all_back kept [] all)
  all_back (true ∷ kept) (l ∷ lists) all = All-cons P l (put_back kept lists) (all zero l (omega arith)) (all_back kept lists (All-tail P l lists all))
  all_back (false ∷ kept) lists all = All-cons P [] (put_back kept lists) none (all_back kept lists all)

-- ---- pins
no_stop : (i x : ℕ) → item_at {X = ℕ} [] i ≡ Some x → ⊥
no_stop zero x at = none_some x at
no_stop (suc i) x at = none_some x at

abbrev Begins : List ℕ → List ℕ → Type 0
Begins route pin = (i n : ℕ) → item_at pin i ≡ Some n → item_at route i ≡ Some n

no_pins : (routes : Routes) → KeepsPins routes []
no_pins routes zero i n s = absurd (none_some s.0 s.1)
no_pins routes (suc r) i n s = absurd (none_some s.0 s.1)

module _ (route pin : List ℕ) (routes pins : Routes) where
  head_kept : KeepsPins (route ∷ routes) (pin ∷ pins) → Begins route pin
  head_kept kept i n at = let t = kept 1 i n (pin, refl, at) in subst (λ l. item_at l i ≡ Some n) (sym (some_same route t.0 t.1)) t.2

  tail_kept : KeepsPins (route ∷ routes) (pin ∷ pins) → KeepsPins routes pins
  tail_kept kept zero i n s = absurd (none_some s.0 s.1)
  tail_kept kept (suc r) i n s = kept (suc (suc r)) i n s

  both_kept : Begins route pin → KeepsPins routes pins → KeepsPins (route ∷ routes) (pin ∷ pins)
  both_kept here rest zero i n s = absurd (none_some s.0 s.1)
  both_kept here rest (suc zero) i n s = (route, refl, here i n (subst (λ l. item_at l i ≡ Some n) (sym (some_same pin s.0 s.1)) s.2))
  both_kept here rest (suc (suc r)) i n s = rest (suc r) i n s

picked_pins : (kept : List Bool) (routes pins : Routes) → length kept ≡ length routes → length kept ≡ length pins → KeepsPins routes pins → KeepsPins (picked kept routes) (picked kept pins)
picked_pins [] routes pins a b is = no_pins []
picked_pins (k ∷ kept) [] pins a b is = absurd (omega (arith, a))
picked_pins (k ∷ kept) (route ∷ routes) [] a b is = absurd (omega (arith, b))
picked_pins (true ∷ kept) (route ∷ routes) (pin ∷ pins) a b is =
    both_kept route pin (picked kept routes) (picked kept pins) (head_kept route pin routes pins is)
    (picked_pins kept routes pins (omega (arith, a)) (omega (arith, b)) (tail_kept route pin routes pins is))
picked_pins (false ∷ kept) (route ∷ routes) (pin ∷ pins) a b is = picked_pins kept routes pins (omega (arith, a)) (omega (arith, b)) (tail_kept route pin routes pins is)

back_pins : (kept : List Bool) (routes pins : Routes) → length routes ≡ marked kept → length pins ≡ marked kept → KeepsPins routes pins → KeepsPins (put_back kept routes) (put_back kept pins)
back_pins [] routes pins a b is = no_pins []
back_pins (true ∷ kept) [] pins a b is = absurd (let m = marked_more true kept in omega (arith, a, m))
back_pins (true ∷ kept) (route ∷ routes) [] a b is = absurd (let m = marked_more true kept in omega (arith, b, m))
back_pins (true ∷ kept) (route ∷ routes) (pin ∷ pins) a b is =
    let m = marked_more true kept in
    both_kept route pin (put_back kept routes) (put_back kept pins) (head_kept route pin routes pins is)
    (back_pins kept routes pins (omega (arith, a, m)) (omega (arith, b, m)) (tail_kept route pin routes pins is))
back_pins (false ∷ kept) routes pins a b is =
    let m = marked_more false kept in both_kept [] [] (put_back kept routes) (put_back kept pins) (λ i n at. at) (back_pins kept routes pins (omega (arith, a, m)) (omega (arith, b, m)) is)

-- ---- whole plans
-- an empty route is feasible
pub none_feasible : (p : Instance) → feasible_alone p [] ≡ true
unfolding feasible_alone
none_feasible p = of p.kind
  where
    of : (k : Kind) → keeps_times k p [] ≡ true
    of LiLim = refl
    of Vrp = refl

module _ (local : FeasibilityIsLocal) where
  -- the feasibility of a route does not depend on the fleet
  feasible_in : (p : Instance) (n m : ℕ) (route : List ℕ) → IsFeasibleAlone (with_fleet p n) route → IsFeasibleAlone (with_fleet p m) route
  feasible_in p n m route is =
      let same : feasible_alone (with_fleet p n) route ≡ feasible_alone (with_fleet p m) route =
      local (with_fleet p n) (with_fleet p m) route (record { kind = refl; depot = refl; capacity = refl; requests = λ k d below. refl }) in
      (feasible_alone_decides_feasibility (with_fleet p m) route).0 (sym same ∙ (feasible_alone_decides_feasibility (with_fleet p n) route).1 is)

  all_feasible_in : (p : Instance) (n m : ℕ) (routes : Routes) → All (IsFeasibleAlone (with_fleet p n)) routes → All (IsFeasibleAlone (with_fleet p m)) routes
  all_feasible_in p n m routes all = λ k d below. feasible_in p n m _ (all k d below)

  pub picked_pass : PickedPass
  picked_pass p pins routes kept long pinned is =
      let h : IsPassing p pins routes = (passing_is_local p pins routes).0 is in
      let n = marked kept in
      (passing_is_local (with_fleet p n) (picked kept pins) (picked kept routes)).1
      (record {
        plan =
            once_from (with_fleet p n) (concat (picked kept routes)) (λ x. let a = once_few p (concat routes) h.plan x in let b = times_picked x kept routes in omega (arith, a, b))
            (λ x some. once_known p (concat routes) h.plan x (let b = times_picked x kept routes in omega (arith, some, b)));
        fleet = length_picked kept routes;
        feasible =
            all_picked (IsFeasibleAlone (with_fleet p n)) ((feasible_alone_decides_feasibility (with_fleet p n) []).0 (none_feasible (with_fleet p n))) kept routes
            (all_feasible_in p p.fleet n routes h.feasible);
        pinned = let f : length routes ≡ p.fleet = h.fleet in picked_pins kept routes pins (omega (arith, long, f)) (omega (arith, long, pinned)) h.pinned;
      })

  pub put_back_pass : PutBackPass
  put_back_pass p pins routes kept long own is =
      let n = marked kept in
      let h : IsPassing (with_fleet p n) (picked kept pins) routes = (passing_is_local (with_fleet p n) (picked kept pins) routes).0 is in
      let same : concat (put_back kept routes) ≡ concat routes = concat_back kept routes h.fleet in
      (passing_is_local p pins (put_back kept routes)).1
      (record {
        plan = subst (λ ns. AreDistinctStops p ns) (sym same) (record { live = h.plan.live; distinct = h.plan.distinct });
        fleet = length_back kept routes ∙ long;
        feasible = all_back (IsFeasibleAlone p) ((feasible_alone_decides_feasibility p []).0 (none_feasible p)) kept routes (all_feasible_in p n p.fleet routes h.feasible);
        pinned = subst (KeepsPins (put_back kept routes)) own (back_pins kept routes (picked kept pins) h.fleet (length_picked kept pins) h.pinned);
      })

pub put_back_use_fewer : PutBackUseFewer
put_back_use_fewer p pins routes kept is = used_back kept routes

-- ---- one more vehicle
first_left : (lists : Routes) (i : ℕ) → list_at (drop i lists) 0 ≡ list_at lists i
first_left lists zero = refl
first_left [] (suc i) = refl
first_left (l ∷ lists) (suc i) = first_left lists i

rest_left : (lists : Routes) (i : ℕ) → drop 1 (drop i lists) ≡ drop (i + 1) lists
rest_left lists i = let same : i + 1 ≡ suc i = omega arith in by lists i ∙ ap (λ k. drop k lists) (sym same)
  where
    by : (lists : Routes) (i : ℕ) → drop 1 (drop i lists) ≡ drop (suc i) lists
    by lists zero = refl
    by [] (suc i) = refl
    by (l ∷ lists) (suc i) = by lists i

picked_one : (k : Bool) (kept : List Bool) (lists : Routes) → picked (k ∷ kept) lists ≡ cond k (list_at lists 0 ∷ picked kept (drop 1 lists)) (picked kept (drop 1 lists))
picked_one true kept [] = refl
picked_one true kept (l ∷ lists) = refl
picked_one false kept [] = refl
picked_one false kept (l ∷ lists) = refl

module _ (kept : List Bool) (lists : Routes) (i : ℕ) (within : i < length kept) where
  opened : drop i kept ≡ get_or kept i false ∷ drop (i + 1) kept
  opened = let same : i + 1 ≡ suc i = omega arith in drop-cons kept i false within ∙ ap (λ k. get_or kept i false ∷ drop k kept) (sym same)

  pub picked_next : picked (drop i kept) (drop i lists)
      ≡ cond (get_or kept i false) (list_at lists i ∷ picked (drop (i + 1) kept) (drop (i + 1) lists)) (picked (drop (i + 1) kept) (drop (i + 1) lists))
  picked_next =
      ap (λ ks. picked ks (drop i lists)) opened
      ∙ (picked_one (get_or kept i false) (drop (i + 1) kept) (drop i lists)
      ∙ (ap (λ l. cond (get_or kept i false) (l ∷ picked (drop (i + 1) kept) (drop 1 (drop i lists))) (picked (drop (i + 1) kept) (drop 1 (drop i lists)))) (first_left lists i)
      ∙ ap (λ ls. cond (get_or kept i false) (list_at lists i ∷ picked (drop (i + 1) kept) ls) (picked (drop (i + 1) kept) ls)) (rest_left lists i)))
