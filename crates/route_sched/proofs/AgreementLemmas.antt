-- Problems with the same stops for a route produce the same schedule.
use Rattle.std.proofs.Common.{◌≡◌, ℕ, zero, suc, ◌+◌, ◌-◌, List, length, Option, get_or, map, sum, fold, pos, ◌+ℤ◌, unwrap_or, cond, eqb, sym, ap, ◌∙◌, subst, inl, inr}
use Rattle.std.specs.List.{range_with_len}
use Rattle.std.proofs.lemmas.Bool.{cases_lt}
use Rattle.std.proofs.lemmas.List.{get_or_past}
use Rattle.plan_types.specs.Instance.{Instance, stop_at}
use Rattle.plan_types.specs.declared.requests.Stop.{Stop}
use Rattle.nint_dist.specs.Distance.{distance}
use Rattle.route_sched.specs.Agreement.{AgreeOn, SchedulesAgree}
use Rattle.route_sched.specs.Route.{stop_numbered, place}
use Rattle.route_sched.specs.Schedule.{greatest, start, load, route_length}

module _ (p q : Instance) (route : List ℕ) (same : AgreeOn p q route) where
  numbered : (n : ℕ) → stop_at p n ≡ stop_at q n → stop_numbered p n ≡ stop_numbered q n
  numbered n at =
      ap (λ (o : Option Stop). cond (eqb n 0) p.depot (unwrap_or o p.depot)) at
      ∙ ap (λ (d : Stop). cond (eqb n 0) d (unwrap_or (stop_at q n) d)) (same.depot)

  places : (k : ℕ) → place p route k ≡ place q route k
  unfolding place
  places zero = same.depot
  places (suc k) = elim (cases_lt k (length route)) [
    | inl lt ↦ numbered (get_or route k 0) (same.stops k 0 lt)
    | inr ge ↦ subst (λ n. stop_numbered p n ≡ stop_numbered q n) (sym (get_or_past route k 0 ge)) (same.depot)
  ]

  starts : (i : ℕ) → start p route i ≡ start q route i
  unfolding start
  starts i =
      ap (λ (f : ℕ → Stop). greatest
      (map (λ j. (f j).earliest + sum (map (λ k. (f k).service + distance (f k) (f (k + 1))) (range_with_len j (i - j)))) (range_with_len 0 (i + 1))))
      (λ t k. places k t)

  loads : (i : ℕ) → load p route i ≡ load q route i
  unfolding load
  loads i = ap (λ (f : ℕ → Stop). fold ◌+ℤ◌ (pos 0) (map (λ k. (f k).demand) (range_with_len 1 i))) (λ t k. places k t)

  lengths : route_length p route ≡ route_length q route
  unfolding route_length
  lengths = ap (λ (f : ℕ → Stop). sum (map (λ k. distance (f k) (f (k + 1))) (range_with_len 0 (length route + 1)))) (λ t k. places k t)

pub schedules_agree : SchedulesAgree
schedules_agree p q route same = record {
  places = places p q route same;
  starts = starts p q route same;
  loads = loads p q route same;
  length = lengths p q route same;
}
