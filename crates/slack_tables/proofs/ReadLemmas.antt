-- The values in a table are those of each route with its course.
use Rattle.std.proofs.Common.{◌≡◌, ℕ, ◌+◌, ◌-◌, ◌^◌, ◌<◌, ◌≤◌, ◌⊎◌, List, get_or, length, sym, ap, ◌∙◌, arith, subst, inl, inr}
use Rattle.std.proofs.lemmas.Bool.{cases_lt}
use Rattle.plan_types.specs.Instance.{Instance}
use Rattle.plan_types.specs.declared.requests.Kind.TheVariants.{LiLim}
use Rattle.route_sched.specs.Route.{place}
use Rattle.route_sched.specs.Schedule.{start, load, route_length}
use Rattle.slack_tables.specs.Course.{Course, course_of}
use Rattle.slack_tables.specs.Along.{stop_on, start_along, moved_along, load_along, length_along, MeetsLaterWindowsAlong}
use Rattle.slack_tables.specs.TableFields.{AreKnown}
use Rattle.slack_tables.specs.Places.{IsKnown}
use Rattle.slack_tables.specs.Latest.{MeetsLaterWindows, IsLatestStart}
use Rattle.slack_tables.specs.declared.progress.PlaceSlack.{PlaceSlack}
use Rattle.slack_tables.proofs.CourseLemmas.{places-on, long-on, start-is, moved-is, load-is, length-is}
use Rattle.slack_tables.proofs.LatestLemmas.{arrival-late}

module _ (c : Course) (places : List PlaceSlack) (table : AreKnown c places) (p : Instance) (route : List ℕ) (is : course_of p route ≡ c) where
  on : stop_on c ≡ place p route
  on = sym (places-on p route c is)

  long : length c.stops ≡ length route
  long = long-on p route c is

  pub start-read : (k : ℕ) (d : PlaceSlack) → k ≤ length c.stops + 1 → (get_or places k d).at.start ≡ start p route k
  start-read k d h = let count = table.long in (table.known k d (omega arith)).at.start ∙ (ap (λ f. start_along f k) on ∙ sym (start-is p route k))

  pub stop-read : (k : ℕ) (d : PlaceSlack) → k ≤ length c.stops + 1 → (get_or places k d).at.stop ≡ place p route k
  stop-read k d h = let count = table.long in (table.known k d (omega arith)).at.stop ∙ ap (λ f. f k) on

  pub load-read : (k : ℕ) (d : PlaceSlack) → k ≤ length c.stops + 1 → (get_or places k d).at.load ≡ load p route k
  load-read k d h = let count = table.long in (table.known k d (omega arith)).at.load ∙ (ap (λ f. load_along f k) on ∙ sym (load-is p route k))

  pub length-read : (d : PlaceSlack) → (get_or places (length places - 1) d).at.distance ≡ route_length p route
  length-read d =
      let end : length places - 1 ≡ length route + 1 = omega (arith, long) in
      (table.known (length places - 1) d (omega arith)).at.distance
      ∙ (ap (λ f. length_along f (length places - 1)) on ∙ (ap (length_along (place p route)) end ∙ sym (length-is p route)))

  goes-to : (i t : ℕ) → MeetsLaterWindowsAlong c.kind (stop_on c) (length c.stops + 1) i t → MeetsLaterWindows p route i t
  goes-to i t goes = λ lilim k h l.
      let kind : c.kind ≡ LiLim = sym (ap (λ q. q.kind) is) ∙ lilim in
      subst (λ x. x ≤ (place p route k).latest) (sym (moved-is p route i t k))
      (subst (λ f. moved_along f i t k ≤ (f k).latest) on (goes kind k h (omega (arith, long))))

  goes-from : (i t : ℕ) → MeetsLaterWindows p route i t → MeetsLaterWindowsAlong c.kind (stop_on c) (length c.stops + 1) i t
  goes-from i t goes = λ lilim k h l.
      let kind : p.kind ≡ LiLim = ap (λ q. q.kind) is ∙ lilim in
      subst (λ f. moved_along f i t k ≤ (f k).latest) (sym on)
      (subst (λ x. x ≤ (place p route k).latest) (moved-is p route i t k) (goes kind k h (omega (arith, long))))

  pub latest-read : (k : ℕ) (d : PlaceSlack) → c.kind ≡ LiLim → k < length c.stops + 1 → IsLatestStart p route k (get_or places k d).latest_start
  latest-read k d lilim h = record {
    continues_within_limits =
        goes-to k (get_or places k d).latest_start
        (let small = limit in (known.latest_start lilim (get_or places k d).latest_start (omega arith)).1 (omega arith));
    greatest = λ u goes. by u (goes-from k u goes) (cases_lt (2 ^ 60) u);
  }
    where
      known : IsKnown c.kind (stop_on c) (length c.stops + 1) k (get_or places k d)
      known = table.known k d (let count = table.long in omega arith)

      limit : (get_or places k d).latest_start ≤ 100000000
      limit = known.limit lilim h

      by : (u : ℕ) → MeetsLaterWindowsAlong c.kind (stop_on c) (length c.stops + 1) k u → (2 ^ 60 < u) ⊎ (u ≤ 2 ^ 60) → u ≤ (get_or places k d).latest_start
      by u goes (inr few) = (known.latest_start lilim u few).0 goes
      by u goes (inl much) =
          let there = (table.known (k + 1) d (omega arith)).at.stop in
          let due : (stop_on c (k + 1)).latest ≤ 100000000 = subst (λ s. s.latest ≤ 100000000) there ((table.small (k + 1) d (omega arith)).at.visit.latest) in
          let late : u ≤ moved_along (stop_on c) k u (k + 1) = arrival-late (stop_on c) k u in
          let le = goes lilim (k + 1) (omega arith) (omega arith) in
          absurd (omega arith)
