-- Lower bounds on the distance that a request adds to a route.
use Rattle.std.proofs.Common.{◌≡◌, ℕ, ◌+◌, ◌-◌, ◌*◌, ◌/◌, ◌^◌, ◌<◌, ◌≤◌, ◌⊎◌, int_le, ℤ, pos, ◌+ℤ◌, ◌-ℤ◌}
use Rattle.std.proofs.Common.{◌≤ℤ◌, ◌<ℤ◌, List, ◌∷◌, get_or, length, Some, None, sym, ap, ◌∙◌, arith, subst, inl, inr}
use Rattle.std.specs.Prelude.{unsigned_abs}
use Rattle.std.proofs.Math.Nat.{div-mul-le_self}
use Rattle.std.proofs.lemmas.Nat.{mul-le}
use Rattle.std.proofs.lemmas.Bool.{cases_lt, and_parts}
use Rattle.std.proofs.lemmas.Option.{cond_some}
use Rattle.std.proofs.lemmas.Int.{ints}
use Rattle.std.proofs.lemmas.List.{get_or_past}
use Rattle.plan_types.specs.declared.requests.Stop.{Stop}
use Rattle.nint_dist.specs.Distance.{distance, DistancesAreNearestRoots}
use Rattle.nint_dist.proofs.Triangle.{product-le}
use Rattle.slack_tables.specs.Along.{stop_on}
use Rattle.slack_tables.specs.Best.{IsFirstOf}
use Rattle.slack_tables.specs.Course.{Course}
use Rattle.slack_tables.specs.DriveSteps.{with_single, with_pair}
use Rattle.slack_tables.specs.TableFields.{AreKnown}
use Rattle.slack_tables.specs.Legs.{AreLinked, detour_of}
use Rattle.slack_tables.specs.Ride.{ride_of, driven, is_within_limits, tail_is_within_limits, continues_within_limits, price_if_feasible}
use Rattle.slack_tables.specs.Scan.{AddsSingle, AddsPair}
use Rattle.slack_tables.specs.Span.{IsInside, IsSmallSpan, IsSpanTo, AreEnds, IsSpan, AreDistanceFloors}
use Rattle.slack_tables.specs.Span.{IsFloor, IsFloorOfPair, IsFarSingle, IsFarPair, AreHome, AreLaden, table_leg}
use Rattle.slack_tables.specs.declared.progress.Limits.{Limits}
use Rattle.slack_tables.specs.declared.progress.PlaceSlack.{PlaceSlack}
use Rattle.slack_tables.specs.declared.ride.Ride.{Ride}
use Rattle.slack_tables.specs.declared.span.Span.{Span}
use Rattle.slack_tables.specs.declared.span.DistanceFloors.{DistanceFloors}
use Rattle.slack_tables.proofs.AlongLemmas.{load-next}
use Rattle.slack_tables.proofs.DetourLemmas.{near-is, apart-is, price_if_feasible-price}
use Rattle.slack_tables.proofs.SpliceLemmas.{int_le-true}
use Rattle.slack_tables.proofs.WalkLemmas.{distance-back}

-- the component of a distance along a direction (a, b) of length at most 256 is at most the distance
pub along-le : (a b x y c e : ℕ) → a * a + b * b ≤ 65536 → c * 256 ≤ a * x + b * y → x * x + y * y ≤ e * (e + 1) → c ≤ e
along-le a b x y c e short part reach = by (cases_lt e c)
  where
    by : (e < c) ⊎ (c ≤ e) → c ≤ e
    by (inr le) = le
    by (inl less) =
        let products = product-le (a * y) (b * x) in
        let square = mul-le (c * 256) (c * 256) (a * x + b * y) (a * x + b * y) part part in
        let scaled = mul-le (a * a + b * b) (x * x + y * y) 65536 (e * (e + 1)) short reach in
        let over = mul-le (e + 1) (e + 1) c c (omega arith) (omega arith) in
        absurd (omega arith)

-- the components of a distance along the two directions are at most the distance
pub ways-le : (x y e : ℕ) → x * x + y * y ≤ e * (e + 1) → ((x * 251 + y * 50) / 256 ≤ e) × ((x * 213 + y * 142) / 256 ≤ e)
ways-le x y e reach =
    let steep = div-mul-le_self (x * 213 + y * 142) 256 in (
      along-le 251 50 x y ((x * 251 + y * 50) / 256) e (omega arith) (omega arith) reach,
      along-le 213 142 x y ((x * 213 + y * 142) / 256) e (omega arith) (omega arith) reach,
    )

-- the bound on the sum of the squared sides also holds if the sides are ordered by length
pub sides-le : (x y long short e : ℕ) → (x < y → (long ≡ y) × (short ≡ x)) → (y ≤ x → (long ≡ x) × (short ≡ y))
    → x * x + y * y ≤ e * (e + 1) → long * long + short * short ≤ e * (e + 1)
sides-le x y long short e up between_stops reach = by (cases_lt x y)
  where
    by : (x < y) ⊎ (y ≤ x) → long * long + short * short ≤ e * (e + 1)
    by (inl less) = let same = up less in rw (same.0, same.1) (omega arith)
    by (inr more) = let same = between_stops more in rw (same.0, same.1) reach

-- two stops are at least as far apart as along one axis
pub side-le : (x y e : ℕ) → x * x + y * y ≤ e * (e + 1) → x ≤ e
side-le x y e reach = by (cases_lt e x)
  where
    by : (e < x) ⊎ (x ≤ e) → x ≤ e
    by (inr le) = le
    by (inl less) = let square = mul-le (e + 1) (e + 1) x x (omega arith) (omega arith) in absurd (omega arith)

-- a stop in the box is at least as far as the gaps to the box
pub apart-le : DistancesAreNearestRoots → (a b : Stop) (x y w : ℕ) → ((e : ℕ) → x * x + y * y ≤ e * (e + 1) → w ≤ e)
    → x ≤ unsigned_abs (a.x -ℤ b.x) → y ≤ unsigned_abs (a.y -ℤ b.y) → w ≤ distance a b
apart-le law a b x y w least gap_x gap_y =
    let reach = (law a b).reaches in
    let squares_x = mul-le x x (unsigned_abs (a.x -ℤ b.x)) (unsigned_abs (a.x -ℤ b.x)) gap_x gap_x in
    let squares_y = mul-le y y (unsigned_abs (a.y -ℤ b.y)) (unsigned_abs (a.y -ℤ b.y)) gap_y gap_y in
    least (distance a b) (omega arith)

-- ---- the span, place after place
pub span-more : (places : List PlaceSlack) (k : ℕ) (old new : Span) (before here : PlaceSlack) → 1 ≤ k → IsSpanTo old places k
    → ((d : PlaceSlack) → before ≡ get_or places (k - 1) d) → ((d : PlaceSlack) → here ≡ get_or places k d) → IsInside new here.at.stop
    → ((s : Stop) → IsInside old s → IsInside new s) → table_leg before here ≤ℤ new.longest_leg → old.longest_leg ≤ℤ new.longest_leg → IsSmallSpan new
    → IsSpanTo new places (k + 1)
span-more places k old new before here some is is_before is_here inside wider leg longer small = record {
  inside = λ m d h l. inside-by m d h l (cases_lt m k);
  longest_leg = λ m d h l. longest_leg-by m d h l (cases_lt (m + 1) k);
  small = small;
}
  where
    inside-by : (m : ℕ) (d : PlaceSlack) → 1 ≤ m → m < k + 1 → (m < k) ⊎ (k ≤ m) → IsInside new (get_or places m d).at.stop
    inside-by m d h l (inl less) = wider _ (is.inside m d h less)
    inside-by m d h l (inr more) =
        let same : k ≡ m = omega arith in subst (λ (e : PlaceSlack). IsInside new e.at.stop) (is_here d ∙ ap (λ n. get_or places n d) same) inside

    longest_leg-by : (m : ℕ) (d : PlaceSlack) → 1 ≤ m → m + 1 < k + 1 → (m + 1 < k) ⊎ (k ≤ m + 1) → table_leg (get_or places m d) (get_or places (m + 1) d) ≤ℤ new.longest_leg
    longest_leg-by m d h l (inl less) = let le = is.longest_leg m d h less in omega (arith, ints)
    longest_leg-by m d h l (inr more) =
        subst (λ (e : PlaceSlack). table_leg e (get_or places (m + 1) d) ≤ℤ new.longest_leg) (is_before d ∙ ap (λ n. get_or places n d) (omega arith))
        (subst (λ (e : PlaceSlack). table_leg before e ≤ℤ new.longest_leg) (is_here d ∙ ap (λ n. get_or places n d) (omega arith)) leg)

pub ends-same : (old new : Span) (places : List PlaceSlack) → new.longest_depot_leg ≡ old.longest_depot_leg → new.load ≡ old.load → AreEnds old places → AreEnds new places
ends-same old new places longest_depot_leg load ends = record {
  first = λ d. subst (λ x. table_leg (get_or places 0 d) (get_or places 1 d) ≤ℤ x) (sym longest_depot_leg) (ends.first d);
  last = λ d. subst (λ x. table_leg (get_or places (length places - 2) d) (get_or places (length places - 1) d) ≤ℤ x) (sym longest_depot_leg) (ends.last d);
  load = λ d. load ∙ ends.load d;
}

-- ---- the depot and the loads of a table
pub to_depot : (c : Course) (places : List PlaceSlack) → AreKnown c places → AreHome c.depot places
to_depot c places table = let long = table.long in record {
  first = λ d. (table.known 0 d (omega arith)).at.stop;
  last = λ d. (table.known (length places - 1) d (omega arith)).at.stop ∙ get_or_past (c.depot ∷ c.stops) (length places - 1) c.depot (omega arith);
}

pub laden : (c : Course) (places : List PlaceSlack) → AreKnown c places → AreLaden places
laden c places table = let long = table.long in record {
  step = λ k d h.
      (let here = (table.known k d (omega arith)).at in
      let next = (table.known (k + 1) d h).at in
      next.load ∙ (load-next (stop_on c) k
      ∙ (ap (λ x. x +ℤ (stop_on c (k + 1)).demand) (sym (here.load))
      ∙ ap (λ (s : Stop). (get_or places k d).at.load +ℤ s.demand) (sym (next.stop)))));
  most = λ k d h.
      (let here = table.known k d h in
      let last = (table.known (length places - 1) d (omega arith)).at.load in
      let end = (here.max_load (get_or places k d).max_load).0 (omega (arith, ints)) (length places - 1) (omega arith) (omega arith) in
      subst (λ x. x ≤ℤ (get_or places k d).max_load) (sym last) end);
}

-- ---- the distance that a stop adds
module _ (places : List PlaceSlack) (depot : Stop) (span : Span) (is : IsSpan span places) (at_home : AreHome depot places) where
  -- x is a lower bound on the distance that stops p and q add between place m and the next one, if the distance
  -- from p to q is `between_stops`
  between-le : (p q : Stop) (to_p to_q : DistanceFloors) → AreDistanceFloors span depot p to_p → AreDistanceFloors span depot q to_q → (between_stops : ℕ) (x : ℤ)
      → IsFloorOfPair span to_p to_q between_stops x → (m : ℕ) (d : PlaceSlack) → m + 1 < length places
      → x ≤ℤ (pos
      ((get_or places m d).at.distance + distance (get_or places m d).at.stop p + between_stops + distance (get_or places (m + 1) d).at.stop q)
      -ℤ pos (get_or places (m + 1) d).at.distance)
  between-le p q to_p to_q near_p near_q between_stops x floor m d within = by (cases_lt 0 m) (cases_lt (m + 2) (length places))
    where
      Goal : ℕ → Type 0
      Goal k =
          x ≤ℤ (pos
          ((get_or places k d).at.distance + distance (get_or places k d).at.stop p + between_stops + distance (get_or places (k + 1) d).at.stop q)
          -ℤ pos (get_or places (k + 1) d).at.distance)

      count : 2 ≤ is.count
      count = is.some

      all : length places ≤ is.count + 1
      all = is.all

      far : (s : Stop) (near : DistanceFloors) → AreDistanceFloors span depot s near → (k : ℕ) → 1 ≤ k → k < is.count → near.inside ≤ distance (get_or places k d).at.stop s
      far s near nearest k h l = nearest.inside (get_or places k d).at.stop (is.within.inside k d h l)

      by : (0 < m) ⊎ (m ≤ 0) → (m + 2 < length places) ⊎ (length places ≤ m + 2) → Goal m
      by (inl some) (inl more) =
          let to = far p to_p near_p m (omega arith) (omega arith) in
          let from = far q to_q near_q (m + 1) (omega arith) (omega arith) in
          let leg = is.within.longest_leg m d (omega arith) (omega arith) in
          let le = floor.inside in
          omega (arith, ints)
      by (inl some) (inr last) =
          let to = far p to_p near_p m (omega arith) (omega arith) in
          let end : length places - 1 ≡ m + 1 = omega arith in
          let before : length places - 2 ≡ m = omega arith in
          let there : (get_or places (m + 1) d).at.stop ≡ depot = rw end at at_home.last d in
          let from : to_q.to_depot ≤ distance (get_or places (m + 1) d).at.stop q = rw there near_q.to_depot in
          let leg = rw (before, end) at is.ends.last d in
          let le = floor.last in
          omega (arith, ints)
      by (inr none) _ =
          let zero_m : 0 ≡ m = omega arith in
          let from = far q to_q near_q 1 (omega arith) (omega arith) in
          let to : to_p.to_depot ≤ distance (get_or places 0 d).at.stop p = rw (at_home.first d) near_p.to_depot in
          let leg = is.ends.first d in
          let le = floor.first in
          subst Goal zero_m (let first : Goal 0 = omega (arith, ints) in first)

  -- a lower bound on the distance that a stop adds after place m
  pub detour-le : (s : Stop) (near : DistanceFloors) → AreDistanceFloors span depot s near → (x : ℤ) → IsFloor span near x → (m : ℕ) (d : PlaceSlack)
      → m + 1 < length places → x ≤ℤ detour_of places s m d
  detour-le s near nearest x floor m d within =
      let inside = floor.inside in
      let longest_depot_leg = floor.longest_depot_leg in
      let le = between-le s s near near nearest nearest 0 x
      (record { inside = omega (arith, ints); first = omega (arith, ints); last = omega (arith, ints) }) m d within in
      omega (arith, ints)

  -- a lower bound on the distance that a pair adds if its stops are consecutive after place m
  pub beside-le : (p q : Stop) (to_p to_q : DistanceFloors) → AreDistanceFloors span depot p to_p → AreDistanceFloors span depot q to_q → (between_stops : ℕ)
      → between_stops ≤ distance p q → (x : ℤ) → IsFloorOfPair span to_p to_q between_stops x → (m : ℕ) (d : PlaceSlack) → m + 1 < length places
      → x ≤ℤ (pos ((get_or places m d).at.distance + distance (get_or places m d).at.stop p + distance p q
      + distance (get_or places (m + 1) d).at.stop q)
      -ℤ pos (get_or places (m + 1) d).at.distance)
  beside-le p q to_p to_q near_p near_q between_stops between x floor m d within =
      let le = between-le p q to_p to_q near_p near_q between_stops x floor m d within in omega (arith, ints)

-- ---- a single
singles-none : (limits : Limits) (places : List PlaceSlack) (s : Stop) (kept : ℕ) (below : ℤ) (d : PlaceSlack)
    → ((i : ℕ) (x : ℤ) → 1 ≤ i → i < length places → with_single limits places s i d ≡ Some x → below ≤ℤ x)
    → IsFirstOf (AddsSingle limits places s kept below d) None
singles-none limits places s kept below d dear = λ a is.
    (let following = is.0.following in
    let le = dear a.pickup a.distance (omega arith) is.0.within is.0.added in
    let less = is.1 in
    absurd (omega (arith, ints)))

pub far-single : (limits : Limits) (places : List PlaceSlack) (depot s : Stop) (kept : ℕ) (below : ℤ) (d : PlaceSlack) (span : Span)
    → IsSpan span places → AreHome depot places → IsFarSingle span depot s below → IsFirstOf (AddsSingle limits places s kept below d) None
far-single limits places depot s kept below d span is at_home dear =
    singles-none limits places s kept below d
    (λ i x one within some.
    (let cost = price_if_feasible-price limits (ride_of (get_or places (i - 1) d).at) (get_or places (i - 1) d).at.stop.service
    (distance (get_or places (i - 1) d).at.stop s) s (distance s (get_or places i d).at.stop) (get_or places i d) x some in
    let next : i - 1 + 1 ≡ i = omega arith in
    let least =
    subst (λ k. dear.floor
    ≤ℤ (pos
    ((get_or places (i - 1) d).at.distance + distance (get_or places (i - 1) d).at.stop s + distance (get_or places k d).at.stop s)
    -ℤ pos (get_or places k d).at.distance)) next
    (detour-le places depot span is at_home s dear.near dear.nearest dear.floor dear.lowest (i - 1) d (omega arith)) in
    let back = distance-back s (get_or places i d).at.stop in
    omega (arith, ints)))

-- if a stop can be inserted, the greatest load after it is within the capacity
borne : (limits : Limits) (r : Ride) (service to : ℕ) (s : Stop) (from : ℕ) (tail : PlaceSlack) (x : ℤ)
    → price_if_feasible limits r service to s from tail ≡ Some x
    → (r.load +ℤ s.demand +ℤ tail.at.stop.demand -ℤ tail.at.load +ℤ tail.max_load) ≤ℤ pos limits.capacity
borne limits r service to s from tail x is =
    let on = (and_parts (is_within_limits limits (driven r service to s) s) (continues_within_limits limits (driven r service to s) s.service from tail) (cond_some _ _ x is).0).1 in
    let there = (and_parts (is_within_limits limits (driven (driven r service to s) s.service from tail.at.stop) tail.at.stop)
    (tail_is_within_limits limits (driven (driven r service to s) s.service from tail.at.stop) tail) on).1 in
    int_le-true _ _ (and_parts (int_le (r.load +ℤ s.demand +ℤ tail.at.stop.demand -ℤ tail.at.load +ℤ tail.max_load) (pos limits.capacity)) _ there).0

pub full-single : (limits : Limits) (places : List PlaceSlack) (s : Stop) (kept : ℕ) (below : ℤ) (d : PlaceSlack) (span : Span) → IsSpan span places
    → AreLaden places → pos limits.capacity <ℤ (span.load +ℤ s.demand) → IsFirstOf (AddsSingle limits places s kept below d) None
full-single limits places s kept below d span is laden over =
    singles-none limits places s kept below d
    (λ i x one within some.
    (let light = borne limits (ride_of (get_or places (i - 1) d).at) (get_or places (i - 1) d).at.stop.service
    (distance (get_or places (i - 1) d).at.stop s) s (distance s (get_or places i d).at.stop) (get_or places i d) x some in
    let next : i - 1 + 1 ≡ i = omega arith in
    let step = subst (λ k. (get_or places k d).at.load ≡ (get_or places (i - 1) d).at.load +ℤ (get_or places k d).at.stop.demand) next
    (laden.step (i - 1) d (omega arith)) in
    let most = laden.most i d within in
    let end = is.ends.load d in
    absurd (omega (arith, ints))))

-- ---- a pair
pub far-pair : (limits : Limits) (places : List PlaceSlack) (depot p q : Stop) (kept : ℕ) (below : ℤ) (d : PlaceSlack) (span : Span)
    → AreLinked places → IsSpan span places → AreHome depot places → IsFarPair span depot p q below
    → IsFirstOf (AddsPair limits places p q kept below d) None
far-pair limits places depot p q kept below d span linked is at_home dear = λ a adds.
    (let following = adds.0.following in
    let order = adds.0.order in
    let le = at-places a.pickup a.delivery a.distance (omega arith) order adds.0.within adds.0.added in
    let less = adds.1 in
    absurd (omega (arith, ints)))
  where
    at-places : (i j : ℕ) (x : ℤ) → 1 ≤ i → i < j → j ≤ length places → with_pair limits places p q i j d ≡ Some x → below ≤ℤ x
    at-places i j x one order within some = by (cases_lt j (i + 2))
      where
        next : i - 1 + 1 ≡ i
        next = omega arith

        by : (j < i + 2) ⊎ (i + 2 ≤ j) → below ≤ℤ x
        by (inl here) =
            let cost = near-is limits places p q i d linked x (subst (λ n. with_pair limits places p q i n d ≡ Some x) (omega arith) some) in
            let least =
            subst (λ k. dear.beside
            ≤ℤ (pos ((get_or places (i - 1) d).at.distance + distance (get_or places (i - 1) d).at.stop p + distance p q
            + distance (get_or places k d).at.stop q)
            -ℤ pos (get_or places k d).at.distance)) next
            (beside-le places depot span is at_home p q dear.to_p dear.to_q dear.nearest_p dear.nearest_q dear.between_stops dear.between
            dear.beside dear.lowest
            (i - 1) d (omega arith)) in
            let le = dear.near in
            omega (arith, ints)
        by (inr further) =
            let cost = apart-is limits places p q i d linked (j - 2) x (omega arith) (omega arith)
            (subst (λ n. with_pair limits places p q i n d ≡ Some x) (sym (omega arith)) some) in
            let first =
            subst (λ k. dear.floor_p
            ≤ℤ (pos ((get_or places (i - 1) d).at.distance + distance (get_or places (i - 1) d).at.stop p
            + distance (get_or places k d).at.stop p)
            -ℤ pos (get_or places k d).at.distance)) next
            (detour-le places depot span is at_home p dear.to_p dear.nearest_p dear.floor_p dear.lowest_p (i - 1) d (omega arith)) in
            let second = detour-le places depot span is at_home q dear.to_q dear.nearest_q dear.floor_q dear.lowest_q (j - 2) d (omega arith) in
            let way = distance-back p (get_or places i d).at.stop in
            omega (arith, ints)

-- ---- the span of only the first stop
pub span-of_first_stop : (places : List PlaceSlack) (first : PlaceSlack) (t o : ℤ) → ((d : PlaceSlack) → first ≡ get_or places 1 d) → unsigned_abs t ≤ 2 ^ 52
    → unsigned_abs o ≤ 2 ^ 52
    → IsSpanTo
    (record {
      west = first.at.stop.x;
      east = first.at.stop.x;
      south = first.at.stop.y;
      north = first.at.stop.y;
      longest_leg = pos 0;
      longest_depot_leg = t;
      load = o;
    }) places 2
span-of_first_stop places first t o is_first longest_depot_leg load = record {
  inside = λ k d h l.
      (let one : 1 ≡ k = omega arith in
      subst (λ (e : PlaceSlack). IsInside
      (record {
        west = first.at.stop.x;
        east = first.at.stop.x;
        south = first.at.stop.y;
        north = first.at.stop.y;
        longest_leg = pos 0;
        longest_depot_leg = t;
        load = o;
      }) e.at.stop)
      (is_first d ∙ ap (λ n. get_or places n d) one)
      (record { west = omega (arith, ints); east = omega (arith, ints); south = omega (arith, ints); north = omega (arith, ints) }));
  longest_leg = λ k d h l. absurd (omega arith);
  small = record { longest_leg = omega (arith, ints); longest_depot_leg = longest_depot_leg; load = load };
}
