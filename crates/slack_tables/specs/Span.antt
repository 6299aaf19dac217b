-- Bounds on the distance that a request adds to a route, computed without looking at each place.
use Rattle.std.specs.Prelude.{◌≡◌, ℕ, ◌+◌, ◌-◌, ◌^◌, ◌<◌, ◌≤◌, ℤ, pos, ◌+ℤ◌, ◌-ℤ◌, ◌≤ℤ◌, unsigned_abs, List, length, None, slice_index_or}
use Rattle.plan_types.specs.declared.requests.Stop.{Stop}
use Rattle.nint_dist.specs.Distance.{distance}
use Rattle.slack_tables.specs.Best.{IsFirstOf}
use Rattle.slack_tables.specs.Scan.{AddsSingle}
use Rattle.slack_tables.specs.declared.progress.Limits.{Limits}
use Rattle.slack_tables.specs.declared.progress.PlaceSlack.{PlaceSlack}
use Rattle.slack_tables.specs.declared.span.Span.{Span}
use Rattle.slack_tables.specs.declared.span.DistanceFloors.{DistanceFloors}

-- the leg from one place to the next
abbrev pub table_leg : PlaceSlack → PlaceSlack → ℤ
table_leg a b = pos b.at.distance -ℤ pos a.at.distance

-- the stop is in the bounding box
pub record IsInside (span : Span) (s : Stop) : Type 0 where
  pub west : span.west ≤ℤ s.x
  pub east : s.x ≤ℤ span.east
  pub south : span.south ≤ℤ s.y
  pub north : s.y ≤ℤ span.north

-- small enough that sums do not overflow
pub record IsSmallSpan (span : Span) : Type 0 where
  pub longest_leg : unsigned_abs span.longest_leg ≤ 2 ^ 52
  pub longest_depot_leg : unsigned_abs span.longest_depot_leg ≤ 2 ^ 52
  pub load : unsigned_abs span.load ≤ 2 ^ 52

-- places 1 to n - 1 are in the box, and no leg between them is longer than `longest_leg`
pub record IsSpanTo (span : Span) (places : List PlaceSlack) (n : ℕ) : Type 0 where
  pub inside : (k : ℕ) (d : PlaceSlack) → 1 ≤ k → k < n → IsInside span (slice_index_or places k d).at.stop
  pub longest_leg : (k : ℕ) (d : PlaceSlack) → 1 ≤ k → k + 1 < n → table_leg (slice_index_or places k d) (slice_index_or places (k + 1) d) ≤ℤ span.longest_leg
  pub small : IsSmallSpan span

-- neither the first nor the last leg is longer than `longest_depot_leg`, and `load` is the load at the end
pub record AreEnds (span : Span) (places : List PlaceSlack) : Type 0 where
  pub first : (d : PlaceSlack) → table_leg (slice_index_or places 0 d) (slice_index_or places 1 d) ≤ℤ span.longest_depot_leg
  pub last : (d : PlaceSlack) → table_leg (slice_index_or places (length places - 2) d) (slice_index_or places (length places - 1) d) ≤ℤ span.longest_depot_leg
  pub load : (d : PlaceSlack) → span.load ≡ (slice_index_or places (length places - 1) d).at.load

-- the span of all places
pub record IsSpan (span : Span) (places : List PlaceSlack) : Type 0 where
  pub count : ℕ
  pub some : 2 ≤ count
  pub all : length places ≤ count + 1
  pub within : IsSpanTo span places count
  pub ends : AreEnds span places

-- lower bounds on the distances from the stop to all stops in the box and to the depot
pub record AreDistanceFloors (span : Span) (depot s : Stop) (near : DistanceFloors) : Type 0 where
  pub inside : (t : Stop) → IsInside span t → near.inside ≤ distance t s
  pub to_depot : near.to_depot ≤ distance depot s
  pub inside_small : near.inside ≤ 2 ^ 33
  pub home_small : near.to_depot ≤ 2 ^ 33

-- a lower bound on the distance that a stop adds, between two stops or at an end
pub record IsFloor (span : Span) (near : DistanceFloors) (x : ℤ) : Type 0 where
  pub inside : x ≤ℤ (pos (near.inside + near.inside) -ℤ span.longest_leg)
  pub longest_depot_leg : x ≤ℤ (pos (near.inside + near.to_depot) -ℤ span.longest_depot_leg)

-- a lower bound on the distance that a pair adds if its stops are consecutive
pub record IsFloorOfPair (span : Span) (p q : DistanceFloors) (between_stops : ℕ) (x : ℤ) : Type 0 where
  pub inside : x ≤ℤ (pos (p.inside + between_stops + q.inside) -ℤ span.longest_leg)
  pub first : x ≤ℤ (pos (p.to_depot + between_stops + q.inside) -ℤ span.longest_depot_leg)
  pub last : x ≤ℤ (pos (p.inside + between_stops + q.to_depot) -ℤ span.longest_depot_leg)

-- a single adds at least `below`, wherever it is inserted
pub record IsFarSingle (span : Span) (depot s : Stop) (below : ℤ) : Type 0 where
  pub near : DistanceFloors
  pub nearest : AreDistanceFloors span depot s near
  pub floor : ℤ
  pub lowest : IsFloor span near floor
  pub dear : below ≤ℤ floor

-- a pair adds at least `below`, wherever it is inserted, and whether or not its stops are consecutive
pub record IsFarPair (span : Span) (depot p q : Stop) (below : ℤ) : Type 0 where
  pub to_p : DistanceFloors
  pub nearest_p : AreDistanceFloors span depot p to_p
  pub floor_p : ℤ
  pub lowest_p : IsFloor span to_p floor_p
  pub to_q : DistanceFloors
  pub nearest_q : AreDistanceFloors span depot q to_q
  pub floor_q : ℤ
  pub lowest_q : IsFloor span to_q floor_q
  pub apart : below ≤ℤ (floor_p +ℤ floor_q)
  pub between_stops : ℕ
  pub between : between_stops ≤ distance p q
  pub beside : ℤ
  pub lowest : IsFloorOfPair span to_p to_q between_stops beside
  pub near : below ≤ℤ beside

-- the first and the last place are the depot
pub record AreHome (depot : Stop) (places : List PlaceSlack) : Type 0 where
  pub first : (d : PlaceSlack) → (slice_index_or places 0 d).at.stop ≡ depot
  pub last : (d : PlaceSlack) → (slice_index_or places (length places - 1) d).at.stop ≡ depot

-- each place adds its demand to the load, and the load at the end is at most the greatest load from any place
-- on
pub record AreLaden (places : List PlaceSlack) : Type 0 where
  pub step : (k : ℕ) (d : PlaceSlack) → k + 1 < length places
      → (slice_index_or places (k + 1) d).at.load ≡ (slice_index_or places k d).at.load +ℤ (slice_index_or places (k + 1) d).at.stop.demand
  pub most : (k : ℕ) (d : PlaceSlack) → k < length places → (slice_index_or places (length places - 1) d).at.load ≤ℤ (slice_index_or places k d).max_load

-- a single fits nowhere for less than `below` into a route with this span
abbrev pub RulesOut : Limits → Span → Stop → Stop → ℤ → Type 0
RulesOut limits span depot s below =
    (places : List PlaceSlack) (kept : ℕ) (d : PlaceSlack) → IsSpan span places → AreLaden places → AreHome depot places
    → IsFirstOf (AddsSingle limits places s kept below d) None
