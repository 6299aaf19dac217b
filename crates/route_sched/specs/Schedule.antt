-- The starts, loads and distance of a route.
use Rattle.std.specs.Prelude.{ℕ, ◌+◌, ◌-◌, max, ℤ, pos, ◌+ℤ◌, List, map, length, sum, fold}
use Rattle.std.specs.List.{range_with_len}
use Rattle.plan_types.specs.Instance.{Instance}
use Rattle.nint_dist.specs.Distance.{distance}
use Rattle.route_sched.specs.Route.{place}

-- the distance from a place to the next one
abbrev pub leg : Instance → List ℕ → ℕ → ℕ
leg p route k = distance (place p route k) (place p route (k + 1))

-- the time from the start of service at place j to the arrival at place i without waiting: the sum, over k =
-- j..i-1, of the service at k and the distance to k + 1
abbrev pub time_between : Instance → List ℕ → ℕ → ℕ → ℕ
time_between p route j i = sum (map (λ k. (place p route k).service + leg p route k) (range_with_len j (i - j)))

-- the greatest number of a list, or 0 for the empty list
abbrev pub greatest : List ℕ → ℕ
greatest xs = fold max 0 xs

-- the start of service at place i: the greatest, over all places j ≤ i, of the earliest time at j plus the time
-- from j to i
unfoldable pub start : Instance → List ℕ → ℕ → ℕ
start p route i = greatest (map (λ j. (place p route j).earliest + time_between p route j i) (range_with_len 0 (i + 1)))

-- the load after place i: the sum of the demands at places 1..i
unfoldable pub load : Instance → List ℕ → ℕ → ℤ
load p route i = fold ◌+ℤ◌ (pos 0) (map (λ k. (place p route k).demand) (range_with_len 1 i))

-- the sum of the legs, including those from and to the depot
unfoldable pub route_length : Instance → List ℕ → ℕ
route_length p route = sum (map (leg p route) (range_with_len 0 (length route + 1)))

-- the start of service at each stop, then the time of the return
abbrev pub starts_of : Instance → List ℕ → List ℕ
starts_of p route = map (λ k. start p route (k + 1)) (range_with_len 0 (length route + 1))

-- the load after each stop
abbrev pub loads_of : Instance → List ℕ → List ℤ
loads_of p route = map (λ k. load p route (k + 1)) (range_with_len 0 (length route))
