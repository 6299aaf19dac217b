-- The greatest of the sums that end at one place. Each start of service is such a greatest sum, in a route or in
-- any other sequence of stops.
use Rattle.std.specs.Prelude.{ℕ, ◌+◌, ◌-◌, map, sum}
use Rattle.std.specs.List.{range_with_len}
use Rattle.route_sched.specs.Schedule.{greatest}

-- the sum of f k over k = j..i-1
unfoldable pub sum_between : (ℕ → ℕ) → ℕ → ℕ → ℕ
sum_between f j i = sum (map f (range_with_len j (i - j)))

-- the greatest, over j = i..k, of e j plus the sum of f from j to k - 1
unfoldable pub chain : (ℕ → ℕ) → (ℕ → ℕ) → ℕ → ℕ → ℕ
chain e f i k = greatest (map (λ j. e j + sum_between f j k) (range_with_len i (k + 1 - i)))
