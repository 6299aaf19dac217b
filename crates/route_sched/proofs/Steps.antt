-- Start, load and length from one place to the next.
use Rattle.std.proofs.Common.{◌≡◌, ℕ, zero, suc, ◌*◌, ◌+◌, ◌-◌, ◌≤◌, max, ℤ, pos, ◌+ℤ◌, ◌-ℤ◌, unsigned_abs, List, [], ◌∷◌, map, length, fold, sum, refl, sym, ap, ◌∙◌, arith}
use Rattle.std.specs.List.{range_with_len}
use Rattle.std.proofs.lemmas.List.Sums.{fold_push}
use Rattle.std.proofs.lemmas.List.FromFn.{map-range_with_len_more, sum_by-map-range_with_len_more}
use Rattle.std.proofs.lemmas.Int.{ints}
use Rattle.plan_types.specs.Instance.{Instance}
use Rattle.plan_types.specs.declared.requests.Stop.{Stop}
use Rattle.nint_dist.specs.NearestRoot.{nearest_root, whole_root}
use Rattle.nint_dist.specs.Distance.{distance}
use Rattle.route_sched.specs.Route.{place}
use Rattle.route_sched.specs.Schedule.{leg, start, load, route_length}
use Rattle.route_sched.specs.Chain.{sum_between, chain}
use Rattle.route_sched.proofs.Chains.{chain-next}

-- the first start is the depot's earliest time
pub start-first : (p : Instance) (route : List ℕ) → start p route 0 ≡ p.depot.earliest
unfolding start place
start-first p route = omega arith

-- by its definition a start is a chain over all places up to it
pub start-chain : (p : Instance) (route : List ℕ) (i : ℕ)
    → start p route i ≡ chain (λ j. (place p route j).earliest) (λ k. (place p route k).service + leg p route k) 0 i
unfolding start chain sum_between
start-chain p route i = let all : i + 1 - 0 ≡ i + 1 = omega arith in rw all refl

-- the start at the next place: a vehicle that arrives early waits
pub start-next : (p : Instance) (route : List ℕ) (i : ℕ)
    → start p route (i + 1) ≡ max (place p route (i + 1)).earliest (start p route i + ((place p route i).service + leg p route i))
start-next p route i =
    rw (start-chain p route i, start-chain p route (i + 1))
    (chain-next (λ j. (place p route j).earliest) (λ k. (place p route k).service + leg p route k) 0 i (omega arith))

pub load-first : (p : Instance) (route : List ℕ) → load p route 0 ≡ pos 0
unfolding load
load-first p route = refl

pub load-next : (p : Instance) (route : List ℕ) (i : ℕ) → load p route (i + 1) ≡ load p route i +ℤ (place p route (i + 1)).demand
unfolding load
load-next p route i =
    let demand : ℕ → ℤ = λ k. (place p route k).demand in
    ap (λ xs. fold ◌+ℤ◌ (pos 0) xs) (map-range_with_len_more demand 1 i (i + 1) (omega arith))
    ∙ fold_push ◌+ℤ◌ (pos 0) (map demand (range_with_len 1 i)) (demand (i + 1))

-- ---- the length of a route, leg by leg
pub length_before : Instance → List ℕ → ℕ → ℕ
length_before p route k = sum (map (leg p route) (range_with_len 0 k))

pub length_before-first : (p : Instance) (route : List ℕ) → length_before p route 0 ≡ 0
unfolding length_before
length_before-first p route = refl

pub length_before-next : (p : Instance) (route : List ℕ) (k : ℕ) → length_before p route (k + 1) ≡ length_before p route k + leg p route k
unfolding length_before
length_before-next p route k = sum_by-map-range_with_len_more (λ x. x) (leg p route) 0 k k (omega arith)

pub route_length_is : (p : Instance) (route : List ℕ) → route_length p route ≡ length_before p route (length route + 1)
unfolding length_before route_length
route_length_is p route = refl

-- a stop has distance 0 from itself
pub distance-self : (s : Stop) → distance s s ≡ 0
unfolding distance nearest_root whole_root
distance-self s = rw (same s.x, same s.y) refl
  where
    same : (x : ℤ) → unsigned_abs (x -ℤ x) ≡ 0
    same x = omega (arith, ints)

-- an empty route has length 0
pub route_length-nil : (p : Instance) → route_length p [] ≡ 0
unfolding route_length place
route_length-nil p = omega (arith, distance-self p.depot)

pub route_length-empty : (p : Instance) (route : List ℕ) → length route ≡ 0 → route_length p route ≡ 0
route_length-empty p [] none = route_length-nil p
route_length-empty p (n ∷ route) none = absurd (omega arith)

-- the length up to the next place, from the length up to this one
pub length_before-leg : (p : Instance) (route : List ℕ) (k : ℕ) (here there : Stop) (so_far way : ℕ) → here ≡ place p route k → there ≡ place p route (k + 1)
    → so_far ≡ length_before p route k → way ≡ distance here there → so_far + way ≡ length_before p route (k + 1)
length_before-leg p route k here there so_far way at next is far =
    let same : way ≡ leg p route k = rw (← at, ← next) far in omega (arith, length_before-next p route k)

-- the length of a route is at most 5,656,854, twice the longest leg, for each stop
pub route_length_le : (p : Instance) (route : List ℕ) (k so_far way : ℕ) → k ≡ length route → so_far + way ≡ route_length p route → so_far ≤ 2828427 * k
    → way ≤ 2828427 → so_far + way ≤ 5656854 * length route
route_length_le p route zero so_far way end is few short = omega (arith, route_length-empty p route (sym end))
route_length_le p route (suc k) so_far way end is few short = omega arith
