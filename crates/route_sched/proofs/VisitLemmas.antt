-- The visits of a route, one after another.
use Rattle.std.proofs.Common.{◌≡◌, ℕ, suc, ◌+◌, ◌-◌, ◌≤◌, ◌<◌, max, ℤ, List, [], ◌∷◌, map, take, length, refl, ap, arith}
use Rattle.std.specs.List.{range_with_len}
use Rattle.std.proofs.lemmas.List.FromFn.{take-map-range_with_len, length-map-range_with_len}
use Rattle.plan_types.specs.Instance.{Instance}
use Rattle.plan_types.specs.declared.requests.Stop.{Stop}
use Rattle.nint_dist.specs.Distance.{distance}
use Rattle.route_sched.specs.Route.{place}
use Rattle.route_sched.specs.Schedule.{start, load, starts_of, loads_of}
use Rattle.route_sched.specs.VisitsValue.{VisitsValue}
use Rattle.route_sched.specs.VisitList.{next_visit, visit_after, visits_from}
use Rattle.route_sched.specs.declared.visits.Visit.{Visit}
use Rattle.route_sched.proofs.Steps.{start-next, load-next}

pub visits_from-cons : (p : Instance) (route : List ℕ) (k : ℕ) → k ≤ length route → visits_from p route k ≡ visit_after p route k ∷ visits_from p route (k + 1)
visits_from-cons p route k h =
    let more : length route + 1 - k ≡ suc (length route + 1 - (k + 1)) = omega arith in
    ap (λ n. map (visit_after p route) (range_with_len k n)) more

same_visit : (a b : Stop) (t u : ℕ) (x y : ℤ) (d e : ℕ) → a ≡ b → t ≡ u → x ≡ y → d ≡ e
    → ◌≡◌ {A = Visit} (record { stop = a; start = t; load = x; leg = d }) (record { stop = b; start = u; load = y; leg = e })
same_visit a b t u x y d e p q r s = rw (p, q, r, s) refl

start_after : (p : Instance) (route : List ℕ) (k : ℕ) (here there : Stop) (now : ℕ) → here ≡ place p route k → now ≡ start p route k
    → there ≡ place p route (k + 1) → max (now + here.service + distance here there) there.earliest ≡ start p route (k + 1)
start_after p route k here there now at is next = rw (start-next p route k, ← at, ← is, ← next) (omega arith)

-- the visit after a place, from the visit at that place
pub visit_after_is : (p : Instance) (route : List ℕ) (k : ℕ) (last : Visit) (stop : Stop) → last.stop ≡ place p route k → last.start ≡ start p route k
    → last.load ≡ load p route k → stop ≡ place p route (k + 1) → next_visit last stop ≡ visit_after p route k
visit_after_is p route k last stop at now on_board next =
    same_visit _ _ _ _ _ _ _ _ next (start_after p route k last.stop stop last.start at now next)
    (rw (load-next p route k, on_board, next) refl) (rw (at, next) refl)

pub visit_count : (p : Instance) (route : List ℕ) (k : ℕ) → length (visits_from p route k) ≡ length route + 1 - k
visit_count p route k = length-map-range_with_len (visit_after p route) k (length route + 1 - k)

-- after the next place one visit fewer is left
pub length-visits_from : (p : Instance) (route : List ℕ) (k : ℕ) → k ≤ length route → length (visits_from p route (k + 1)) < length (visits_from p route k)
length-visits_from p route k h = omega (arith, ap length (visits_from-cons p route k h))

-- ---- the visits of a whole route
map_map : {X Y Z : Type 0} (f : Y → Z) (g : X → Y) (xs : List X) → map f (map g xs) ≡ map (λ x. f (g x)) xs
map_map f g [] = refl
map_map f g (x ∷ xs) = ap (λ ys. f (g x) ∷ ys) (map_map f g xs)

visits_from_start : (p : Instance) (route : List ℕ) → visits_from p route 0 ≡ map (visit_after p route) (range_with_len 0 (length route + 1))
visits_from_start p route = let all : length route + 1 - 0 ≡ length route + 1 = omega arith in ap (λ n. map (visit_after p route) (range_with_len 0 n)) all

pub starts_among_visits : (p : Instance) (route : List ℕ) → map (λ (v : Visit). v.start) (visits_from p route 0) ≡ starts_of p route
starts_among_visits p route = rw (visits_from_start p route) (map_map _ _ _)

pub loads_among_visits : (p : Instance) (route : List ℕ) → map (λ (v : Visit). v.load) (take (length route) (visits_from p route 0)) ≡ loads_of p route
loads_among_visits p route =
    rw (visits_from_start p route, take-map-range_with_len (visit_after p route) 0 (length route + 1) (length route) (omega arith)) (map_map _ _ _)

-- an iterator at the beginning of a route yields all its visits
pub all_visits : (w : VisitsValue) (p : Instance) (route : List ℕ) → w ≡ record { problem = p; route = route; place = 0 }
    → visits_from w.problem w.route w.place ≡ visits_from p route 0
all_visits w p route is = ap (λ w. visits_from w.problem w.route w.place) is
