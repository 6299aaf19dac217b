-- The `start`, `load` and the like of a route are those of its stops by place.
use Rattle.std.proofs.Common.{◌≡◌, ℕ, zero, suc, ◌+◌, ◌<◌, ◌≤◌, ◌⊎◌, pos, ◌≤ℤ◌, List, length, refl, sym, ap, ◌∙◌, arith, subst, inl, inr}
use Rattle.std.proofs.Math.ListN.{get_or-map, length-map}
use Rattle.std.proofs.lemmas.Bool.{cases_lt}
use Rattle.std.proofs.lemmas.Int.{ints}
use Rattle.plan_types.specs.Instance.{Instance}
use Rattle.plan_types.specs.declared.requests.Kind.TheVariants.{LiLim}
use Rattle.route_sched.specs.Route.{place, stop_numbered}
use Rattle.route_sched.specs.Schedule.{start, load, route_length}
use Rattle.route_sched.specs.Chain.{sum_between, chain}
use Rattle.route_sched.proofs.KnownStops.{place-return}
use Rattle.route_sched.proofs.Steps.{start-chain}
use Rattle.slack_tables.specs.Course.{Course, course_of}
use Rattle.slack_tables.specs.Along.{stop_on, start_along, moved_along, load_along, length_along}
use Rattle.slack_tables.specs.Insertion.{KeepsLimits}
use Rattle.slack_tables.specs.Latest.{moved_start}
use Rattle.slack_tables.specs.TableFields.{IsInLimits}
use Rattle.slack_tables.proofs.AlongLemmas.{load-first, load-next}

-- ---- by place
pub start-is : (p : Instance) (route : List ℕ) (k : ℕ) → start p route k ≡ start_along (place p route) k
start-is p route k = start-chain p route k

pub moved-is : (p : Instance) (route : List ℕ) (i t k : ℕ) → moved_start p route i t k ≡ moved_along (place p route) i t k
unfolding moved_start chain sum_between
moved-is p route i t k = refl

pub load-is : (p : Instance) (route : List ℕ) (k : ℕ) → load p route k ≡ load_along (place p route) k
unfolding load load_along
load-is p route k = refl

pub length-is : (p : Instance) (route : List ℕ) → route_length p route ≡ length_along (place p route) (length route + 1)
unfolding route_length length_along
length-is p route = refl

-- the places of a route are those of its course
pub place-on : (p : Instance) (route : List ℕ) (k : ℕ) → place p route k ≡ stop_on (course_of p route) k
unfolding place
place-on p route zero = refl
place-on p route (suc k) = sym (get_or-map (stop_numbered p) route k 0)

pub places-on : (p : Instance) (route : List ℕ) (c : Course) → course_of p route ≡ c → place p route ≡ stop_on c
places-on p route c is = subst (λ c. place p route ≡ stop_on c) is (λ i k. place-on p route k i)

pub long-on : (p : Instance) (route : List ℕ) (c : Course) → course_of p route ≡ c → length c.stops ≡ length route
long-on p route c is = subst (λ c. length c.stops ≡ length route) is (length-map route (stop_numbered p))

-- ---- limits
pub limits-to : (p : Instance) (route : List ℕ) → p.depot.demand ≡ pos 0 → KeepsLimits p route → IsInLimits p.kind p.capacity (place p route) (length route + 1)
limits-to p route nothing keeps = record {
  load = λ k h l. load-by k h (cases_lt k (length route + 1)) l;
  window = λ lilim k h l. window-by lilim k h (cases_lt k (length route + 1)) l;
}
  where
    back : place p route (length route + 1) ≡ p.depot
    back = place-return p route (length route) (omega arith)

    at-stop : (k : ℕ) → k ≤ length route → load_along (place p route) k ≤ℤ pos p.capacity
    at-stop zero l = subst (λ x. x ≤ℤ pos p.capacity) (sym (load-first (place p route))) (omega (arith, ints))
    at-stop (suc k) l = subst (λ x. x ≤ℤ pos p.capacity) (load-is p route (suc k)) (keeps.load (suc k) (omega arith) l)

    load-by : (k : ℕ) → 1 ≤ k → (k < length route + 1) ⊎ (length route + 1 ≤ k) → k ≤ length route + 1 → load_along (place p route) k ≤ℤ pos p.capacity
    load-by k h (inl before) l = at-stop k (omega arith)
    load-by k h (inr last) l =
        let end : length route + 1 ≡ k = omega arith in
        let none : (place p route (length route + 1)).demand ≡ pos 0 = ap (λ s. s.demand) back ∙ nothing in
        let before = at-stop (length route) (omega arith) in
        let next = load-next (place p route) (length route) in
        subst (λ k. load_along (place p route) k ≤ℤ pos p.capacity) end (omega (arith, ints))

    window-by : p.kind ≡ LiLim → (k : ℕ) → 1 ≤ k → (k < length route + 1) ⊎ (length route + 1 ≤ k) → k ≤ length route + 1
        → start_along (place p route) k ≤ (place p route k).latest
    window-by lilim k h (inl before) l = subst (λ x. x ≤ (place p route k).latest) (start-is p route k) (keeps.window lilim k h (omega arith))
    window-by lilim k h (inr last) l =
        let end : length route + 1 ≡ k = omega arith in
        let due : (place p route (length route + 1)).latest ≡ p.depot.latest = ap (λ s. s.latest) back in
        let is = start-is p route (length route + 1) in
        subst (λ k. start_along (place p route) k ≤ (place p route k).latest) end (omega arith)

pub limits-from : (p : Instance) (route : List ℕ) → IsInLimits p.kind p.capacity (place p route) (length route + 1) → KeepsLimits p route
limits-from p route is = record {
  load = λ k h l. subst (λ x. x ≤ℤ pos p.capacity) (sym (load-is p route k)) (is.load k h (omega arith));
  window = λ lilim k h l. subst (λ x. x ≤ (place p route k).latest) (sym (start-is p route k)) (is.window lilim k h (omega arith));
  return = λ lilim.
      (let back : place p route (length route + 1) ≡ p.depot = place-return p route (length route) (omega arith) in
      let due : (place p route (length route + 1)).latest ≡ p.depot.latest = ap (λ s. s.latest) back in
      let same = start-is p route (length route + 1) in
      let le = is.window lilim (length route + 1) (omega arith) (omega arith) in
      omega arith);
}
