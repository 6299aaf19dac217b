-- A request that is in no route may be tried in each.
use Rattle.std.proofs.Common.{◌≡◌, ℕ, zero, suc, ◌<◌, ◌≤◌, false, List, [], ◌∷◌, length, All, Option, Some, None, IfSome, Bor, inl, inr, refl, sym, subst, arith, nat_eq, slice_index_or}
use Rattle.std.specs.Map.{lookup}
use Rattle.std.specs.Option.{option_copied}
use Rattle.std.proofs.lemmas.Bool.{cases_lt}
use Rattle.plan_types.specs.Instance.{Instance, IsInstance}
use Rattle.plan_types.specs.Laws.{NamedRequestsAreFound}
use Rattle.plan_types.specs.declared.requests.Request.{Request}
use Rattle.plan_types.specs.declared.requests.Request.TheVariants.{Pair, Single}
use Rattle.route_sched.specs.Cost.{is_planned}
use Rattle.route_sched.specs.Route.{AreDistinctStops, IsKnownStop}
use Rattle.move_ops.specs.Insertion.{inserted, route_of, request_named}
use Rattle.move_ops.proofs.InsertionLemmas.{few_numbers, found_known, in_numbers, nowhere, numbers_of, times_inserted, valid_request}
use Rattle.move_ops.proofs.ReplacementLemmas.{times_in_vehicle}
use Rattle.move_ops.proofs.OccurrenceLemmas.{once_few, once_from, once_known, times}
use Rattle.request_explanation.specs.Trials.{MayTake}
use Rattle.request_explanation.specs.TrialConditions.{CanBeTried}
use Rattle.request_explanation.specs.Why.{alone_route}

alone_is : (r : Request) → alone_route r ≡ numbers_of r
alone_is (Single s) = refl
alone_is (Pair a b) = refl

vehicle_at : (routes : List (List ℕ)) (k : ℕ) (d : List ℕ) → k < length routes → route_of routes (suc k) ≡ slice_index_or routes k d
vehicle_at [] k d below = absurd (omega arith)
vehicle_at (route ∷ routes) zero d below = refl
vehicle_at (route ∷ routes) (suc k) d below = vehicle_at routes k d (omega arith)

module _ (found : NamedRequestsAreFound) (p : Instance) (valid : IsInstance p) (name : ℕ) (r : Request) (named : lookup (nat_eq name) p.requests ≡ Some r) where
  few : (n : ℕ) → times n (numbers_of r) ≤ 1
  few n = few_numbers n r (valid_request p.requests name r (valid.valid) named)

  live : (n : ℕ) → 1 ≤ times n (numbers_of r) → IsKnownStop p n
  live n some = found_known found p name n r valid named (in_numbers n r some)

  -- the stops of a current request are known
  pub alone_once : AreDistinctStops p (alone_route r)
  alone_once = subst (AreDistinctStops p) (sym (alone_is r)) (once_from p (numbers_of r) few live)

  -- If a route of known, distinct stops has no stop of the request, it still has known, distinct stops after
  -- the request is inserted.
  put_once : (route : List ℕ) → AreDistinctStops p route → ((n : ℕ) → 1 ≤ times n (numbers_of r) → times n route ≡ 0) → (i j : ℕ) → AreDistinctStops p (inserted r i j route)
  put_once route once none i j = once_from p (inserted r i j route) few_new live_new
    where
      few_new : (n : ℕ) → times n (inserted r i j route) ≤ 1
      few_new n =
          let e = times_inserted n r i j route in
          let one = once_few p route once n in
          let two = few n in
          elim (cases_lt 0 (times n (numbers_of r))) [
            | inl some ↦ (let free = none n (omega arith) in omega arith)
            | inr free ↦ omega arith
          ]

      live_new : (n : ℕ) → 1 ≤ times n (inserted r i j route) → IsKnownStop p n
      live_new n some =
          let e = times_inserted n r i j route in
          elim (cases_lt 0 (times n (numbers_of r))) [
            | inl here ↦ live n (omega arith)
            | inr free ↦ once_known p route once n (omega arith)
          ]

  may_take : (routes : List (List ℕ)) → All (AreDistinctStops p) routes → is_planned routes r ≡ false → All (MayTake p r) routes
  may_take routes once free = λ k d below. record {
    once = λ i j.
        subst (λ route. AreDistinctStops p (inserted r i j route)) (vehicle_at routes k d below)
        (put_once (route_of routes (suc k)) (subst (AreDistinctStops p) (sym (vehicle_at routes k d below)) (once k d below))
        (λ n some. let e = nowhere routes r free n some in let f = times_in_vehicle n routes (suc k) (omega arith) (omega arith) in omega arith) i j);
  }

-- a current request that was found by its name
pub looked_up : NamedRequestsAreFound → (p : Instance) → IsInstance p → (name : ℕ) (found : Option (Bor Request)) → option_copied found ≡ request_named p name → IfSome found (λ r. CanBeTried p r.now)
looked_up found p valid name None is = tt
looked_up found p valid name (Some r) is = record { alone = alone_once found p valid name r.now (sym is); among = may_take found p valid name r.now (sym is) }
