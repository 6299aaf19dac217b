-- Lemmas about setting and removing pins, and about plans without stops
use Rattle.std.proofs.Common.{◌≡◌, ℕ, zero, suc, ◌-◌, ◌≤◌, Bool, true, List, [], ◌∷◌, length, take, set, replicate, is_some, refl, ap, eqb, nat_eq, arith}
use Rattle.std.specs.List.{list_all, concat, starts_with}
use Rattle.std.proofs.lemmas.Bool.{and_parts, and_from, eq-eqb}
use Rattle.std.proofs.lemmas.List.{length-replicate}
use Rattle.plan_types.specs.Instance.{Instance, stop_at}
use Rattle.plan_audit.specs.Passes.{are_distinct, begin_with_pins, feasible_alone, passes}
use Rattle.move_ops.specs.Insertion.{route_of, with_route}
use Rattle.command_core.specs.Effects.{no_stops}
use Rattle.fleet_reduction.proofs.PickedLemmas.{none_feasible}
use Rattle.command_types.proofs.PassLemmas.{parts_of, from_parts}

nothing : (n : ℕ) → concat (replicate n []) ≡ []
nothing zero = refl
nothing (suc n) = nothing n

pub none_all_feasible : (p : Instance) (n : ℕ) → list_all (feasible_alone p) (replicate n []) ≡ true
none_all_feasible p zero = refl
none_all_feasible p (suc n) = and_from (feasible_alone p []) _ (none_feasible p) (none_all_feasible p n)

none_pinned : (n : ℕ) → begin_with_pins (replicate n []) (replicate n []) ≡ true
none_pinned zero = refl
none_pinned (suc n) = none_pinned n

-- A plan without stops passes
pub none_passes : (p : Instance) → passes p (no_stops p) (no_stops p) ≡ true
none_passes p =
    from_parts p (no_stops p) (no_stops p) (record {
      known = ap (list_all (λ n. is_some (stop_at p n))) (nothing p.fleet);
      distinct = ap are_distinct (nothing p.fleet);
      fleet = length-replicate p.fleet [];
      feasible = none_all_feasible p p.fleet;
      pinned = none_pinned p.fleet;
    })

-- A route begins with any of its prefixes
begins : (route : List ℕ) (k : ℕ) → starts_with nat_eq route (take k route) ≡ true
begins route zero = refl
begins [] (suc k) = refl
begins (n ∷ route) (suc k) = and_from (nat_eq n n) _ (eq-eqb n n refl) (begins route k)

-- After a pin is emptied, all routes still begin with their pins
set_none : (routes pins : List (List ℕ)) (i : ℕ) → begin_with_pins routes pins ≡ true → begin_with_pins routes (set pins i []) ≡ true
set_none routes [] i kept = kept
set_none [] (pin ∷ pins) zero kept = (and_parts (eqb (length pin) 0) (begin_with_pins [] pins) kept).1
set_none [] (pin ∷ pins) (suc i) kept = let both = and_parts (eqb (length pin) 0) (begin_with_pins [] pins) kept in and_from (eqb (length pin) 0) _ both.0 (set_none [] pins i both.1)
set_none (route ∷ routes) (pin ∷ pins) zero kept = (and_parts (starts_with nat_eq route pin) (begin_with_pins routes pins) kept).1
set_none (route ∷ routes) (pin ∷ pins) (suc i) kept =
    let both = and_parts (starts_with nat_eq route pin) (begin_with_pins routes pins) kept in and_from (starts_with nat_eq route pin) _ both.0 (set_none routes pins i both.1)

-- After a pin is set to the first stops of its vehicle's route, all routes still begin with their pins
set_prefix : (routes pins : List (List ℕ)) (i k : ℕ) → begin_with_pins routes pins ≡ true → begin_with_pins routes (set pins i (take k (route_of routes (suc i)))) ≡ true
set_prefix routes [] i k kept = kept
set_prefix [] (pin ∷ pins) zero k kept = and_from (eqb (length (take k [])) 0) _ (empty k) (and_parts (eqb (length pin) 0) (begin_with_pins [] pins) kept).1
  where
    empty : (k : ℕ) → eqb (length (take {A = ℕ} k [])) 0 ≡ true
    empty zero = refl
    empty (suc k) = refl
set_prefix [] (pin ∷ pins) (suc i) k kept =
    let both = and_parts (eqb (length pin) 0) (begin_with_pins [] pins) kept in and_from (eqb (length pin) 0) _ both.0 (set_prefix [] pins i k both.1)
set_prefix (route ∷ routes) (pin ∷ pins) zero k kept =
    and_from (starts_with nat_eq route (take k route)) _ (begins route k) (and_parts (starts_with nat_eq route pin) (begin_with_pins routes pins) kept).1
set_prefix (route ∷ routes) (pin ∷ pins) (suc i) k kept =
    let both = and_parts (starts_with nat_eq route pin) (begin_with_pins routes pins) kept in and_from (starts_with nat_eq route pin) _ both.0 (set_prefix routes pins i k both.1)

-- Replacing an item by one that passes a test keeps a list in which all items pass
pub set_all : {X : Type 0} (test : X → Bool) (xs : List X) (i : ℕ) (x : X) → list_all test xs ≡ true → test x ≡ true → list_all test (set xs i x) ≡ true
set_all test [] i x all one = all
set_all test (y ∷ xs) zero x all one = and_from (test x) _ one (and_parts (test y) (list_all test xs) all).1
set_all test (y ∷ xs) (suc i) x all one = let both = and_parts (test y) (list_all test xs) all in and_from (test y) _ both.0 (set_all test xs i x both.1 one)

module _ (p : Instance) (pins routes : List (List ℕ)) (good : passes p pins routes ≡ true) where
  pub unpinned_passes : (v : ℕ) → passes p (with_route pins v []) routes ≡ true
  unpinned_passes v =
      let parts = parts_of p pins routes good in
      from_parts p (with_route pins v []) routes (record {
        known = parts.known;
        distinct = parts.distinct;
        fleet = parts.fleet;
        feasible = parts.feasible;
        pinned = set_none routes pins (v - 1) (parts.pinned);
      })

  pub pinned_passes : (v k : ℕ) → 1 ≤ v → passes p (with_route pins v (take k (route_of routes v))) routes ≡ true
  pinned_passes zero k from = absurd (omega arith)
  pinned_passes (suc i) k from =
      let parts = parts_of p pins routes good in
      let e : suc i - 1 ≡ i = omega arith in
      let kept : begin_with_pins routes (set pins (suc i - 1) (take k (route_of routes (suc i)))) ≡ true = rw e (set_prefix routes pins i k (parts.pinned)) in
      from_parts p (with_route pins (suc i) (take k (route_of routes (suc i)))) routes
      (record { known = parts.known; distinct = parts.distinct; fleet = parts.fleet; feasible = parts.feasible; pinned = kept })
