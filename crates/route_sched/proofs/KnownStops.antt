-- The stop at a place, and the number of places of a route.
use Rattle.std.proofs.Common.{◌≡◌, ℕ, zero, suc, ◌+◌, ◌≤◌, true, false, cond, eqb, List, [], ◌∷◌, length, take, get_or, Option, Some, None, inl, inr, refl, sym, arith, add-one}
use Rattle.std.specs.Prelude.{IsSome}
use Rattle.std.specs.List.{All, Any, AllByRecursion, IsDistinct, list_any}
use Rattle.std.specs.Option.{option_or}
use Rattle.std.proofs.lemmas.Bool.{false≢true, ne_eqb, eqb-true}
use Rattle.std.proofs.lemmas.Bool.Decides.{eqb_tells}
use Rattle.std.proofs.lemmas.List.{get_or_past}
use Rattle.std.proofs.lemmas.List.Elements.{All-take, recursion_from_All}
use Rattle.std.proofs.lemmas.List.Folds.{Any-from_list_any}
use Rattle.std.proofs.lemmas.Map.Steps.{length-le_from_distinct_below}
use Rattle.plan_types.specs.Limits.{IsStop}
use Rattle.plan_types.specs.Request.{stop_in, IsRequest}
use Rattle.plan_types.specs.Instance.{Instance, IsInstance, first_some, stop_at}
use Rattle.plan_types.specs.declared.requests.Stop.{Stop}
use Rattle.plan_types.specs.declared.requests.Request.{Request}
use Rattle.plan_types.specs.declared.requests.Request.TheVariants.{Single, Pair}
use Rattle.route_sched.specs.Route.{AreDistinctStops, IsKnownStop, place}

-- the range of a customer's number
IsNumber : ℕ → Type 0
IsNumber n = (1 ≤ n) × (n ≤ 40000)

number_from_stop : (s : Stop) (n : ℕ) → IsStop s → s.number ≡ n → IsNumber n
unfolding IsNumber
number_from_stop s n valid is = (omega (arith, valid.from_one), omega (arith, valid.to_max))

chosen : (s : Stop) (n : ℕ) (o : Option Stop) → IsStop s → (IsSome o → IsNumber n) → IsSome (cond (eqb s.number n) (Some s) o) → IsNumber n
chosen s n o valid other some =
    elim (eqb_tells s.number n) [
      | inl t ↦ number_from_stop s n valid t.1
      | inr t ↦ other (rw t.0 at some)
    ]

number_in : (n : ℕ) (r : Request) → IsRequest r → IsSome (stop_in n r) → IsNumber n
number_in n (Single s) valid some = chosen s n None valid.0 (λ h. absurd (false≢true h)) some
number_in n (Pair p d) valid some =
    chosen p n (cond (eqb d.number n) (Some d) None) valid.0 (λ h. chosen d n None valid.1 (λ g. absurd (false≢true g)) h) some

number_among : (n : ℕ) (es : List (ℕ × Request)) → AllByRecursion (λ e. IsRequest e.1) es → IsSome (first_some (stop_in n) es) → IsNumber n
number_among n [] valid some = absurd (false≢true some)
number_among n (e ∷ es) valid some = from (stop_in n e.1) (number_in n e.1 valid.0) (λ h. number_among n es valid.1 h) some
  where
    from : (o : Option Stop) → (IsSome o → IsNumber n) → (IsSome (first_some (stop_in n) es) → IsNumber n) → IsSome (option_or o (first_some (stop_in n) es))
        → IsNumber n
    from None here there h = there h
    from (Some s) here there h = here h

live_number : (p : Instance) (n : ℕ) → IsInstance p → IsKnownStop p n → IsNumber n
live_number p n valid live = number_among n p.requests valid.valid live

live_among : (p : Instance) (numbers : List ℕ) (q : ℕ) → All (IsKnownStop p) numbers → list_any (eqb q) numbers ≡ true → IsKnownStop p q
live_among p numbers q live there = from (Any-from_list_any (eqb q) numbers there)
  where
    from : Any (λ x. eqb q x ≡ true) numbers → IsKnownStop p q
    from any = rw (eqb-true q any.1 any.4, ← any.3) (live any.0 any.1 any.2)

-- a list of distinct current stops has at most 40,001 of them
pub few_stops : (p : Instance) (numbers : List ℕ) → IsInstance p → AreDistinctStops p numbers → length numbers ≤ 40001
unfolding IsNumber
few_stops p numbers valid once =
    length-le_from_distinct_below numbers 40001 once.distinct
    (λ q there. omega (arith, (live_number p q valid (live_among p numbers q once.live there)).1))

-- ---- the stop at a place
pub place-first : (p : Instance) (route : List ℕ) → place p route 0 ≡ p.depot
unfolding place
place-first p route = refl

pub place-return : (p : Instance) (route : List ℕ) (k : ℕ) → length route ≤ k → place p route (k + 1) ≡ p.depot
unfolding place
place-return p route k h =
    let none : get_or route k 0 ≡ 0 = get_or_past route k 0 h in rw (add-one k, none) refl

-- the stop at a place is the stop with the number that the route has there
pub place-stop : (p : Instance) (route : List ℕ) (k n : ℕ) (s : Stop) → n ≡ get_or route k 0 → stop_at p n ≡ Some s → s.number ≡ n → IsStop s
    → place p route (k + 1) ≡ s
unfolding place
place-stop p route k n s at found is valid =
    let here : get_or route k 0 ≡ n = sym at in
    let positive : eqb n 0 ≡ false = ne_eqb n 0 (λ e. omega (arith, valid.from_one)) in
    rw (add-one k, here, positive, found) refl

-- the numbers of current stops are at most 40,000
pub live_numbers : (p : Instance) (numbers : List ℕ) → IsInstance p → AreDistinctStops p numbers → AllByRecursion (λ n. n ≤ 40000) numbers
unfolding IsNumber
live_numbers p numbers valid once =
    recursion_from_All (λ n. n ≤ 40000) numbers (λ k d h. (live_number p (get_or numbers k d) valid (once.live k d h)).1)

all_front : {X : Type 0} (P : X → Type 0) (xs : List X) (k : ℕ) → AllByRecursion P xs → AllByRecursion P (take k xs)
all_front P xs zero all = tt
all_front P [] (suc k) all = tt
all_front P (x ∷ xs) (suc k) all = (all.0, all_front P xs k all.1)

distinct_front : (xs : List ℕ) (k : ℕ) → IsDistinct eqb xs → IsDistinct eqb (take k xs)
unfolding IsDistinct
distinct_front xs zero once = tt
distinct_front [] (suc k) once = tt
distinct_front (x ∷ xs) (suc k) once = (all_front (λ y. eqb x y ≡ false) xs k once.0, distinct_front xs k once.1)

-- the first stops of a route are distinct current stops
pub front_once : (p : Instance) (xs : List ℕ) (k : ℕ) → AreDistinctStops p xs → AreDistinctStops p (take k xs)
front_once p xs k once = record { live = All-take (IsKnownStop p) k xs (once.live); distinct = distinct_front xs k (once.distinct) }
