-- Vehicle hints that are set tour by tour.
use Rattle.std.proofs.Common.{◌≡◌, ◌∙◌, ℕ, ◌+◌, ◌<◌, ◌||◌, false, Some, List, [], drop, get_or, length, slice_get, sym, ap, subst}
use Rattle.plan_audit.specs.Passes.{has}
use Rattle.route_sched.specs.Cost.{has_stop}
use Rattle.move_ops.proofs.OccurrenceLemmas.{has_stop_more}

-- a number without a hint is a stop of the routes from index k on, or of none
abbrev pub AreSeatsTo : List ℕ → List (List ℕ) → ℕ → Type 0
AreSeatsTo vehicle_hints routes k = (n : ℕ) → slice_get vehicle_hints n ≡ Some 0 → has_stop (drop k routes) n ≡ has_stop routes n

pub hints_more : (old new : List ℕ) (routes : List (List ℕ)) (k : ℕ) (stops : List ℕ) → k < length routes → stops ≡ get_or routes k []
    → AreSeatsTo old routes k → ((n : ℕ) → slice_get new n ≡ Some 0 → has stops n ≡ false)
    → ((n : ℕ) → slice_get new n ≡ Some 0 → slice_get old n ≡ Some 0) → AreSeatsTo new routes (k + 1)
hints_more old new routes k stops within is before none kept = λ n at.
    (let out : has (get_or routes k []) n ≡ false = subst (λ s. has s n ≡ false) is (none n at) in
    let same : has_stop (drop k routes) n ≡ has_stop (drop (k + 1) routes) n =
    has_stop_more routes k n within ∙ ap (λ b. b || has_stop (drop (k + 1) routes) n) out in
    sym same ∙ before n (kept n at))
