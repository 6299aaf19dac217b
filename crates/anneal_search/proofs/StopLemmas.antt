-- If each stop of a route is farther away than a limit, no stop is found.
use Rattle.std.proofs.Common.{◌≡◌, ℕ, suc, ◌+◌, ◌<◌, List, [], ◌∷◌, length, Some, None, refl, arith}
use Rattle.std.specs.Prelude.{slice_index, unwrap_or}
use Rattle.plan_types.specs.Instance.{Instance, stop_at}
use Rattle.plan_types.specs.declared.requests.Stop.{Stop}
use Rattle.nint_dist.specs.Distance.{distance}
use Rattle.anneal_search.specs.StepLoops.{found_from}
use Rattle.anneal_search.specs.declared.routes.NearStop.{NearStop}
use Rattle.anneal_search.specs.NearestRoutes.{near}
use Rattle.anneal_search.proofs.BoundLemmas.{none_beyond}

pub none_found : (p : Instance) (center : Stop) (vehicle k : ℕ) (limit : NearStop) (ns : List ℕ)
    → ((j : ℕ) → j < length ns → limit.distance < distance center (unwrap_or (stop_at p (slice_index ns j)) p.depot))
    → found_from p center vehicle (Some limit) None k ns ≡ None
none_found p center vehicle k limit [] far = refl
none_found p center vehicle k limit (n ∷ ns) far =
    rw (none_beyond (near p center vehicle k n) limit (far 0 (omega arith))) (none_found p center vehicle (k + 1) limit ns (λ j below. far (suc j) (omega arith)))
