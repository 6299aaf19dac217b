-- A step of a search, computed on a plan of four customers.
use Rattle.std.proofs.Common.{◌≡◌, ℕ, pos, List, [], ◌∷◌, refl}
use Rattle.plan_types.specs.Instance.{Instance}
use Rattle.plan_types.specs.declared.requests.Stop.{Stop}
use Rattle.plan_types.specs.declared.requests.Request.TheVariants.{Single}
use Rattle.plan_types.specs.declared.requests.Kind.TheVariants.{Vrp}
use Rattle.nint_dist.specs.NearestRoot.{whole_root, nearest_root}
use Rattle.nint_dist.specs.Distance.{distance}
use Rattle.route_sched.specs.Route.{place}
use Rattle.route_sched.specs.Schedule.{start, load, route_length}
use Rattle.plan_audit.specs.Passes.{feasible_alone, passes}
use Rattle.seeded_search.specs.ChaCha20.{quarter_round, quarter_round_at, inner_block, inner_blocks, add_states, chacha20_block, words_of_bytes}
use Rattle.seeded_search.specs.Words.{block, word, step_words}
use Rattle.seeded_search.specs.Steps.{candidate, SearchPlans, step}

stop_at : ℕ → ℕ → ℕ → ℕ → Stop
stop_at n x y q = record { number = n; x = pos x; y = pos y; demand = pos q; earliest = 0; latest = 100; service = 0 }

-- customers at (0, 10), (6, 8), (6, 0) and (3, 4), the depot at (0, 0), a fleet of four
four_customers : Instance
four_customers = record {
  kind = Vrp;
  depot = stop_at 0 0 0 0;
  capacity = 1000;
  fleet = 4;
  requests = (1, Single (stop_at 1 0 10 1)) ∷ (2, Single (stop_at 2 6 8 1)) ∷ (3, Single (stop_at 3 6 0 1)) ∷ (4, Single (stop_at 4 3 4 1)) ∷ [];
  next_number = 5;
}

no_pins : List (List ℕ)
no_pins = [] ∷ [] ∷ [] ∷ [] ∷ []

search_plans : List (List ℕ) → SearchPlans
search_plans routes = record { incumbent = routes; working = routes }

-- 2-opt* of the second and the third route, cut before their first and after their first stop: the plan's cost
-- falls from 54 to 44
first_step : step four_customers no_pins 0 0 0 (search_plans ((1 ∷ []) ∷ (2 ∷ 3 ∷ []) ∷ (4 ∷ []) ∷ [] ∷ [])) ≡ search_plans ((1 ∷ []) ∷ [] ∷ (4 ∷ 2 ∷ 3 ∷ []) ∷ [] ∷ [])
unfolding stop_at four_customers no_pins search_plans step candidate step_words word block chacha20_block add_states inner_blocks inner_block
    quarter_round_at quarter_round words_of_bytes passes feasible_alone start load route_length place distance nearest_root whole_root
first_step = refl

-- with two used vehicles the same words pick the second one twice, and nothing changes
no_candidate : step four_customers no_pins 0 0 0 (search_plans ((1 ∷ []) ∷ [] ∷ (4 ∷ 2 ∷ 3 ∷ []) ∷ [] ∷ [])) ≡ search_plans ((1 ∷ []) ∷ [] ∷ (4 ∷ 2 ∷ 3 ∷ []) ∷ [] ∷ [])
unfolding stop_at four_customers no_pins search_plans step candidate step_words word block chacha20_block add_states inner_blocks inner_block
    quarter_round_at quarter_round words_of_bytes passes feasible_alone start load route_length place distance nearest_root whole_root
no_candidate = refl
