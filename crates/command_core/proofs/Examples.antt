-- States after commands, computed for three small problems
use Rattle.std.proofs.Common.{◌≡◌, ℕ, ℤ, pos, negsuc, List, [], ◌∷◌, Some, refl}
use Rattle.plan_types.specs.Instance.{Instance}
use Rattle.plan_types.specs.declared.requests.Stop.{Stop}
use Rattle.plan_types.specs.declared.requests.Request.{Request}
use Rattle.plan_types.specs.declared.requests.Request.TheVariants.{Single, Pair}
use Rattle.plan_types.specs.declared.requests.Kind.TheVariants.{LiLim, Vrp}
use Rattle.nint_dist.specs.NearestRoot.{whole_root, nearest_root}
use Rattle.nint_dist.specs.Distance.{distance}
use Rattle.route_sched.specs.Route.{place}
use Rattle.route_sched.specs.Schedule.{start, load, route_length}
use Rattle.plan_audit.specs.Passes.{feasible_alone, passes}
use Rattle.command_core.specs.Effects.{effect}
use Rattle.command_core.specs.Refusals.{refusal}
use Rattle.command_core.specs.Runs.{after, last_change}
use Rattle.command_types.specs.declared.states.State.{State}
use Rattle.command_types.specs.declared.states.State.TheVariants.{Empty, Loaded}
use Rattle.command_types.specs.declared.commands.Command.TheVariants.{Load, Withdraw, Pin, Build, Search, Checkpoint}
use Rattle.command_types.specs.declared.refusals.Refusal.TheVariants.{NoSuchRequest, Pinned, NoSuchPlace, NotARoute}

stop_at : ℕ → ℕ → ℕ → ℤ → ℕ → Stop
stop_at n x y q latest = record { number = n; x = pos x; y = pos y; demand = q; earliest = 0; latest = latest; service = 0 }

first_pair : Request
first_pair = Pair (stop_at 1 1 1 (pos 1) 50) (stop_at 2 1 1 (negsuc 0) 50)

second_pair : Request
second_pair = Pair (stop_at 3 2 2 (pos 1) 2) (stop_at 4 2 2 (negsuc 0) 50)

-- Two pairs and one vehicle. The pickup of the second pair can be reached in time only via the first one, since
-- distances are rounded.
two_pairs : Instance
two_pairs = record { kind = LiLim; depot = stop_at 0 0 0 (pos 0) 100; capacity = 10; fleet = 1; requests = (1, first_pair) ∷ (3, second_pair) ∷ []; next_number = 5 }

job_with : Instance → List (List ℕ) → List (List ℕ) → State
job_with p pins plan = Loaded (record { problem = p; pins = pins; plan = plan; work = plan; deviation = 0; seed = 0; steps = 0 })

built_pairs : after Empty (Load two_pairs 0 ∷ Build ∷ []) ≡ job_with two_pairs ([] ∷ []) ((1 ∷ 3 ∷ 4 ∷ 2 ∷ []) ∷ [])
unfolding stop_at first_pair second_pair two_pairs job_with passes feasible_alone start load route_length place distance nearest_root whole_root
built_pairs = refl

-- Without the first pair the route is late, so only the empty pin stays
one_pair : Instance
one_pair = record { kind = LiLim; depot = stop_at 0 0 0 (pos 0) 100; capacity = 10; fleet = 1; requests = (3, second_pair) ∷ []; next_number = 5 }

withdrawn_pair : effect (job_with two_pairs ([] ∷ []) ((1 ∷ 3 ∷ 4 ∷ 2 ∷ []) ∷ [])) (Withdraw 1) ≡ job_with one_pair ([] ∷ []) ([] ∷ [])
unfolding stop_at first_pair second_pair two_pairs one_pair job_with passes feasible_alone start load route_length place distance nearest_root whole_root
withdrawn_pair = refl

-- If a prefix of a route contains half a pair, it is not a route by itself
half_pairs : refusal (job_with two_pairs ([] ∷ []) ((1 ∷ 3 ∷ 4 ∷ 2 ∷ []) ∷ [])) (Pin 1 3) ≡ Some NotARoute
unfolding stop_at first_pair second_pair two_pairs job_with passes feasible_alone start load route_length place distance nearest_root whole_root
half_pairs = refl

too_many_stops : refusal (job_with two_pairs ([] ∷ []) ((1 ∷ 3 ∷ 4 ∷ 2 ∷ []) ∷ [])) (Pin 1 5) ≡ Some NoSuchPlace
unfolding stop_at first_pair second_pair two_pairs job_with passes feasible_alone start load route_length place distance nearest_root whole_root
too_many_stops = refl

pinned_route : effect (job_with two_pairs ([] ∷ []) ((1 ∷ 3 ∷ 4 ∷ 2 ∷ []) ∷ [])) (Pin 1 4) ≡ job_with two_pairs ((1 ∷ 3 ∷ 4 ∷ 2 ∷ []) ∷ []) ((1 ∷ 3 ∷ 4 ∷ 2 ∷ []) ∷ [])
unfolding stop_at first_pair second_pair two_pairs job_with passes feasible_alone start load route_length place distance nearest_root whole_root
pinned_route = refl

-- The number of a delivery is not a name, and a pinned request stays
not_a_name : refusal (job_with two_pairs ((1 ∷ 3 ∷ 4 ∷ 2 ∷ []) ∷ []) ((1 ∷ 3 ∷ 4 ∷ 2 ∷ []) ∷ [])) (Withdraw 2) ≡ Some NoSuchRequest
unfolding stop_at first_pair second_pair two_pairs job_with
not_a_name = refl

pinned_pair : refusal (job_with two_pairs ((1 ∷ 3 ∷ 4 ∷ 2 ∷ []) ∷ []) ((1 ∷ 3 ∷ 4 ∷ 2 ∷ []) ∷ [])) (Withdraw 3) ≡ Some Pinned
unfolding stop_at first_pair second_pair two_pairs job_with
pinned_pair = refl

-- Three customers at (3, 4), (6, 8) and (0, 5) with a fleet of three; the first two share a vehicle
customer : ℕ → ℕ → ℕ → ℕ → ℕ × Request
customer n x y q = (n, Single (stop_at n x y (pos q) 100000000))

three_customers : Instance
three_customers = record { kind = Vrp; depot = stop_at 0 0 0 (pos 0) 100000000; capacity = 10; fleet = 3; requests = customer 1 3 4 6 ∷ customer 2 6 8 4 ∷ customer 3 0 5 5 ∷ []; next_number = 4 }

-- The route through (3, 4) to (6, 8) has the same distance in both directions, so the earlier place is chosen
built_customers : after Empty (Load three_customers 0 ∷ Build ∷ []) ≡ job_with three_customers ([] ∷ [] ∷ [] ∷ []) ((2 ∷ 1 ∷ []) ∷ (3 ∷ []) ∷ [] ∷ [])
unfolding stop_at customer three_customers job_with passes feasible_alone start load route_length place distance nearest_root whole_root
built_customers = refl

last_changes : last_change (Load three_customers 0 ∷ Build ∷ Pin 1 1 ∷ Search 5 ∷ Checkpoint ∷ []) ≡ 3
last_changes = refl
