-- The effect of each command on a state. Vehicles are numbered from 1.
use Rattle.std.specs.Prelude.{ℕ, ◌+◌, ◌-◌, List, [], ◌∷◌, map, filter, take, replicate, not, Bool, if◌then◌else◌}
use Rattle.std.specs.List.{list_any, zip}
use Rattle.plan_types.specs.Instance.{Instance, with_request, without_request}
use Rattle.plan_types.specs.declared.requests.Request.{Request}
use Rattle.plan_audit.specs.Passes.{feasible_alone}
use Rattle.move_ops.specs.Insertion.{route_of, with_route}
use Rattle.move_ops.specs.Moves.{is_of_named}
use Rattle.seeded_search.specs.Steps.{unplanned_names, placed_all, steps, search_plans}
use Rattle.anneal_search.specs.Annealing.{anneal_steps}
use Rattle.fleet_reduction.specs.Attempts.{all_attempts}
use Rattle.command_types.specs.Job.{JobValue}
use Rattle.command_types.specs.AddedRequests.{single_at, pair_at}
use Rattle.command_types.specs.declared.states.State.{State}
use Rattle.command_types.specs.declared.states.State.TheVariants.{Empty, Loaded}
use Rattle.command_types.specs.declared.commands.Command.{Command}
use Rattle.command_types.specs.declared.commands.Command.TheVariants.{Load, Add, Add1, Withdraw, Pin, Unpin, Build, Search, Checkpoint, Deviation, Anneal, Reduce, Adopt}

-- An empty list for each vehicle
abbrev pub no_stops : Instance → List (List ℕ)
no_stops p = replicate p.fleet []

-- Load: this problem and seed. No request is planned, nothing is pinned, no step is made, and the deviation is
-- 0.
abbrev pub loaded : Instance → ℕ → JobValue
loaded p seed = record { problem = p; pins = no_stops p; plan = no_stops p; work = no_stops p; deviation = 0; seed = seed; steps = 0 }

-- Every other command except Search, Anneal, Reduce and Checkpoint resets the working plan to the new incumbent.

-- Add, Add1: one more request, unplanned
abbrev pub added : JobValue → Request → JobValue
added j r = record j { problem = with_request j.problem r; work = j.plan }

-- The vehicle visits a stop of the request with this name
abbrev pub serves : Instance → ℕ → List ℕ → Bool
serves p name route = list_any (is_of_named p (name ∷ [])) route

-- The route without the stops of the request
abbrev pub route_without : Instance → ℕ → List ℕ → List ℕ
route_without p name route = filter (λ n. not (is_of_named p (name ∷ []) n)) route

-- The route of a vehicle after the request is withdrawn. If the vehicle served the request, its stops are
-- removed. If the rest is infeasible, only the pin stays, and the other requests after the pin become unplanned.
abbrev pub remaining_route : Instance → ℕ → List ℕ → List ℕ → List ℕ
remaining_route p name pin route =
    if serves p name route
    then (if feasible_alone (without_request p name) (route_without p name route) then route_without p name route else pin)
    else route

-- The routes of all vehicles after the request is withdrawn
abbrev pub remaining_routes : Instance → ℕ → List (List ℕ) → List (List ℕ) → List (List ℕ)
remaining_routes p name pins routes = map (λ e. remaining_route p name e.0 e.1) (zip pins routes)

-- Withdraw: the request is removed from the problem and the plan
abbrev pub withdrawn : JobValue → ℕ → JobValue
withdrawn j name =
    let plan = remaining_routes j.problem name j.pins j.plan in
    record j { problem = without_request j.problem name; plan = plan; work = plan }

-- The job with these pins
abbrev pub with_pins : JobValue → List (List ℕ) → JobValue
with_pins j pins = record j { pins = pins; work = j.plan }

-- Pin: the first k stops of the route of vehicle v replace its pin
abbrev pub pinned : JobValue → ℕ → ℕ → JobValue
pinned j v k = with_pins j (with_route j.pins v (take k (route_of j.plan v)))

-- Unpin: the vehicle has no pin
abbrev pub unpinned : JobValue → ℕ → JobValue
unpinned j v = with_pins j (with_route j.pins v [])

-- Build: inserts the unplanned requests in ascending order of name, each at its best place. A request without a
-- place stays unplanned
abbrev pub built : JobValue → JobValue
built j =
    let plan = placed_all j.problem j.pins j.plan (unplanned_names j.problem j.plan) in
    record j { plan = plan; work = plan }

-- Search: makes this many steps. Their numbers continue those of the steps already made
abbrev pub searched : JobValue → ℕ → JobValue
searched j count =
    let s = steps j.problem j.pins j.deviation j.seed j.steps count (record { incumbent = j.plan; working = j.work }) in
    record j { plan = s.incumbent; work = s.working; steps = j.steps + count }

-- Anneal: makes this many annealing steps. Their numbers continue those of the steps already made
abbrev pub annealed : JobValue → ℕ → JobValue
annealed j count =
    let s = anneal_steps j.problem j.pins j.deviation j.seed j.steps count (search_plans j.plan j.work) in
    record j { plan = s.incumbent; work = s.working; steps = j.steps + count }

-- Reduce: makes this many steps, starting at the incumbent: first attempts to use fewer vehicles, then
-- annealing with the remaining steps
abbrev pub reduced : JobValue → ℕ → JobValue
reduced j count =
    let t = all_attempts j.problem j.pins j.seed count j.steps j.plan in
    let s = anneal_steps j.problem j.pins j.deviation j.seed t.step (j.steps + count - t.step) (search_plans t.plan t.plan) in
    record j { plan = s.incumbent; work = s.working; steps = j.steps + count }

-- Deviation: sets the limit for the working plan's distance. A search compares with the incumbent, annealing
-- with the previous working plan
abbrev pub with_deviation : JobValue → ℕ → JobValue
with_deviation j d = record j { work = j.plan; deviation = d }

-- Adopt: these routes become the plan and the working plan
abbrev pub adopted : JobValue → List (List ℕ) → JobValue
adopted j routes = record j { plan = routes; work = routes }

-- The job after this command
abbrev pub job_after : JobValue → Command → JobValue
job_after j (Load p seed) = loaded p seed
job_after j (Add q a b) = added j (pair_at j.problem.next_number q a b)
job_after j (Add1 q s) = added j (single_at j.problem.next_number q s)
job_after j (Withdraw name) = withdrawn j name
job_after j (Pin v k) = pinned j v k
job_after j (Unpin v) = unpinned j v
job_after j Build = built j
job_after j (Search count) = searched j count
job_after j Checkpoint = j
job_after j (Deviation d) = with_deviation j d
job_after j (Anneal count) = annealed j count
job_after j (Reduce count) = reduced j count
job_after j (Adopt plan) = adopted j plan.routes

-- The state after a command. Before the first Load no other command is accepted.
abbrev pub effect : State → Command → State
effect (Loaded j) c = Loaded (job_after j c)
effect Empty (Load p seed) = Loaded (loaded p seed)
effect Empty _ = Empty
