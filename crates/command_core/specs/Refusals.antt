-- The refusal of a command: the first one that applies, in the order in which the refusals are declared
use Rattle.std.specs.Prelude.{ℕ, ◌+◌, nat_le, ◌&&◌, not, Bool, List, take, length, Option, Some, None, if◌then◌else◌}
use Rattle.std.specs.Option.{option_map_or}
use Rattle.plan_types.specs.Instance.{Instance}
use Rattle.plan_types.specs.declared.requests.Request.{Request}
use Rattle.plan_types.specs.Cost.{cost_below}
use Rattle.route_sched.specs.Cost.{cost_of, is_planned}
use Rattle.plan_audit.specs.Passes.{feasible_alone, passes}
use Rattle.move_ops.specs.Insertion.{request_named, route_of}
use Rattle.plan_types.specs.declared.limits.TheConstants.{MAX_DEVIATION, MAX_STEPS, MAX_STOP_NUMBER}
use Rattle.command_types.specs.declared.limits.TheConstants.{MAX_ANNEAL_STEPS, MAX_REDUCE_STEPS, MAX_SEARCH_STEPS}
use Rattle.command_types.specs.Job.{JobValue}
use Rattle.command_types.specs.AddedRequests.{is_spot, is_demand}
use Rattle.command_types.specs.declared.states.State.{State}
use Rattle.command_types.specs.declared.states.State.TheVariants.{Empty, Loaded}
use Rattle.command_types.specs.declared.commands.Command.{Command}
use Rattle.command_types.specs.declared.commands.Command.TheVariants.{Load, Add, Add1, Withdraw, Pin, Unpin, Build, Search, Checkpoint, Deviation, Anneal, Reduce, Adopt}
use Rattle.command_types.specs.declared.refusals.Refusal.{Refusal}
use Rattle.command_types.specs.declared.refusals.Refusal.TheVariants.{NoInstance, Range, NoSuchRequest, Pinned, NoSuchPlace, NotARoute, NumbersSpent, StepsSpent, NotAPlan, Dearer}

-- Why adding this many stops is refused: a field is outside its limits, or a new number is above `MAX_STOP_NUMBER`
abbrev pub add_refusal : Instance → Bool → ℕ → Option Refusal
add_refusal p are_limits_kept stops =
    if not are_limits_kept then Some Range else if nat_le (p.next_number + stops) (MAX_STOP_NUMBER + 1) then None else Some NumbersSpent

-- Why withdrawing this request is refused: one of its stops is pinned
abbrev pub pinned_refusal : JobValue → Request → Option Refusal
pinned_refusal j r = if is_planned j.pins r then Some Pinned else None

abbrev pub withdraw_refusal : JobValue → ℕ → Option Refusal
withdraw_refusal j name = option_map_or (pinned_refusal j) (request_named j.problem name) (Some NoSuchRequest)

-- The vehicle exists
abbrev pub is_vehicle : Instance → ℕ → Bool
is_vehicle p v = nat_le 1 v && nat_le v p.fleet

-- The vehicle exists, and its route has at least k stops
abbrev pub is_place : JobValue → ℕ → ℕ → Bool
is_place j v k = is_vehicle j.problem v && nat_le k (length (route_of j.plan v))

-- Why pinning the first k stops is refused: the vehicle's route has fewer, or by themselves they are not a
-- feasible route
abbrev pub pin_refusal : JobValue → ℕ → ℕ → Option Refusal
pin_refusal j v k =
    if not (is_place j v k) then Some NoSuchPlace else if feasible_alone j.problem (take k (route_of j.plan v)) then None else Some NotARoute

abbrev pub unpin_refusal : Instance → ℕ → Option Refusal
unpin_refusal p v = if is_vehicle p v then None else Some NoSuchPlace

-- Why making `count` more steps after `steps` is refused: one command makes at most `most`, and a state has a
-- limit
abbrev pub steps_refusal : ℕ → ℕ → ℕ → Option Refusal
steps_refusal most steps count =
    if not (nat_le 1 count && nat_le count most) then Some Range else if nat_le (steps + count) MAX_STEPS then None else Some StepsSpent

abbrev pub deviation_refusal : ℕ → Option Refusal
deviation_refusal d = if nat_le d MAX_DEVIATION then None else Some Range

-- A plan costs more than another
abbrev pub costs_more : Instance → List (List ℕ) → List (List ℕ) → Bool
costs_more p routes others = cost_below (cost_of p others) (cost_of p routes)

-- Why adopting routes from elsewhere is refused: they do not pass with the pins, or they cost more than the
-- incumbent
abbrev pub adopt_refusal : Instance → List (List ℕ) → List (List ℕ) → List (List ℕ) → Option Refusal
adopt_refusal p pins incumbent routes = if not (passes p pins routes) then Some NotAPlan else if costs_more p routes incumbent then Some Dearer else None

-- Why a job refuses a command
abbrev pub job_refusal : JobValue → Command → Option Refusal
job_refusal j (Load p seed) = None
job_refusal j (Add q a b) = add_refusal j.problem (is_demand q && (is_spot a && is_spot b)) 2
job_refusal j (Add1 q s) = add_refusal j.problem (is_demand q && is_spot s) 1
job_refusal j (Withdraw name) = withdraw_refusal j name
job_refusal j (Pin v k) = pin_refusal j v k
job_refusal j (Unpin v) = unpin_refusal j.problem v
job_refusal j Build = None
job_refusal j (Search count) = steps_refusal MAX_SEARCH_STEPS j.steps count
job_refusal j Checkpoint = None
job_refusal j (Deviation d) = deviation_refusal d
job_refusal j (Anneal count) = steps_refusal MAX_ANNEAL_STEPS j.steps count
job_refusal j (Reduce count) = steps_refusal MAX_REDUCE_STEPS j.steps count
job_refusal j (Adopt plan) = adopt_refusal j.problem j.pins j.plan plan.routes

-- Why a state refuses a command: before the first Load, only a Load is accepted
abbrev pub refusal : State → Command → Option Refusal
refusal (Loaded j) c = job_refusal j c
refusal Empty (Load p seed) = None
refusal Empty _ = Some NoInstance
