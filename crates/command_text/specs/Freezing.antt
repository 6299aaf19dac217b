-- The operations of `freeze T`: for each vehicle, a pin with the stops to which it has departed by time T.
use Rattle.std.specs.Prelude.{ℕ, zero, suc, ◌+◌, ◌-◌, max, nat_le, nat_lt, is_none, if◌then◌else◌, Bool, List, [], ◌∷◌, length, Option, Some, None}
use Rattle.std.specs.List.{find, prefix_len, range_with_len}
use Rattle.std.specs.Option.{option_and_then}
use Rattle.plan_types.specs.Instance.{Instance}
use Rattle.route_sched.specs.VisitList.{visit_after}
use Rattle.route_sched.specs.declared.visits.Visit.{Visit}
use Rattle.move_ops.specs.Insertion.{route_of}
use Rattle.command_core.specs.Effects.{job_after}
use Rattle.command_types.specs.Job.{JobValue}
use Rattle.command_core.specs.Refusals.{job_refusal}
use Rattle.command_types.specs.declared.commands.Command.{Command}
use Rattle.command_types.specs.declared.commands.Command.TheVariants.{Pin}

-- Whether the vehicle has departed to this place by time t: service there starts at t plus the travel time of
-- the leg, or earlier. A vehicle that would be early waits at the previous place.
abbrev pub has_departed : ℕ → Visit → Bool
has_departed t v = nat_le v.start (t + v.leg)

-- The length of the longest prefix of a route to whose stops the vehicle has departed by time t.
abbrev pub departed_count : Instance → List ℕ → ℕ → ℕ
departed_count p route t = prefix_len (λ k. has_departed t (visit_after p route k)) (range_with_len 0 (length route))

module _ (j : JobValue) where
  -- Whether the first k stops of vehicle v may be pinned.
  abbrev pub may_be_pinned : ℕ → ℕ → Bool
  may_be_pinned v k = is_none (job_refusal j (Pin v k))

  -- The smallest number of stops, at least k, that may be pinned for vehicle v, if there is one.
  abbrev pub pin_end : ℕ → ℕ → Option ℕ
  pin_end v k = find (may_be_pinned v) (range_with_len k (length (route_of j.plan v) + 1 - k))

-- The number n, if it is above `low`.
abbrev pub above : ℕ → ℕ → Option ℕ
above low n = if nat_lt low n then Some n else None

-- The length of the pin of vehicle v after `freeze` for time t, if it is longer than the old pin. It is the
-- smallest number of stops that may be pinned and includes the old pin and all stops to which the vehicle has
-- departed.
abbrev pub new_pin_len : ℕ → JobValue → ℕ → Option ℕ
new_pin_len t j v =
    let pinned = length (route_of j.pins v) in
    option_and_then (above pinned) (pin_end j v (max pinned (departed_count j.problem (route_of j.plan v) t)))

-- The operation that sets the given pin of vehicle v, if there is one, and then the operations `follows`.
abbrev pub pinned_before : (JobValue → List Command) → ℕ → Option ℕ → JobValue → List Command
pinned_before follows v None j = follows j
pinned_before follows v (Some k) j = Pin v k ∷ follows (job_after j (Pin v k))

-- The operations that lengthen the pins of n vehicles, beginning with vehicle v.
unfoldable pub freeze_vehicles : ℕ → ℕ → ℕ → JobValue → List Command
freeze_vehicles t v zero j = []
freeze_vehicles t v (suc n) j = pinned_before (freeze_vehicles t (v + 1) n) v (new_pin_len t j v) j

-- The operations that lengthen the pins of vehicle v and of all later vehicles.
abbrev pub freeze_commands : ℕ → ℕ → JobValue → List Command
freeze_commands t v j = freeze_vehicles t v (j.problem.fleet + 1 - v) j
