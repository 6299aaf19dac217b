-- The pairs of a route.
use Rattle.std.specs.Prelude.{ℕ, ◌&&◌, Bool, List}
use Rattle.plan_types.specs.Instance.{Instance}
use Rattle.plan_audit.specs.Passes.{has_whole_pairs, picks_up_first}

-- each pair with a stop in the route is whole in the route, with its pickup before its delivery
abbrev pub are_paired : Instance → List ℕ → Bool
are_paired p route = has_whole_pairs p route && picks_up_first p route
