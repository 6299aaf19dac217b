-- The prefix that a route shares with a table.
use Rattle.std.specs.Prelude.{◌≡◌, ℕ, ◌+◌, ◌<◌, List, length, slice_index, slice_index_or}
use Rattle.plan_types.specs.Instance.{Instance}
use Rattle.route_sched.specs.Route.{place}
use Rattle.slack_tables.specs.TableFields.{IsInLimits}
use Rattle.slack_tables.specs.ForwardPass.{IsWithin}
use Rattle.slack_tables.specs.Places.{IsAt}
use Rattle.slack_tables.specs.declared.progress.PlaceSlack.{PlaceSlack}
use Rattle.slack_tables.specs.declared.progress.Progress.{Progress}

-- the table has the first n stops of the route at the same places
abbrev pub IsSharedPrefix : List PlaceSlack → List ℕ → ℕ → Type 0
IsSharedPrefix places route n = (k : ℕ) (d : PlaceSlack) → k < n → (slice_index_or places (k + 1) d).at.stop.number ≡ slice_index route k

-- a is the state at place n of the route, and the limits hold up to this place
pub record HasReached (p : Instance) (route : List ℕ) (n : ℕ) (a : Progress) : Type 0 where
  pub at : IsAt (place p route) n a
  pub within : IsWithin n a
  pub kept : IsInLimits p.kind p.capacity (place p route) n

-- after a shared prefix, the state of the vehicle is the one in the table
abbrev pub KnowsPrefixes : Instance → List PlaceSlack → Type 0
KnowsPrefixes p places = (route : List ℕ) (n : ℕ) (d : PlaceSlack) → n + 1 < length places → IsSharedPrefix places route n → HasReached p route n (slice_index_or places n d).at
