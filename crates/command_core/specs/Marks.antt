-- Marks at the planned stops, by stop number
use Rattle.std.specs.Prelude.{Bool, false, List, slice_index_or}
use Rattle.std.specs.List.{list_any}
use Rattle.plan_types.specs.Request.{stops_of}
use Rattle.plan_types.specs.declared.requests.Request.{Request}

-- A stop of the request is marked
abbrev pub is_marked : List Bool → Request → Bool
is_marked marks r = list_any (λ s. slice_index_or marks s.number false) (stops_of r)
