-- The used vehicles so far, followed by those among the remaining vehicles, are all used vehicles.
use Rattle.std.proofs.Common.{◌≡◌, ◌+◌, ◌-◌, ◌==◌, ◌++◌, not, length, filter}
use Rattle.std.specs.List.{range_with_len}
use Rattle.move_ops.specs.Insertion.{route_of}
use Rattle.move_ops.specs.Drafts.{draft_of}
use Rattle.seeded_search.specs.Steps.{used_vehicles}
use Rattle.seeded_search.proofs.lists.used_vehicles.Given as goal

abbrev pub invariant-loop-index : goal.invariant-loop-index
invariant-loop-index l =
    l.used.items ++ filter (λ v. not (length (route_of (draft_of l.draft) v) == 0)) (range_with_len (l.index + 1) (length (draft_of l.draft) - l.index)) ≡ used_vehicles (draft_of l.draft)
