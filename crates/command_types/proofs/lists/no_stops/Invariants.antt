-- There is an empty list for each vehicle so far
use Rattle.std.proofs.Common.{◌≡◌, [], replicate}
use Rattle.command_types.proofs.lists.no_stops.Given as goal

abbrev pub invariant-loop : goal.invariant-loop
invariant-loop l = l.lists ≡ replicate l.counter []
