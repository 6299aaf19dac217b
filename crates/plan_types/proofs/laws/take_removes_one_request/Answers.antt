-- Removing a request keeps the problem valid; lookups of its numbers find nothing, and all other lookups stay
-- the same.
use Rattle.plan_types.proofs.LawProofs.{take_gives_problem, take_frees_numbers, take_keeps_others, take_by_name, take_of_none}
use Rattle.plan_types.proofs.laws.take_removes_one_request.Goals as goal

pub returns : goal.returns
returns c = record { problem = take_gives_problem; freed = take_frees_numbers; others = take_keeps_others; named = take_by_name; none = take_of_none }
