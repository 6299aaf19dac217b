-- Adding a request with free numbers keeps the problem valid; lookups of its numbers find the request, and all
-- other lookups stay the same.
use Rattle.plan_types.proofs.LawProofs.{put_gives_problem, put_is_found, put_keeps_others, put_by_name}
use Rattle.plan_types.proofs.laws.put_adds_one_request.Goals as goal

pub returns : goal.returns
returns c = record { problem = put_gives_problem; found = put_is_found; others = put_keeps_others; named = put_by_name }
