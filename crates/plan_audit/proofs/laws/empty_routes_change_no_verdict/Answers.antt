-- A sound plan is sound without its empty routes. So a plan that passes and leaves no request out also passes
-- as printed.
use Rattle.plan_audit.proofs.PrintLemmas.{used_routes_are_sound, whole_plans_pass_printed}
use Rattle.plan_audit.proofs.laws.empty_routes_change_no_verdict.Goals as goal

pub returns-clause-sound : goal.returns-clause-sound
returns-clause-sound c = used_routes_are_sound c.requests_are_stored_by_name.ensures c.requests_are_found_by_stop.ensures

pub returns-clause-printed : goal.returns-clause-printed
returns-clause-printed c = whole_plans_pass_printed
