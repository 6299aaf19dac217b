-- A solution that `solve` prints passes: operations keep the invariants of a job, and empty routes change no
-- verdict.
use Rattle.plan_solve.proofs.AuditLemmas.{solutions_pass}
use Rattle.plan_solve.proofs.laws.solutions_pass_the_audit.Goals as goal

pub returns : goal.returns
returns c =
    solutions_pass c.commands_keep_invariants.ensures.one c.commands_keep_invariants.ensures.many c.costs_never_rise.ensures c.steps_keep_passing.ensures
    c.empty_routes_change_no_verdict.ensures.printed c.solutions_pass_iff_sound.ensures
