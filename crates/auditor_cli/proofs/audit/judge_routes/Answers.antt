-- The verdict is the one on these routes.
use Rattle.std.proofs.Common.{refl, subst}
use Rattle.plan_audit.specs.Verdict.{IsRoutesVerdict}
use Rattle.auditor_cli.proofs.audit.judge_routes.Goals as goal

pub returns : goal.returns
returns c = (refl, refl, subst (λ routes. IsRoutesVerdict c.args.problem routes c.in_ok-verdict.verdict) c.as_slice.ensures c.in_ok-verdict.ensures)
