-- If all visits keep the limits, so does the route.
use Rattle.std.proofs.Common.{◌∙◌, subst, length}
use Rattle.plan_types.specs.Instance.{Instance}
use Rattle.test_plan.proofs.TableLemmas.{KeepTo, limits-seen}
use Rattle.test_plan.proofs.tests.tables.keeps_limits.Goals as goal

pub returns : goal.returns
returns c = λ yes.
    limits-seen c.args.problem.now c.args.route.now c.as_slice.result.now (c.as_slice.ensures.value ∙ c.in_ok-visits.ensures)
    (subst (λ (p : Instance). KeepTo p.kind p.capacity c.as_slice.result.now (length c.as_slice.result.now)) c.problem.view_is (c.all_keep.ensures yes))
