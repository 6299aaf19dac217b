-- Rules 1 to 5 are checked in order, so the first broken one is the first violation. If none is broken, the
-- routes are a plan.
use Rattle.std.proofs.Common.{sym}
use Rattle.plan_audit.proofs.StepLemmas.{below_from, plan_where, unknown_step, repeated_step, unserved_step, missing_step, split_step, delivered_step, placed_step}
use Rattle.plan_audit.proofs.audits.first_broken_stop_rule.Goals as goal

pub returns-in-Some-clause-least : goal.returns-in-Some-clause-least
returns-in-Some-clause-least c =
    λ s is asked. unknown_step c.args.scan.now.problem.now c.args.scan.now.routes.now c.requires s is c.args.unserved asked c.in-Some.fault _
    c.broken_at.ensures
    (sym c.in-Some.ensures.reported)

pub first_repeated-requires : goal.first_repeated-requires
first_repeated-requires c =
    below_from c.args.scan.now.problem.now c.args.scan.now.routes.now c.numbers_are_below_next_number.ensures.stops c.requires (sym c.in_default.ensures.reported)

pub returns-in-Some-first_repeated-clause-least : goal.returns-in-Some-first_repeated-clause-least
returns-in-Some-first_repeated-clause-least c =
    λ s is asked. repeated_step c.args.scan.now.problem.now c.args.scan.now.routes.now c.requires s is c.args.unserved asked
    (sym c.in_default.ensures.reported) c.in-Some-first_repeated.fault _ c.broken_at-in-Some-first_repeated.ensures (sym c.in-Some-first_repeated.ensures.reported)

pub returns-in-Some-unserved-clause-least : goal.returns-in-Some-unserved-clause-least
returns-in-Some-unserved-clause-least c =
    λ s is asked. unserved_step c.args.scan.now.problem.now c.args.scan.now.routes.now c.requires s is c.args.unserved asked (sym c.in_default.ensures.reported)
    (sym c.in_default-first_repeated.ensures.reported) c.in-Some-unserved.name _ c.broken_by.ensures c.in-Some-unserved.is

pub returns-in-Some-first_missing-clause-least : goal.returns-in-Some-first_missing-clause-least
returns-in-Some-first_missing-clause-least c =
    λ s is asked. missing_step c.args.scan.now.problem.now c.args.scan.now.routes.now c.requires s is c.args.unserved asked (sym c.in_default.ensures.reported)
    (sym c.in_default-first_repeated.ensures.reported) c.in_default-unserved.is c.in-Some-first_missing.fault _ c.broken_at-in-Some-first_missing.ensures
    (sym c.in-Some-first_missing.ensures.reported)

pub returns-in-Some-first_split-clause-least : goal.returns-in-Some-first_split-clause-least
returns-in-Some-first_split-clause-least c =
    λ s is asked. split_step c.args.scan.now.problem.now c.args.scan.now.routes.now c.requires s is c.args.unserved asked (sym c.in_default.ensures.reported)
    (sym c.in_default-first_repeated.ensures.reported) c.in_default-unserved.is
    (sym c.in_default-first_missing.ensures.reported) c.in-Some-first_split.fault _ c.broken_at-in-Some-first_split.ensures
    (sym c.in-Some-first_split.ensures.reported)

pub returns-in_err-fault-clause-least : goal.returns-in_err-fault-clause-least
returns-in_err-fault-clause-least c =
    λ s is asked. rw c.from_residual.ensures
    (placed_step c.args.scan.now.problem.now c.args.scan.now.routes.now c.requires s is c.args.unserved asked (sym c.in_default.ensures.reported)
    (sym c.in_default-first_repeated.ensures.reported) c.in_default-unserved.is (sym c.in_default-first_missing.ensures.reported)
    (sym c.in_default-first_split.ensures.reported) (sym c.in_err-fault.ensures.reported))

pub returns-in_err-fault-clause-plan : goal.returns-in_err-fault-clause-plan
returns-in_err-fault-clause-plan c =
    rw c.from_residual.ensures
    (plan_where c.args.scan.now.problem.now c.args.scan.now.routes.now (sym c.in_default.ensures.reported) (sym c.in_default-first_repeated.ensures.reported))

pub returns-clause-least : goal.returns-clause-least
returns-clause-least c =
    λ s is asked. delivered_step c.args.scan.now.problem.now c.args.scan.now.routes.now c.requires s is c.args.unserved asked (sym c.in_default.ensures.reported)
    (sym c.in_default-first_repeated.ensures.reported) c.in_default-unserved.is (sym c.in_default-first_missing.ensures.reported)
    (sym c.in_default-first_split.ensures.reported) c.in_ok-fault.fault _ c.broken_at-2.ensures (sym c.in_ok-fault.ensures.reported)
