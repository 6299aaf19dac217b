-- The rules on loads and times are checked in order, so the first broken one is the first violation. Without
-- time windows only loads are checked.
use Rattle.std.proofs.Common.{◌≡◌, sym, rules}
use Rattle.plan_types.specs.declared.requests.Kind.TheVariants.{LiLim, Vrp}
use Rattle.plan_audit.proofs.StepLemmas.{load_step, late_step, return_step, timed_step, untimed_step}
use Rattle.plan_audit.proofs.audits.first_broken_limit.Goals as goal

pub returns-in-Some : goal.returns-in-Some
returns-in-Some c = record {
  least = λ s is. load_step c.args.problem.now c.args.routes.now s is c.in-Some.fault _ c.broken_at.ensures (sym c.in-Some.ensures.reported);
}

pub returns-in-Vrp : goal.returns-in-Vrp
returns-in-Vrp c =
    let kind : c.args.problem.now.kind ≡ Vrp = search rules in
    record { least = λ s is. untimed_step c.args.problem.now c.args.routes.now s is kind (sym c.in_default.ensures.reported) }

pub returns-in-Some-first_late : goal.returns-in-Some-first_late
returns-in-Some-first_late c =
    let kind : c.args.problem.now.kind ≡ LiLim = search rules in
    record {
      least = λ s is. late_step c.args.problem.now c.args.routes.now s is kind
          (sym c.in_default.ensures.reported) c.in-Some-first_late.fault _ c.broken_at-in-Some-first_late.ensures (sym c.in-Some-first_late.ensures.reported);
    }

pub returns-in_err-fault : goal.returns-in_err-fault
returns-in_err-fault c =
    let kind : c.args.problem.now.kind ≡ LiLim = search rules in
    record {
      least = λ s is. rw c.from_residual.ensures
          (timed_step c.args.problem.now c.args.routes.now s is kind (sym c.in_default.ensures.reported) (sym c.in_default-first_late.ensures.reported)
          (sym c.in_err-fault.ensures.reported));
    }

pub returns : goal.returns
returns c =
    let kind : c.args.problem.now.kind ≡ LiLim = search rules in
    record {
      least = λ s is. return_step c.args.problem.now c.args.routes.now s is kind (sym c.in_default.ensures.reported)
          (sym c.in_default-first_late.ensures.reported) c.in_ok-fault.fault _ c.broken_at-2.ensures (sym c.in_ok-fault.ensures.reported);
    }
