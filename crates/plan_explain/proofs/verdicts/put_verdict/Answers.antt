-- If the schedule is known for the verdict, the stops of every route are known and distinct. The text is that
-- of the verdict's rule.
use Rattle.std.proofs.Common.{◌++◌, Some, sym, subst, ap, ◌∙◌, All}
use Rattle.std.proofs.lemmas.Result.{on_ok_weaker}
use Rattle.route_sched.specs.Route.{AreDistinctStops}
use Rattle.plan_explain.specs.VerdictTexts.{broken_text, fault_text, rule_schedule_is_known, verdict_schedule_is_known, verdict_text}
use Rattle.plan_explain.specs.declared.verdicts.Fault.{Fault}
use Rattle.plan_explain.proofs.RouteLemmas.{live_driven}
use Rattle.plan_explain.proofs.verdicts.put_verdict.Goals as goal

pub put_summary-requires : goal.put_summary-requires
put_summary-requires c =
    subst (All (AreDistinctStops c.args.problem.now)) (sym c.as_slice-routes.ensures)
    (live_driven c.args.problem.now c.args.solution.now.routes c.requires.0 c.args.verdict (ap verdict_schedule_is_known c.in-Pass.is) c.requires.1)

pub put_fault-requires : goal.put_fault-requires
put_fault-requires c = λ known.
    subst (All (AreDistinctStops c.args.problem.now)) (sym c.as_slice-routes.ensures)
    (live_driven c.args.problem.now c.args.solution.now.routes c.requires.0 c.args.verdict
    (ap verdict_schedule_is_known c.in-Broken.is ∙ ap rule_schedule_is_known (sym c.from_number.ensures ∙ c.in-Some.is) ∙ known) c.requires.1)

pub returns-in-Some : goal.returns-in-Some
returns-in-Some c =
    let p = c.args.problem.now in
    let plan = c.args.solution.now in
    let old = c.args.text.now in
    let b = c.in-Broken in
    let fault : Fault = record { rule = c.in-Some.rule; route = b.route; place = b.place; stop = b.stop; printed = plan.cost } in
    let said = ap (verdict_text p plan) b.is ∙ ap (λ o. broken_text p plan o b.route b.place b.stop) (sym c.from_number.ensures ∙ c.in-Some.is) in
    on_ok_weaker c.put_fault.result
    (λ put. put ∙ ap (λ rs. old ++ fault_text p rs fault) c.as_slice-routes.ensures ∙ sym (ap (λ t. old ++ t) said))
    c.put_fault.ensures
