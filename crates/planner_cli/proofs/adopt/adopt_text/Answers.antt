-- Either a plan was found and the session answered, or there is no plan.
use Rattle.std.proofs.Common.{Ok, Err, refl, subst}
use Rattle.planner_cli.specs.Adopt.{FindsPlan}
use Rattle.planner_cli.proofs.AdoptLemmas.{not_denied}
use Rattle.planner_cli.proofs.adopt.adopt_text.Goals as goal

pub returns-in-Ok-clause-adopts : goal.returns-in-Ok-clause-adopts
returns-in-Ok-clause-adopts g c = (
  Ok c.in-Ok.plan,
  subst (λ state. FindsPlan state c.args.text.now (Ok c.in-Ok.plan)) c.state.ensures.state c.in-Ok.ensures,
  record {
    reply = c.apply-reply.result;
    applied = c.apply-reply.ensures;
    tells = c.print_adopt_answer.ensures;
    is_plan = not_denied c.assigned_plans_pass.ensures c.args.session.now c.args.text.now c.in-Ok.plan c.apply-reply.result.answer c.state.ensures.facts
        (subst (λ state. FindsPlan state c.args.text.now (Ok c.in-Ok.plan)) c.state.ensures.state c.in-Ok.ensures) c.apply-reply.ensures.answer;
  },
)

pub returns-in-Err-clause-adopts : goal.returns-in-Err-clause-adopts
returns-in-Err-clause-adopts g c = (
  Err c.in-Err.unadopted,
  subst (λ state. FindsPlan state c.args.text.now (Err c.in-Err.unadopted)) c.state.ensures.state c.in-Err.ensures,
  (refl, c.print_adopt_refusal.ensures),
)
