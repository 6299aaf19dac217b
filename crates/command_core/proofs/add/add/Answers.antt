-- The job with the new pair keeps the invariants, since the command was accepted
use Rattle.std.proofs.Common.{rules, ◌≡◌, sym, subst, IfOk}
use Rattle.plan_types.specs.declared.requests.Request.{Request}
use Rattle.plan_types.specs.declared.requests.Request.TheVariants.{Pair}
use Rattle.command_types.specs.Job.{JobValue, IsJob}
use Rattle.command_core.specs.Effects.{added}
use Rattle.command_types.specs.AddedRequests.{pair_at}
use Rattle.command_types.specs.declared.states.State.TheVariants.{Loaded}
use Rattle.command_types.specs.declared.commands.Command.TheVariants.{Add}
use Rattle.command_core.proofs.add.add.Goals as goal

pub added-requires : goal.added-requires
added-requires c =
    let j = c.args.job.now in
    let is : IsJob j = subst (λ (i : JobValue). IsJob i) c.job.view_is c.job.invariant in
    let new : IsJob (added j (pair_at j.problem.next_number c.args.demand c.args.pickup.now c.args.delivery.now)) =
    c.commands_keep_invariants.ensures.one (Loaded j) (Add c.args.demand c.args.pickup.now c.args.delivery.now) is tt c.requires in
    let same : pair_at j.problem.next_number c.args.demand c.args.pickup.now c.args.delivery.now ≡ Pair c.stop_at_spot-first.result c.stop_at_spot-second.result = search rules in
    subst (λ (r : Request). IsJob (added j r)) same new

pub returns-clause-ok : goal.returns-clause-ok
returns-clause-ok c =
    let j = c.args.job.now in
    let same : pair_at j.problem.next_number c.args.demand c.args.pickup.now c.args.delivery.now ≡ Pair c.stop_at_spot-first.result c.stop_at_spot-second.result = search rules in
    subst (λ (r : Request). IfOk c.added.result (λ (new : JobValue). new ≡ added j r)) (sym same) c.added.ensures.ok
