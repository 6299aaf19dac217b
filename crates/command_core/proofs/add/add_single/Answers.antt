-- The job with the new single keeps the invariants, since the command was accepted
use Rattle.std.proofs.Common.{rules, ◌≡◌, subst}
use Rattle.plan_types.specs.declared.requests.Request.{Request}
use Rattle.plan_types.specs.declared.requests.Request.TheVariants.{Single}
use Rattle.command_types.specs.Job.{JobValue, IsJob}
use Rattle.command_core.specs.Effects.{added}
use Rattle.command_types.specs.AddedRequests.{single_at}
use Rattle.command_types.specs.declared.states.State.TheVariants.{Loaded}
use Rattle.command_types.specs.declared.commands.Command.TheVariants.{Add1}
use Rattle.command_core.proofs.add.add_single.Goals as goal

pub added-requires : goal.added-requires
added-requires c =
    let j = c.args.job.now in
    let is : IsJob j = subst (λ (i : JobValue). IsJob i) c.job.view_is c.job.invariant in
    let new : IsJob (added j (single_at j.problem.next_number c.args.demand c.args.spot.now)) = c.commands_keep_invariants.ensures.one (Loaded j) (Add1 c.args.demand c.args.spot.now) is tt c.requires in
    let same : single_at j.problem.next_number c.args.demand c.args.spot.now ≡ Single c.stop_at_spot.result = search rules in
    subst (λ (r : Request). IsJob (added j r)) same new
