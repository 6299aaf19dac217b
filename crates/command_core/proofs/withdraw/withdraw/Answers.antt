-- The job without the request keeps the invariants, since the command was accepted
use Rattle.std.proofs.Common.{rules, ◌≡◌, subst}
use Rattle.command_types.specs.Job.{JobValue, IsJob}
use Rattle.command_core.specs.Effects.{withdrawn}
use Rattle.command_types.specs.declared.states.State.TheVariants.{Loaded}
use Rattle.command_types.specs.declared.commands.Command.TheVariants.{Withdraw}
use Rattle.command_core.proofs.withdraw.withdraw.Goals as goal

pub with_parts-requires : goal.with_parts-requires
with_parts-requires c =
    let j = c.args.job.now in
    let is : IsJob j = subst (λ (i : JobValue). IsJob i) c.job.view_is c.job.invariant in
    let new : IsJob (withdrawn j c.args.name) = c.commands_keep_invariants.ensures.one (Loaded j) (Withdraw c.args.name) is tt c.requires in
    let lists = c.in_ok-lists.lists in
    let same : withdrawn j c.args.name ≡ record j { problem = c.in_ok-problem.problem; pins = lists.pins.routes; plan = lists.plan.routes; work = lists.work.routes } = search rules in
    subst (λ (i : JobValue). IsJob i) same new
