-- The job of a loaded problem satisfies its invariants
use Rattle.std.proofs.Common.{rules, ◌≡◌, subst, refl}
use Rattle.plan_types.specs.Instance.{Instance, IsInstance}
use Rattle.command_types.specs.Job.{JobValue, IsJob}
use Rattle.command_core.specs.Effects.{loaded}
use Rattle.command_types.specs.declared.states.State.TheVariants.{Empty}
use Rattle.command_types.specs.declared.commands.Command.TheVariants.{Load}
use Rattle.command_core.proofs.load.load.Goals as goal

pub from_parts-requires : goal.from_parts-requires
from_parts-requires c =
    let p = c.args.problem.now in
    let valid : IsInstance p = subst (λ (q : Instance). IsInstance q) c.problem.view_is c.problem.invariant.valid in
    let is : IsJob (loaded p c.args.seed) = c.commands_keep_invariants.ensures.one Empty (Load p c.args.seed) tt (valid, c.ranges.seed.fits) refl in
    let lists = c.in_ok-lists.lists in
    let same : loaded p c.args.seed ≡ record {
      problem = c.in_ok-copy.copy;
      pins = lists.pins.routes;
      plan = lists.plan.routes;
      work = lists.work.routes;
      deviation = 0;
      seed = c.args.seed;
      steps = 0;
    } = search rules in
    subst (λ (j : JobValue). IsJob j) same is
