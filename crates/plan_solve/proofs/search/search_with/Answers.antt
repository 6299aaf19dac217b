-- The search continues from the job with the deviation.
use Rattle.std.proofs.Common.{◌∙◌, ap}
use Rattle.std.proofs.lemmas.Result.{IfOk-weaker}
use Rattle.command_core.specs.Effects.{effect, with_deviation}
use Rattle.command_types.specs.declared.commands.Command.TheVariants.{Deviation}
use Rattle.plan_solve.proofs.search.search_with.Goals as goal

pub returns : goal.returns
returns g c =
    IfOk-weaker c.search_parts.result _ _
    (λ is_written made begun holds. made (with_deviation begun c.args.deviation) (c.in_ok-execute.ensures ∙ ap (λ s. effect s (Deviation c.args.deviation)) holds))
    c.search_parts.ensures
