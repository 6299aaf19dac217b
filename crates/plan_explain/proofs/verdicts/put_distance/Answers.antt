-- If the schedule is known, the stops of every route are known and distinct.
use Rattle.std.proofs.Common.{◌∙◌, sym}
use Rattle.plan_explain.proofs.RouteLemmas.{live_driven}
use Rattle.plan_explain.proofs.verdicts.put_distance.Goals as goal

pub total_distance-requires : goal.total_distance-requires
total_distance-requires c = live_driven c.args.problem.now c.args.routes.now c.requires.0 c.args.verdict (sym c.verdict_schedule_is_known.ensures ∙ c.if-verdict_schedule_is_known.true) c.requires.1
