-- The job after the last iteration is the planner's.
use Rattle.std.proofs.Common.{◌/◌}
use Rattle.std.proofs.lemmas.Result.{IfOk-weaker}
use Rattle.plan_solve.specs.Solved.{marks}
use Rattle.plan_solve.proofs.HybridLemmas.{has_bred}
use Rattle.plan_solve.proofs.hybrid.breed_with_progress.Goals as goal

pub returns : goal.returns
returns g c =
    IfOk-weaker c.of.result _ _
    (λ ended both.
    let made = rw both.1 at c.breed-reported.ensures in
    has_bred (g.W.Write.contents c.args.progress.now) (g.W.Write.contents c.breed-reported.new.progress) c.args.begun (marks (c.args.steps / 64)) _ ended
    (made c.args.begun c.new-planner.ensures) both.0)
    c.of.ensures
