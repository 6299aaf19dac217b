-- After each operation the remaining ones lead to the result. After the last operation all progress lines are
-- written.
use Rattle.std.proofs.Common.{rules, ◌≡◌, [], ◌∷◌, refl, subst}
use Rattle.command_core.specs.Effects.{effect}
use Rattle.command_text.specs.Answering.{commands_of}
use Rattle.plan_solve.proofs.AnnealLemmas.{begins, ends, fewer, goes_on}
use Rattle.plan_solve.proofs.annealing.anneal_by_stages.Goals as goal

pub loop-command-init : goal.loop-command-init
loop-command-init g c = λ begun holds.
    begins begun c.args.steps c.from.result (g.W.Write.contents c.args.progress.now) (g.W.Write.contents c.write_progress-is_written.new.progress) _ _ _ c.from.ensures holds
    c.in_ok-job.ensures.job refl (λ t. (c.write_progress-is_written.ensures t).1)

pub loop-command-preserved : goal.loop-command-preserved
loop-command-preserved g c = λ begun holds.
    let l = c.loop-command in
    let command = c.in-Some.command in
    let following = c.in-Some.following in
    let all : commands_of l.left l.planner ≡ command ∷ commands_of following (effect l.planner command) =
    subst (λ s. commands_of l.left s ≡ command ∷ commands_of following (effect s command)) c.state.ensures c.in-Some.ensures in
    goes_on begun c.args.steps (g.W.Write.contents c.args.progress.now) (g.W.Write.contents l.progress) (g.W.Write.contents c.write_progress_if_due-reported.new.progress) l.reported
    c.write_progress_if_due-reported.result l.planner c.execute.new.planner l.left following command _ (l.invariant begun holds) all c.in_ok-execute.ensures c.in_ok-job-2.ensures.job
    c.write_progress_if_due-reported.ensures.parts c.write_progress_if_due-reported.ensures.reported

pub loop-command-smaller : goal.loop-command-smaller
loop-command-smaller g c =
    let l = c.loop-command in
    let command = c.in-Some.command in
    let following = c.in-Some.following in
    let all : commands_of l.left l.planner ≡ command ∷ commands_of following (effect l.planner command) =
    subst (λ s. commands_of l.left s ≡ command ∷ commands_of following (effect s command)) c.state.ensures c.in-Some.ensures in
    fewer l.planner c.execute.new.planner l.left following command all c.in_ok-execute.ensures

pub returns : goal.returns
returns g c = λ begun holds.
    let l = c.loop-command in
    let none : commands_of l.left l.planner ≡ [] = search rules in
    ends begun c.args.steps (g.W.Write.contents c.args.progress.now) (g.W.Write.contents l.progress) l.reported l.planner l.left (l.invariant begun holds) none
