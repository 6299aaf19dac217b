-- The next task's line is read after the task before it, or its fault is the first of all lines.
use Rattle.std.proofs.Common.{◌-◌, ◌∙◌, ap, length, inr}
use Rattle.std.specs.Prelude.{slice_get}
use Rattle.instance_read.specs.Pairs.{task_of}
use Rattle.instance_read.specs.RowViews.{row_view}
use Rattle.instance_read.proofs.TaskFaultLemmas.{last_or-is, tasks_more, above_more, none_more, first_more, stops_first}
use Rattle.instance_read.proofs.lilim.read_tasks.Goals as goal

pub loop-line-preserved : goal.loop-line-preserved
unfolding task_of
loop-line-preserved g c =
    let kept = c.loop-line.invariant in
    let rest = c.loop-line.line-iterator in
    let more = c.next.new.self in
    let row = row_view c.in-Some.line in
    let tasks = c.loop-line.tasks.items in
    let previous = c.copied-previous.result in
    let task = c.in-Ok.task in
    let steps = c.in-Some.ensures.steps in
    let last = c.copied-previous.ensures ∙ c.last.ensures.value ∙ ap (λ ts. slice_get ts (length ts - 1)) c.deref.ensures.value ∙ last_or-is tasks in
    rw c.in_ok-push-in-Ok.ensures.items (record {
      tasks = tasks_more c.args.scale c.args.limits.now c.args.lines rest more row tasks previous task steps last c.in-Ok.ensures.0 c.in-Ok.ensures.1 kept.tasks;
      above = above_more c.args.scale c.args.limits.now c.args.lines rest more row tasks previous task steps last c.in-Ok.ensures.0 c.in-Ok.ensures.1 kept.above;
      none = λ h. kept.none (none_more c.args.scale c.args.limits.now c.args.lines rest more row tasks previous task steps last c.in-Ok.ensures.0 c.in-Ok.ensures.1 h);
      first = λ f h. kept.first f (first_more c.args.scale c.args.limits.now c.args.lines rest more row tasks previous task steps last c.in-Ok.ensures.0 c.in-Ok.ensures.1 f h);
    })

pub returns-in-Err-clause-err : goal.returns-in-Err-clause-err
returns-in-Err-clause-err g c =
    let kept = c.loop-line.invariant in
    let tasks = c.loop-line.tasks.items in
    let last = c.copied-previous.ensures ∙ c.last.ensures.value ∙ ap (λ ts. slice_get ts (length ts - 1)) c.deref.ensures.value ∙ last_or-is tasks in
    inr (kept.first (record { line = c.in-Some.line.number; kind = c.in-Err.kind })
    (stops_first c.args.limits.now c.loop-line.line-iterator c.next.new.self (row_view c.in-Some.line) tasks c.copied-previous.result c.in-Err.kind c.in-Some.ensures.steps last kept.above c.in-Err.ensures))
