-- A pair of tasks that name each other is a request within its limits, and its numbers are free.
use Rattle.std.proofs.Common.{◌+◌, sym, ap, ◌∙◌, get_or, take, refl}
use Rattle.std.proofs.lemmas.List.{get_or_default}
use Rattle.std.specs.List.{filter_map}
use Rattle.plan_types.specs.Instance.{Instance}
use Rattle.instance_read.specs.Pairs.{pair_of}
use Rattle.instance_read.proofs.PairLemmas.{no_task, put_valid, put_free, put_last, put_none, put_step, same_instance}
use Rattle.instance_read.proofs.pairs.put_pairs.Goals as goal
use Rattle.instance_read.proofs.pairs.put_pairs.Goals.{in-Some+in_ok-put_request, in_default}

pub put_request-requires-clause-valid : goal.put_request-requires-clause-valid
put_request-requires-clause-valid c =
    let tasks = c.args.tasks.now in
    let i = c.loop-task.task-index in
    let t = get_or tasks i no_task in
    put_valid tasks i t c.requires.valid c.requires.ascending c.requires.paired c.loop-task-test.true (get_or_default tasks i no_task t c.loop-task-test.true)
    c.in-Some.request (sym c.in-Some.ensures)

pub put_request-requires-clause-free : goal.put_request-requires-clause-free
put_request-requires-clause-free c =
    let tasks = c.args.tasks.now in
    let i = c.loop-task.task-index in
    let t = get_or tasks i no_task in
    put_free tasks i t c.requires.valid c.requires.ascending c.requires.paired c.loop-task-test.true (get_or_default tasks i no_task t c.loop-task-test.true)
    c.in-Some.request (sym c.in-Some.ensures) c.loop-task.problem (ap (λ (p : Instance). p.requests) c.loop-task.invariant)

pub loop-task-preserved : goal.loop-task-preserved
loop-task-preserved c =
    let tasks = c.args.tasks.now in
    let i = c.loop-task.task-index in
    let t = get_or tasks i no_task in
    let at = get_or_default tasks i no_task t c.loop-task-test.true in
    let requests = ap (λ (p : Instance). p.requests) c.loop-task.invariant in
    elim c.match-pair_of.branch [
      | in-Some+in_ok-put_request w ↦
          put_step c.args.problem.now c.loop-task.problem c.match-pair_of.problem w.in-Some.request
          (filter_map (pair_of tasks) (take i tasks)) (filter_map (pair_of tasks) (take (i + 1) tasks)) c.loop-task.invariant (w.problem-is ∙ w.in_ok-put_request.ensures)
          (put_last tasks i t c.requires.valid c.requires.ascending c.requires.paired c.loop-task-test.true at w.in-Some.request (sym w.in-Some.ensures) (filter_map (pair_of tasks) (take i tasks)) refl)
      | in_default w ↦
          let kept = w.problem-is ∙ c.loop-task.invariant in
          same_instance c.match-pair_of.problem c.args.problem.now (filter_map (pair_of tasks) (take (i + 1) tasks))
          (ap (λ (p : Instance). p.kind) kept) (ap (λ (p : Instance). p.depot) kept) (ap (λ (p : Instance). p.capacity) kept) (ap (λ (p : Instance). p.fleet) kept)
          (ap (λ (p : Instance). p.requests) kept ∙ sym (put_none tasks i t c.loop-task-test.true at (sym w.in_default.ensures)))
    ]
