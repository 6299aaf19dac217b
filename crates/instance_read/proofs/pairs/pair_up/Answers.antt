-- If no task is mismatched, the tasks make the requests of the problem, and the next number is above theirs.
use Rattle.std.proofs.Common.{◌+◌, ◌<◌, ℕ, List, sym, ap, subst, arith}
use Rattle.std.specs.List.{AllByRecursion}
use Rattle.plan_types.specs.Instance.{Instance, numbers_among}
use Rattle.instance_read.specs.Pairs.{is_mismatched, last_number}
use Rattle.plan_types.specs.declared.requests.Request.{Request}
use Rattle.instance_read.proofs.PairLemmas.{few_tasks, none_found, next_small, next_above, finished}
use Rattle.instance_read.proofs.pairs.pair_up.Goals as goal

pub task_table-requires : goal.task_table-requires
task_table-requires c =
    omega (arith, few_tasks 0 c.args.customers.now (omega arith) c.requires.tasks.valid c.requires.tasks.ascending)

pub put_pairs-requires-clause-paired : goal.put_pairs-requires-clause-paired
put_pairs-requires-clause-paired c =
    none_found (is_mismatched c.args.customers.now) c.args.customers.now (sym c.in_default.ensures)

pub overflow_add-last_task : goal.overflow_add-last_task
overflow_add-last_task c =
    omega (arith, c.last_task.ensures, next_small c.args.depot.now c.args.customers.now c.requires.tasks)

pub set_next_number-requires-clause-to_max : goal.set_next_number-requires-clause-to_max
set_next_number-requires-clause-to_max c =
    omega (arith, c.last_task.ensures, next_small c.args.depot.now c.args.customers.now c.requires.tasks)

pub set_next_number-requires-clause-above : goal.set_next_number-requires-clause-above
set_next_number-requires-clause-above c =
    let requests = ap (λ (p : Instance). p.requests) c.in_ok-put_pairs.ensures in
    let P : ℕ → Type 0 = λ n. AllByRecursion (λ m. m < n + 1) (numbers_among c.put_pairs.new.problem.requests) in
    let Q : List (ℕ × Request) → Type 0 = λ es. AllByRecursion (λ m. m < last_number c.args.depot.now c.args.customers.now + 1) (numbers_among es) in
    subst P (sym c.last_task.ensures) (subst Q (sym requests) (next_above c.args.depot.now c.args.customers.now c.requires.tasks))

pub returns-clause-ok : goal.returns-clause-ok
returns-clause-ok c = (
  none_found (is_mismatched c.args.customers.now) c.args.customers.now (sym c.in_default.ensures),
  finished c.args.header c.args.depot.now c.args.customers.now c.problem_without_requests-problem.result c.put_pairs.new.problem c.set_next_number.new.self
      (c.last_task.result.now.stop.number + 1) c.problem_without_requests-problem.ensures.0 c.in_ok-put_pairs.ensures c.set_next_number.ensures (ap (λ n. n + 1) c.last_task.ensures),
)
