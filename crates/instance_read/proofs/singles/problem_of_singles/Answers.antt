-- The customers make the requests of the problem, and the next number is above theirs.
use Rattle.std.proofs.Common.{◌+◌, ◌<◌, ℕ, List, sym, ap, subst, arith}
use Rattle.std.specs.List.{AllByRecursion}
use Rattle.plan_types.specs.Instance.{Instance, numbers_among}
use Rattle.plan_types.specs.declared.requests.Request.{Request}
use Rattle.instance_read.specs.Pairs.{last_number}
use Rattle.instance_read.proofs.PairLemmas.{next_small}
use Rattle.instance_read.proofs.SingleLemmas.{singles_above, singles_finished}
use Rattle.instance_read.proofs.singles.problem_of_singles.Goals as goal

pub overflow_add-last_task : goal.overflow_add-last_task
overflow_add-last_task c =
    omega (arith, c.last_task.ensures, next_small c.args.depot.now c.args.customers.now c.requires.tasks)

pub set_next_number-requires-clause-to_max : goal.set_next_number-requires-clause-to_max
set_next_number-requires-clause-to_max c =
    omega (arith, c.last_task.ensures, next_small c.args.depot.now c.args.customers.now c.requires.tasks)

pub set_next_number-requires-clause-above : goal.set_next_number-requires-clause-above
set_next_number-requires-clause-above c =
    let requests = ap (λ (p : Instance). p.requests) c.in_ok-put_singles.ensures in
    let P : ℕ → Type 0 = λ n. AllByRecursion (λ m. m < n + 1) (numbers_among c.put_singles.new.problem.requests) in
    let Q : List (ℕ × Request) → Type 0 = λ es. AllByRecursion (λ m. m < last_number c.args.depot.now c.args.customers.now + 1) (numbers_among es) in
    subst P (sym c.last_task.ensures) (subst Q (sym requests) (singles_above c.args.depot.now c.args.customers.now c.requires.tasks))

pub returns-clause-ok : goal.returns-clause-ok
returns-clause-ok c =
    singles_finished c.args.header c.args.depot.now c.args.customers.now c.problem_without_requests-problem.result c.put_singles.new.problem c.set_next_number.new.self
    (c.last_task.result.now.stop.number + 1) c.problem_without_requests-problem.ensures.0 c.in_ok-put_singles.ensures c.set_next_number.ensures (ap (λ n. n + 1) c.last_task.ensures)
