-- The last task, or the depot if there is none, has the greatest number.
use Rattle.instance_read.proofs.TableLemmas.{last_number-ref}
use Rattle.instance_read.proofs.pairs.last_task.Goals as goal

pub returns : goal.returns
returns c = last_number-ref c.last.result c.args.depot c.unwrap_or.result c.args.customers.now c.last.ensures.value c.unwrap_or.ensures
