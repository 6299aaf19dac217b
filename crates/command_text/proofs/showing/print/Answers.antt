-- If no request is unplanned, the only possible error is out of memory.
use Rattle.std.proofs.Common.{◌≡◌, subst}
use Rattle.route_sched.specs.Cost.{unplanned_count}
use Rattle.command_types.specs.Job.{JobValue}
use Rattle.sol_text.specs.declared.faults.WriteSolFault.TheVariants.{OutOfMemory}
use Rattle.command_text.proofs.showing.print.Goals as goal

pub returns-in-Err-clause-planned : goal.returns-in-Err-clause-planned
returns-in-Err-clause-planned c =
    subst (λ (j : JobValue). unplanned_count j.problem j.plan ≡ 0 → c.in-Err.fault ≡ OutOfMemory) c.job.view_is c.in-Err.ensures.planned
