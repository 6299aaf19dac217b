-- A first violation of rules 1 to 5 is also the first violation of rules 1 to 8. If rules 1 to 5 hold, the rules
-- on loads and times decide.
use Rattle.std.proofs.Common.{arith}
use Rattle.plan_audit.proofs.VerdictLemmas.{broken_wider, judged_after}
use Rattle.plan_audit.proofs.audits.check_all_routes.Goals as goal

pub returns-in-Some : goal.returns-in-Some
returns-in-Some c = record {
  judged = λ s is asked. broken_wider c.args.scan.now.problem.now s 1 5 8 c.in-Some.broken (omega arith) (c.in-Some.ensures.least s is asked);
}

pub check_loads_and_times-requires : goal.check_loads_and_times-requires
check_loads_and_times-requires c = c.in_default.ensures.plan

pub returns : goal.returns
returns c = record {
  judged = λ s is asked. judged_after c.args.scan.now.problem.now s 1 5 8 c.check_loads_and_times.result (omega arith) (c.in_default.ensures.least s is asked)
      (c.check_loads_and_times.ensures.judged s is);
}
