-- A problem without requests is valid if its numbers are within their limits, and an empty table agrees with
-- it.
use Rattle.std.proofs.Common.{rules, arith, refl}
use Rattle.plan_types.proofs.InstanceLemmas.{IsInstance-new}
use Rattle.plan_types.proofs.problems.Problem.new.Goals as goal

pub invariant_of-result : goal.invariant_of-result
invariant_of-result c = record {
  valid = rw c.new.ensures.empty (IsInstance-new _ _ _ _ (search rules) (omega arith) (omega arith, omega arith));
  by_number = λ n. rw (c.new.ensures.empty, c.new-2.ensures.items) refl;
}

pub returns-clause-ok : goal.returns-clause-ok
returns-clause-ok c = rw c.new.ensures.empty (refl, IsInstance-new _ _ _ _ (search rules) (omega arith) (omega arith, omega arith))
