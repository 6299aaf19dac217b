-- The table has the route's stops so far at the same places, so they are a shared prefix wherever the loop
-- ends.
use Rattle.slack_tables.specs.SharedPrefix.{IsSharedPrefix}
use Rattle.slack_tables.proofs.shared_prefix.shared_prefix_length.Given as goal

abbrev pub invariant-loop-k : goal.invariant-loop-k
invariant-loop-k l = IsSharedPrefix l.known l.route l.k
