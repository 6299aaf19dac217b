-- The places copied so far have their values from the forward pass. So after the last copy the whole prefix has
-- them.
use Rattle.std.proofs.Common.{◌≡◌, ℕ, ◌+◌, List, length}
use Rattle.plan_types.specs.Instance.{Instance}
use Rattle.route_sched.specs.Route.{place}
use Rattle.slack_tables.specs.SharedPrefix.{IsSharedPrefix, KnowsPrefixes}
use Rattle.slack_tables.specs.ForwardPass.{AreForwardRowsTo}
use Rattle.slack_tables.proofs.shared_prefix.copy_prefix.Given as goal

abbrev pub invariant-loop-k : goal.invariant-loop-k
invariant-loop-k l = record {
  long : length l.places ≡ length l.fn.places;
  opened : (p : Instance) (route : List ℕ) → KnowsPrefixes p l.known → IsSharedPrefix l.known route l.prefix_len
      → AreForwardRowsTo (place p route) 1 l.fn.places → AreForwardRowsTo (place p route) (l.k + 1) l.places;
}
