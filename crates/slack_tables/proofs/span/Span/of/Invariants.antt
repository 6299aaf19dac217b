-- The span covers the places from 1 to k - 1, the legs between them, and the ends. So after the last stop it is
-- that of all places.
use Rattle.std.proofs.Common.{◌≤◌}
use Rattle.slack_tables.specs.Span.{IsSpanTo, AreEnds}
use Rattle.slack_tables.proofs.span.Span.of.Given as goal

abbrev pub invariant-loop-k : goal.invariant-loop-k
invariant-loop-k l = record {
  some : 2 ≤ l.k;
  within : IsSpanTo l.span l.places l.k;
  ends : AreEnds l.span l.places;
}
