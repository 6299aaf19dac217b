-- Each pin of a passing plan has distinct current stops.
use Rattle.plan_audit.proofs.LocalLemmas.{pins_are_distinct_stops}
use Rattle.plan_audit.proofs.laws.pins_are_distinct_stops.Goals as goal

pub returns : goal.returns
returns c = pins_are_distinct_stops
