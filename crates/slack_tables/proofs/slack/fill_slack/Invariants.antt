-- The places from k on follow from the next ones, and those before are unchanged. So once k is 0 all are
-- filled.
use Rattle.slack_tables.proofs.FillLemmas.{IsFilledFrom}
use Rattle.slack_tables.proofs.slack.fill_slack.Given as goal

abbrev pub invariant-loop-k : goal.invariant-loop-k
invariant-loop-k l = IsFilledFrom l.kind l.fn.places l.places l.k
