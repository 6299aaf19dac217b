-- From the latest start of a place nothing is late at this or a later place, and no later start has this
-- property.
use Rattle.plan_timetable.proofs.SlackLemmas as slack
use Rattle.plan_timetable.proofs.laws.latest_starts_are_greatest.Goals as goal

pub returns : goal.returns
returns c = slack.latest_starts_are_greatest
