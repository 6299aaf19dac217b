-- The visit at an index is the row of that place.
use Rattle.plan_timetable.proofs.RouteLemmas.{row_in}
use Rattle.plan_timetable.proofs.entries.entries_at.Goals as goal

pub entry_of-requires-clause-row : goal.entry_of-requires-clause-row
entry_of-requires-clause-row c = row_in c.args.problem.now c.args.route.now c.args.visits.now c.loop-visit.visit-index _ c.requires.visits c.loop-visit-test.true
