-- The entries so far are those of the visits so far.
use Rattle.std.proofs.Common.{◌≡◌, map, take}
use Rattle.plan_timetable.specs.Entries.{entry_of}
use Rattle.plan_timetable.proofs.entries.entries_at.Given as goal

abbrev pub invariant-loop-visit : goal.invariant-loop-visit
invariant-loop-visit l = l.entries.items ≡ map (entry_of l.problem l.route) (take l.visit-index l.visits)
