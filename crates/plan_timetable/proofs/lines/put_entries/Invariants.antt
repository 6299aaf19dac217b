-- The text so far, followed by that of the remaining places, is the whole text.
use Rattle.std.proofs.Common.{◌≡◌, ◌++◌, drop}
use Rattle.std.specs.List.{flat_map}
use Rattle.plan_timetable.specs.Timetable.{entry_text}
use Rattle.plan_timetable.proofs.lines.put_entries.Given as goal

abbrev pub invariant-loop-entry : goal.invariant-loop-entry
invariant-loop-entry l = l.text ++ flat_map (entry_text l.form l.kind l.vehicle) (drop l.entry-index l.entries) ≡ l.fn.text
    ++ flat_map (entry_text l.form l.kind l.vehicle) l.entries
