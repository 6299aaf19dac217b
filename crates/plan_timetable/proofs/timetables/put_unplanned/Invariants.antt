-- The text so far, followed by that of the remaining names, is the whole text.
use Rattle.std.proofs.Common.{◌≡◌, ◌++◌, drop}
use Rattle.std.specs.List.{flat_map}
use Rattle.plan_timetable.specs.Timetable.{unplanned_block, unplanned_text}
use Rattle.plan_timetable.proofs.timetables.put_unplanned.Given as goal

abbrev pub invariant-loop-name : goal.invariant-loop-name
invariant-loop-name l =
    l.text ++ flat_map (unplanned_block l.form l.problem l.pins l.routes) (drop l.name-index l.names) ≡ l.fn.text ++ unplanned_text l.form l.problem l.pins l.routes l.names
