-- The text so far, followed by that of the remaining stops, is the whole text.
use Rattle.std.proofs.Common.{◌≡◌, ◌++◌, ◌-◌, map}
use Rattle.instance_text.specs.Texts.{lines_text, row_line, stops_from}
use Rattle.instance_text.proofs.stops.put_stops.Given as goal

abbrev pub invariant-loop-number : goal.invariant-loop-number
invariant-loop-number l =
    l.text.items ++ lines_text (map (row_line l.problem l.row) (stops_from l.problem l.number (l.problem.next_number - l.number)))
    ≡ l.fn.text.items ++ lines_text (map (row_line l.problem l.row) (stops_from l.problem 1 (l.problem.next_number - 1)))
