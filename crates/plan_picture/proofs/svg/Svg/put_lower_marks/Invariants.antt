-- The text so far, followed by that of the remaining lower marks, is the whole text.
use Rattle.std.proofs.Common.{◌≡◌, ◌++◌, drop}
use Rattle.std.specs.List.{flat_map}
use Rattle.plan_picture.specs.Map.{lower_mark}
use Rattle.plan_picture.proofs.svg.Svg.put_lower_marks.Given as goal

abbrev pub invariant-loop-stop : goal.invariant-loop-stop
invariant-loop-stop l = l.self ++ flat_map (lower_mark l.problem l.frame) (drop l.stop-index l.stops) ≡ l.fn.self ++ flat_map (lower_mark l.problem l.frame) l.stops
