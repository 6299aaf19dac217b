-- The text so far, followed by that of the remaining pairs, is the whole text.
use Rattle.std.proofs.Common.{◌≡◌, ◌++◌, drop}
use Rattle.std.specs.List.{flat_map}
use Rattle.plan_picture.specs.Map.{pair_text}
use Rattle.plan_picture.proofs.svg.Svg.put_each_pair.Given as goal

abbrev pub invariant-loop-stop : goal.invariant-loop-stop
invariant-loop-stop l = l.self ++ flat_map (pair_text l.problem l.frame l.stops) (drop l.stop-index l.stops) ≡ l.fn.self ++ flat_map (pair_text l.problem l.frame l.stops) l.stops
