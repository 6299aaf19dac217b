-- The text so far, followed by that of the remaining unserved stops, is the whole text.
use Rattle.std.proofs.Common.{◌≡◌, ◌++◌, drop}
use Rattle.std.specs.List.{flat_map}
use Rattle.plan_picture.specs.Map.{mark_text}
use Rattle.plan_picture.specs.declared.tags.Tag.TheVariants as tags
use Rattle.plan_picture.proofs.svg.Svg.put_unserved.Given as goal

abbrev pub invariant-loop-stop : goal.invariant-loop-stop
invariant-loop-stop l = l.self ++ flat_map (mark_text tags.UnservedMark l.frame) (drop l.stop-index l.left) ≡ l.fn.self ++ flat_map (mark_text tags.UnservedMark l.frame) l.left
