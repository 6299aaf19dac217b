-- The text so far, followed by that of the remaining labels, is the whole text.
use Rattle.std.proofs.Common.{◌≡◌, ◌++◌, drop}
use Rattle.std.specs.List.{flat_map}
use Rattle.plan_picture.specs.Map.{label_text}
use Rattle.plan_picture.proofs.svg.Svg.put_each_label.Given as goal

abbrev pub invariant-loop-label : goal.invariant-loop-label
invariant-loop-label l = l.self ++ flat_map (label_text l.frame) (drop l.label-index l.labels) ≡ l.fn.self ++ flat_map (label_text l.frame) l.labels
