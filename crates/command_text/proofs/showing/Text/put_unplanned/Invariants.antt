-- The text so far, followed by that of the remaining names, is the whole text.
use Rattle.std.proofs.Common.{◌≡◌, ◌++◌, drop}
use Rattle.std.specs.List.{flat_map}
use Rattle.command_text.specs.Showing.{unplanned_text}
use Rattle.command_text.proofs.showing.Text.put_unplanned.Given as goal

abbrev pub invariant-loop-name : goal.invariant-loop-name
invariant-loop-name l = l.self ++ flat_map unplanned_text (drop l.name-index l.names) ≡ l.fn.self ++ flat_map unplanned_text l.names
