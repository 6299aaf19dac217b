-- The text so far, followed by that of the remaining lists, is the whole text.
use Rattle.std.proofs.Common.{◌≡◌, ◌+◌, ◌++◌, drop}
use Rattle.command_text.specs.Showing.{lists_text}
use Rattle.command_text.proofs.showing.Text.put_lists.Given as goal

abbrev pub invariant-loop-place : goal.invariant-loop-place
invariant-loop-place l = l.self ++ lists_text l.key (l.place + 1) (drop l.place l.lists) ≡ l.fn.self ++ lists_text l.key 1 l.lists
