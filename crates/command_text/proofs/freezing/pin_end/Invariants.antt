-- A search of the remaining numbers finds what a search of all numbers finds.
use Rattle.std.proofs.Common.{◌≡◌, ◌+◌, length}
use Rattle.command_types.specs.declared.states.State.TheVariants.{Loaded}
use Rattle.command_types.specs.Job.{JobValue}
use Rattle.command_text.specs.Freezing.{may_be_pinned}
use Rattle.command_text.proofs.FreezeLemmas.{first_from}
use Rattle.command_text.proofs.freezing.pin_end.Given as goal

abbrev pub invariant-loop-stops : goal.invariant-loop-stops
invariant-loop-stops l =
    (j : JobValue) → l.state ≡ Loaded j → first_from (may_be_pinned j l.vehicle) l.stops (length l.route + 1) ≡ first_from (may_be_pinned j l.vehicle) l.first (length l.route + 1)
