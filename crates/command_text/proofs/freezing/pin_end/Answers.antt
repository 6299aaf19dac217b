-- The result is the first number of stops, from `first` on, that may be pinned.
use Rattle.std.proofs.Common.{◌∙◌, ◌+◌, ◌-◌, ℕ, List, length, sym, ap, arith, refl}
use Rattle.std.specs.List.{find, range_with_len}
use Rattle.command_text.specs.Freezing.{may_be_pinned}
use Rattle.command_text.proofs.FreezeLemmas.{first_here, first_later, first_none}
use Rattle.command_text.proofs.freezing.pin_end.Goals as goal

pub returns-then-may_be_pinned : goal.returns-then-may_be_pinned
returns-then-may_be_pinned c j is own =
    let n = length c.args.route.now + 1 in
    sym (first_here (may_be_pinned j c.args.vehicle) c.loop-stops.stops n c.loop-stops-test.true (sym (c.may_be_pinned.ensures j is) ∙ c.if-may_be_pinned.true)) ∙ c.loop-stops.invariant j is
    ∙ ap (λ (r : List ℕ). find (may_be_pinned j c.args.vehicle) (range_with_len c.args.first (length r + 1 - c.args.first))) own

pub loop-stops-init : goal.loop-stops-init
loop-stops-init c j is = refl

pub loop-stops-preserved : goal.loop-stops-preserved
loop-stops-preserved c j is =
    sym (first_later (may_be_pinned j c.args.vehicle) c.loop-stops.stops (length c.args.route.now + 1) c.loop-stops-test.true
    (sym (c.may_be_pinned.ensures j is) ∙ c.if-may_be_pinned.false)) ∙ c.loop-stops.invariant j is

pub returns : goal.returns
returns c j is own =
    let n = length c.args.route.now + 1 in
    sym (first_none (may_be_pinned j c.args.vehicle) c.loop-stops.stops n (omega (arith, c.loop-stops-test.false))) ∙ c.loop-stops.invariant j is
    ∙ ap (λ (r : List ℕ). find (may_be_pinned j c.args.vehicle) (range_with_len c.args.first (length r + 1 - c.args.first))) own
