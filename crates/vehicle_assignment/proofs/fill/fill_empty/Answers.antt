-- After the last vehicle all routes are assigned.
use Rattle.std.proofs.Common.{◌≡◌, ◌∙◌, [], sym}
use Rattle.std.proofs.lemmas.List.{nil_from_length}
use Rattle.std.specs.Vec.Iter.{into_iter_items}
use Rattle.vehicle_assignment.proofs.FillLemmas.{all_given}
use Rattle.vehicle_assignment.proofs.fill.fill_empty.Goals as goal

pub returns : goal.returns
returns c =
    let none : into_iter_items c.loop-seat.seat-iterator ≡ [] = nil_from_length (into_iter_items c.loop-seat.seat-iterator) (sym c.loop-seat.seat-iterator.rest.ok.0 ∙ c.in-None.ensures.steps.0) in
    all_given _ _ _ _ none c.loop-seat.invariant
