-- Only vehicles with stops of the two requests get another route, so their changes make the plan with the two
-- exchanged.
use Rattle.std.proofs.Common.{◌≡◌, List, map, sym, ap, subst, ◌∙◌}
use Rattle.std.proofs.lemmas.List.{take_all}
use Rattle.move_ops.specs.Changes.{AreChanges}
use Rattle.move_ops.specs.Drafts.{draft_of}
use Rattle.move_ops.specs.Moves.{counterpart}
use Rattle.move_ops.specs.declared.changes.Change.{Change}
use Rattle.move_ops.proofs.VehicleListLemmas.{change_at, exchanged_changes}
use Rattle.move_ops.proofs.draft.Draft.exchanges_at.Goals as goal

pub returns : goal.returns
returns c =
    let r = c.args.first.now in
    let s = c.args.second.now in
    let old = draft_of c.args.self.now in
    let whole = take_all c.loop-vehicle.vehicle-index c.args.vehicles.now c.loop-vehicle-test.false in
    let are : c.loop-vehicle.changes.items ≡ map (change_at (map (counterpart r s)) old) c.args.vehicles.now =
    c.loop-vehicle.invariant ∙ ap (map (change_at (map (counterpart r s)) old)) whole in
    subst (λ (l : List Change). AreChanges old (map (map (counterpart r s)) old) l) (sym are)
    (exchanged_changes r s old c.args.vehicles.now c.requires.within c.requires.found)
