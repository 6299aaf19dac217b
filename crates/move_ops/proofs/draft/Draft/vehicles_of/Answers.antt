-- The vehicles of one more name are in the list, so vehicles that are not yet in it have stops of the remaining
-- names.
use Rattle.std.proofs.Common.{◌≡◌, ◌+◌, ◌&&◌, ◌∙◌, true, sym, ap, drop, get_or}
use Rattle.std.specs.List.{list_all}
use Rattle.std.proofs.lemmas.List.{drop_more}
use Rattle.move_ops.specs.Drafts.{draft_of}
use Rattle.move_ops.specs.Moves.{is_movable_name}
use Rattle.move_ops.proofs.VehicleListLemmas.{found_more}
use Rattle.move_ops.proofs.draft.Draft.vehicles_of.Goals as goal

pub loop-name-preserved : goal.loop-name-preserved
loop-name-preserved c =
    let movable = is_movable_name c.args.problem.now c.args.pins.now.routes (draft_of c.args.self.now) in
    let names = c.args.names.now in
    let k = c.loop-name.name-index in
    let left = drop_more names k 0 c.loop-name-test.true in
    let one : movable (get_or names k 0) ≡ true = sym c.in_ok-collect_vehicles_of.ensures.movable ∙ c.if-not-branch.false in
    let noted = c.in_ok-collect_vehicles_of.ensures.noted c.if-not-branch.false in
    record {
      movable = sym (ap (list_all movable) left ∙ ap (λ b. b && list_all movable (drop (k + 1) names)) one) ∙ c.loop-name.invariant.movable;
      within = noted.within c.loop-name.invariant.within;
      found =
          found_more (draft_of c.args.self.now) c.args.problem.now names (drop k names) (drop (k + 1) names)
          (get_or names k 0) c.loop-name.vehicles.items c.collect_vehicles_of.new.vehicles.items left c.loop-name.invariant.found noted;
    }
