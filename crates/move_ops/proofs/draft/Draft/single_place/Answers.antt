-- A current single whose number is at an index of a vehicle's route has its place at this index.
use Rattle.std.proofs.Common.{rules, ◌≡◌, Some, slice_get}
use Rattle.plan_types.specs.declared.requests.Request.TheVariants.{Single}
use Rattle.move_ops.specs.Drafts.{draft_of}
use Rattle.move_ops.specs.Insertion.{request_named, route_of}
use Rattle.move_ops.proofs.MoveCostLemmas.{single_place_is}
use Rattle.move_ops.proofs.draft.Draft.single_place.Goals as goal

pub returns : goal.returns
returns c =
    let named : request_named c.args.problem.now c.args.name ≡ Some (Single c.in-Some-Single.stop) = search rules in
    let at : slice_get (route_of (draft_of c.args.self.now) c.from-vehicle.result) c.in_ok-index.index ≡ Some c.in-Some-Single.stop.number = search rules in
    single_place_is c.args.problem.now (draft_of c.args.self.now) c.args.name c.in-Some-Single.stop c.from-vehicle.result c.in_ok-index.index c.requires.valid named at
