-- The stops of a vehicle's tour are its route.
use Rattle.std.proofs.Common.{rules, ◌∙◌}
use Rattle.move_ops.proofs.DraftLemmas.{vehicle_route}
use Rattle.move_ops.proofs.draft.Draft.route.Goals as goal

pub returns : goal.returns
returns c =
    c.stops.ensures ∙ vehicle_route c.args.self.now.tours c.args.vehicle c.index.result.now c.if-vehicle-eq0.false (search rules) (search rules)
