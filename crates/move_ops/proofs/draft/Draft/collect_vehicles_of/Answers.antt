-- The stops of the request with this name are the stops that the name has, so the vehicles of the request are
-- those of the name.
use Rattle.std.proofs.Common.{rules, ◌≡◌, Bool, true, IsSome}
use Rattle.std.proofs.lemmas.Result.{IfOk-weaker}
use Rattle.plan_types.specs.Request.{stop_in}
use Rattle.move_ops.specs.Changes.{Collects}
use Rattle.move_ops.specs.Drafts.{draft_of}
use Rattle.move_ops.specs.Moves.{is_of_named}
use Rattle.move_ops.proofs.VehicleListLemmas.{noted_named}
use Rattle.move_ops.proofs.draft.Draft.collect_vehicles_of.Goals as goal

pub returns-clause-noted : goal.returns-clause-noted
returns-clause-noted c =
    let routes = draft_of c.args.self.now in
    let before = c.args.vehicles.now.items in
    let after = c.collect_vehicles.new.vehicles.items in
    IfOk-weaker c.collect_vehicles.result (λ _. Collects routes (λ n. IsSome (stop_in n c.in-Some.request)) before after) _
    (λ is noted yes. noted_named routes c.requests_are_stored_by_name.ensures c.args.problem.now c.requires.draft.valid c.args.name c.in-Some.request (search rules) before after noted)
    c.collect_vehicles.ensures.noted
