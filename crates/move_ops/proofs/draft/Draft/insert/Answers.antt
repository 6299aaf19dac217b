-- If a current request can be inserted at this place, the draft becomes the plan with the request. Otherwise
-- there is no such plan.
use Rattle.std.proofs.Common.{rules, None, Some}
use Rattle.move_ops.specs.Drafts.{draft_of}
use Rattle.move_ops.specs.Insertion.{inserted_at, with_request_at}
use Rattle.move_ops.proofs.PlacementLemmas.{named_request, put_named, was_made, was_not_made}
use Rattle.move_ops.proofs.draft.Draft.insert.Goals as goal

pub can_insert-requires-clause-request : goal.can_insert-requires-clause-request
can_insert-requires-clause-request c =
    named_request c.args.problem.now c.requires.valid c.args.name c.in-Some.request (search rules)

pub returns-then-not-branch : goal.returns-then-not-branch
returns-then-not-branch c =
    let p = c.args.problem.now in
    let pins = c.args.pins.now.routes in
    let routes = draft_of c.args.self.now in
    let r = c.in-Some.request in
    was_not_made (inserted_at p pins routes c.args.name c.args.place) c.args.self.now
    (put_named p c.requires.valid c.args.name r (search rules) pins routes c.args.place None (c.in_ok-can_insert.ensures.none (search rules)))

pub returns : goal.returns
returns c =
    let p = c.args.problem.now in
    let pins = c.args.pins.now.routes in
    let routes = draft_of c.args.self.now in
    let r = c.in-Some.request in
    let new = with_request_at routes r c.args.place in
    was_made (inserted_at p pins routes c.args.name c.args.place) new c.args.self.now c.put.new.self
    (put_named p c.requires.valid c.args.name r (search rules) pins routes c.args.place (Some new)
    (c.in_ok-can_insert.ensures.put (search rules)).there) c.in_ok-put.ensures.draft
