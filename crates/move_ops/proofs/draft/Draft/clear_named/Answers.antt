-- Each stop of the next request belongs to a named request, so the draft doesn't have it.
use Rattle.std.proofs.Common.{rules, ◌∙◌, get_or, ap}
use Rattle.plan_types.specs.Instance.{IsInstance}
use Rattle.route_sched.specs.Cost.{has_stop}
use Rattle.move_ops.specs.Drafts.{DraftState, draft_of}
use Rattle.move_ops.proofs.LeftOutLemmas.{has_item, named_stop}
use Rattle.move_ops.proofs.draft.Draft.clear_named.Goals as goal

pub clear_request-requires : goal.clear_request-requires
clear_request-requires c =
    let p = c.args.problem.now in
    let names = c.args.names.now in
    let k = c.loop-name.name-index in
    let valid : IsInstance c.args.problem.now = c.problem_keeps_limits.ensures in
    λ n some. ap (λ (d : DraftState). has_stop (draft_of d) n) c.loop-name.invariant
    ∙ c.requires n
    (named_stop c.requests_are_found_by_stop.ensures p valid names (get_or names k 0) c.in-Some.request
    (has_item names k c.loop-name-test.true) (search rules) n some)
