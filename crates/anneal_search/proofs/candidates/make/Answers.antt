-- After the requests with a stop in a string are removed, inserting all unplanned ones in the drawn order makes
-- the candidate of the step
use Rattle.std.proofs.Common.{rules, ◌≡◌, is_some, true, false, slice_index, ap, subst, ◌∙◌}
use Rattle.move_ops.specs.Drafts.{draft_of, IsMade}
use Rattle.seeded_search.specs.Steps.{placed_all, unplanned_names}
use Rattle.anneal_search.specs.Annealing.{recreated}
use Rattle.anneal_search.specs.StepLoops.{ruined}
use Rattle.anneal_search.specs.Orders.{ordered}
use Rattle.anneal_search.proofs.AnnealLemmas.{candidate_is, not_removed, removed_and_more}
use Rattle.anneal_search.proofs.LeftOutLemmas.{held}
use Rattle.anneal_search.proofs.candidates.make.Goals as goal

pub returns-in_default-clause-made : goal.returns-in_default-clause-made
returns-in_default-clause-made c =
    let p = c.args.context.now.problem.now in
    let pins = c.args.context.now.pins.now.routes in
    let routes = draft_of c.args.draft.now in
    let words = c.args.words.now in
    let none : is_some c.in_ok-missing.field-0 ≡ false = search rules in
    subst (λ answer. IsMade answer false c.args.draft.now c.remove_requests.new.draft) (candidate_is p pins routes words)
    (not_removed (recreated p pins (slice_index words 2)) (ruined p pins routes words) (is_some c.in_ok-missing.field-0) c.args.draft.now c.remove_requests.new.draft c.in_ok-missing.ensures.taken none)

pub returns-clause-made : goal.returns-clause-made
returns-clause-made c =
    let p = c.args.context.now.problem.now in
    let pins = c.args.context.now.pins.now.routes in
    let routes = draft_of c.args.draft.now in
    let left = draft_of c.remove_requests.new.draft in
    let words = c.args.words.now in
    let some : is_some c.in_ok-missing.field-0 ≡ true = search rules in
    let missing : c.in-Some.missing.items ≡ unplanned_names c.args.context.now.problem.now (draft_of c.remove_requests.new.draft) = search rules in
    let order : c.in_ok-order.order.items ≡ ordered c.args.context.now.problem.now (slice_index c.args.words.now 2) c.in-Some.missing.items = search rules in
    let more : draft_of c.place_all.new.draft ≡ placed_all c.args.context.now.problem.now c.args.context.now.pins.now.routes (draft_of c.remove_requests.new.draft) c.in_ok-order.order.items = search rules in
    subst (λ answer. IsMade answer true c.args.draft.now c.place_all.new.draft) (candidate_is p pins routes words)
    (removed_and_more (recreated p pins (slice_index words 2)) (ruined p pins routes words)
    (is_some c.in_ok-missing.field-0) c.args.draft.now c.remove_requests.new.draft c.place_all.new.draft c.in_ok-missing.ensures.taken some
    (more ∙ ap (placed_all p pins left) (order ∙ ap (ordered p (slice_index words 2)) missing)))

pub returns-clause-left : goal.returns-clause-left
returns-clause-left c =
    let p = c.args.context.now.problem.now in
    let pins = c.args.context.now.pins.now.routes in
    let left = draft_of c.remove_requests.new.draft in
    let words = c.args.words.now in
    let missing : c.in-Some.missing.items ≡ unplanned_names c.args.context.now.problem.now (draft_of c.remove_requests.new.draft) = search rules in
    let order : c.in_ok-order.order.items ≡ ordered c.args.context.now.problem.now (slice_index c.args.words.now 2) c.in-Some.missing.items = search rules in
    let more : draft_of c.place_all.new.draft ≡ placed_all c.args.context.now.problem.now c.args.context.now.pins.now.routes (draft_of c.remove_requests.new.draft) c.in_ok-order.order.items = search rules in
    held p pins (slice_index words 2) left (draft_of c.place_all.new.draft) c.in-Some.missing.items c.requires.draft.valid missing
    (more ∙ ap (placed_all p pins left) (order ∙ ap (ordered p (slice_index words 2)) missing))
