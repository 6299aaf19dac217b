-- If requests are removed, inserting all unplanned ones in the drawn order makes the candidate of the step or
-- shows that it is too far. Otherwise there is no candidate.
use Rattle.std.proofs.Common.{rules, ◌≡◌, is_some, true, false, IfOk, slice_index, sym, ap, subst, ◌∙◌}
use Rattle.std.proofs.lemmas.Result.{IfOk-weaker}
use Rattle.move_ops.specs.Drafts.{draft_of, IsMade}
use Rattle.seeded_search.specs.Steps.{placed_all, unplanned_names}
use Rattle.seeded_search.specs.SearchStates.{IsMadeIfNear}
use Rattle.seeded_search.proofs.PlacingLemmas.{placed_near}
use Rattle.seeded_search.proofs.SearchLemmas.{made_near}
use Rattle.anneal_search.specs.Annealing.{candidate, recreated}
use Rattle.anneal_search.specs.StepLoops.{ruined}
use Rattle.anneal_search.specs.Orders.{ordered}
use Rattle.anneal_search.proofs.AnnealLemmas.{candidate_is, not_removed}
use Rattle.anneal_search.proofs.candidates.make_candidate_near.Goals as goal

pub returns-in_default-clause-made : goal.returns-in_default-clause-made
returns-in_default-clause-made c =
    let p = c.args.context.now.problem.now in
    let pins = c.args.context.now.pins.now.routes in
    let routes = draft_of c.args.draft.now in
    let words = c.args.words.now in
    let none : is_some c.in_ok-missing.field-0 ≡ false = search rules in
    made_near p c.args.near.now.deviation c.args.near.now.best.now (candidate p pins routes words) false c.args.draft.now c.remove_requests.new.draft
    (subst (λ answer. IsMade answer false c.args.draft.now c.remove_requests.new.draft) (candidate_is p pins routes words)
    (not_removed (recreated p pins (slice_index words 2)) (ruined p pins routes words) (is_some c.in_ok-missing.field-0) c.args.draft.now c.remove_requests.new.draft c.in_ok-missing.ensures.taken none))

pub returns-clause-made : goal.returns-clause-made
returns-clause-made c =
    let p = c.args.context.now.problem.now in
    let pins = c.args.context.now.pins.now.routes in
    let routes = draft_of c.args.draft.now in
    let left = draft_of c.remove_requests.new.draft in
    let words = c.args.words.now in
    let some : is_some c.in_ok-missing.field-0 ≡ true = search rules in
    let missing : c.in-Some.missing.items ≡ unplanned_names c.args.context.now.problem.now (draft_of c.remove_requests.new.draft) = search rules in
    let order : c.deref-2.result.now ≡ ordered c.args.context.now.problem.now (slice_index c.args.words.now 2) c.in-Some.missing.items = search rules in
    subst (λ answer. IfOk c.place_all_if_near.result
    (λ made. IsMadeIfNear p c.args.near.now.deviation c.args.near.now.best.now answer made c.args.draft.now c.place_all_if_near.new.draft))
    (candidate_is p pins routes words)
    (IfOk-weaker c.place_all_if_near.result _ _
    (λ made all. placed_near p pins c.args.near.now.deviation c.args.near.now.best.now (recreated p pins (slice_index words 2)) (ruined p pins routes words)
    (is_some c.in_ok-missing.field-0) made c.args.draft.now c.remove_requests.new.draft
    c.place_all_if_near.new.draft c.deref-2.result.now c.in_ok-missing.ensures.taken some c.requires.settled c.in_ok-missing.ensures.base
    (ap (placed_all p pins left) (sym (order ∙ ap (ordered p (slice_index words 2)) missing))) all)
    c.place_all_if_near.ensures.made)
