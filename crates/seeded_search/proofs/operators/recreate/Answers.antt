-- Once the drawn requests are removed, they and the requests unplanned before are inserted. This makes the
-- recreated plan, or one that is known to be far.
use Rattle.std.proofs.Common.{rules, ◌≡◌, ◌==◌, ◌+◌, ◌++◌, false, IfOk, length, take, drop, slice_index, sym, ap, subst, ◌∙◌}
use Rattle.std.proofs.lemmas.Result.{IfOk-weaker}
use Rattle.move_ops.specs.Drafts.{draft_of, IsMade}
use Rattle.move_ops.specs.Moves.{removed}
use Rattle.seeded_search.specs.Steps.{drawn, placed_all, unplanned_names}
use Rattle.seeded_search.specs.Words.{pick}
use Rattle.seeded_search.specs.SearchStates.{IsMadeIfNear}
use Rattle.seeded_search.proofs.PlacingLemmas.{placed_near, recreated_some}
use Rattle.seeded_search.proofs.operators.recreate.Goals as goal

pub returns-clause-made : goal.returns-clause-made
returns-clause-made c =
    let p = c.args.context.now.problem.now in
    let pins = c.args.context.now.pins.now.routes in
    let routes = draft_of c.args.draft.now in
    let words = c.args.words.now in
    let names = c.in_ok-names.names.items in
    let ruined = c.in_ok-names.ensures ∙ ap (drawn (take (1 + pick (slice_index words 1) 8) (drop 2 words))) (c.deref.ensures.value ∙ c.requires.lists.movable) in
    let some : (length c.in_ok-names.names.items == 0) ≡ false = search rules in
    let done : IsMade (removed c.args.context.now.problem.now c.args.context.now.pins.now.routes
    (draft_of c.args.draft.now) c.in_ok-names.names.items) c.in_ok-remove.field-0 c.args.draft.now c.remove.new.self = search rules in
    let all_names : c.deref-4.result.now ≡ c.in_ok-names.names.items ++ c.args.lists.now.unplanned.items = search rules in
    let missing = all_names ∙ ap (λ more. names ++ more) c.requires.lists.unplanned in
    subst (λ answer. IfOk c.place_all_if_near.result
    (λ made. IsMadeIfNear p c.args.near.now.deviation c.args.near.now.best.now answer made c.args.draft.now c.place_all_if_near.new.draft))
    (sym (recreated_some p pins routes words names ruined some))
    (IfOk-weaker c.place_all_if_near.result _ _
    (λ made all. placed_near p pins c.args.near.now.deviation c.args.near.now.best.now (λ left. placed_all p pins left (names ++ unplanned_names p routes))
    (removed p pins routes names) c.in_ok-remove.field-0 made c.args.draft.now c.remove.new.self
    c.place_all_if_near.new.draft c.deref-4.result.now done c.if-not-branch.false c.requires.settled c.in_ok-remove.ensures.base (ap (placed_all p pins (draft_of c.remove.new.self)) (sym missing)) all)
    c.place_all_if_near.ensures.made)
