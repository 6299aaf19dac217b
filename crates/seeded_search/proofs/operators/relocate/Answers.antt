-- Once the picked request is removed, it is inserted at its best place. This makes the relocated plan, or one
-- that is known to be far.
use Rattle.std.proofs.Common.{rules, ◌≡◌, ℕ, List, [], ◌∷◌, Some, IfOk, refl, sym, ap, subst, ◌∙◌}
use Rattle.std.specs.Option.{option_map, option_and_then}
use Rattle.std.proofs.lemmas.Result.{IfOk-weaker}
use Rattle.move_ops.specs.Drafts.{draft_of, placed, IsMade}
use Rattle.move_ops.specs.Moves.{removed}
use Rattle.seeded_search.specs.Steps.{movable_names, picked}
use Rattle.seeded_search.specs.SearchStates.{IsMadeIfNear}
use Rattle.seeded_search.proofs.PlacingLemmas.{placed_near}
use Rattle.seeded_search.proofs.operators.relocate.Goals as goal

pub returns-clause-made : goal.returns-clause-made
returns-clause-made c =
    let p = c.args.context.now.problem.now in
    let pins = c.args.context.now.pins.now.routes in
    let routes = draft_of c.args.draft.now in
    let name = c.in-Some.name in
    let some : picked c.args.word (movable_names p pins routes) ≡ Some name = ap (picked c.args.word) (sym c.requires.movable) ∙ (sym c.picked.ensures ∙ c.in-Some.is) in
    let done : IsMade (removed c.args.context.now.problem.now c.args.context.now.pins.now.routes (draft_of c.args.draft.now) (c.in-Some.name ∷ [])) c.in_ok-remove.field-0 c.args.draft.now c.remove.new.self = search rules in
    subst (λ o. IfOk c.place_all_if_near.result
    (λ made. IsMadeIfNear p c.args.near.now.deviation c.args.near.now.best.now
    (option_and_then (λ (n : ℕ). option_map (λ (left : List (List ℕ)). placed p pins left n)
    (removed p pins routes (n ∷ []))) o) made c.args.draft.now c.place_all_if_near.new.draft)) (sym some)
    (IfOk-weaker c.place_all_if_near.result _ _
    (λ made all. placed_near p pins c.args.near.now.deviation c.args.near.now.best.now (λ left. placed p pins left name)
    (removed p pins routes (name ∷ [])) c.in_ok-remove.field-0 made c.args.draft.now c.remove.new.self c.place_all_if_near.new.draft
    (name ∷ []) done c.if-not-branch.false c.requires.settled c.in_ok-remove.ensures.base refl all)
    c.place_all_if_near.ensures.made)
