-- If the draft becomes a candidate, it is the candidate of the definition, so it replaces the same plans. Without
-- a candidate, or with one that is far, nothing changes.
use Rattle.std.proofs.Common.{rules, ◌≡◌, Some, sym, ap, ◌∙◌}
use Rattle.std.proofs.lemmas.Result.{on_ok_weaker}
use Rattle.move_ops.specs.Drafts.{base_of, draft_of}
use Rattle.seeded_search.specs.Steps.{candidate, search_plans, after_candidate, after_candidate_if_any}
use Rattle.seeded_search.specs.SearchStates.{search_plans_of}
use Rattle.seeded_search.proofs.SearchLemmas.{far_then, made_then, stayed_walk, stays_then}
use Rattle.seeded_search.proofs.search_state.SearchState.step.Goals as goal

pub returns-clause-search_plans : goal.returns-clause-search_plans
returns-clause-search_plans c =
    let p = c.args.context.now.problem.now in
    let pins = c.args.context.now.pins.now.routes in
    let search_state = c.args.self.now in
    let draft = c.make.new.draft in
    let some : candidate p pins (base_of search_state.draft) c.args.words.now ≡ Some (draft_of draft) =
    ap (λ routes. candidate p pins routes c.args.words.now) (sym c.requires.settled)
    ∙ made_then p c.args.context.now.deviation search_state.best
    (candidate p pins (draft_of search_state.draft) c.args.words.now) c.in_ok-make.field-0 search_state.draft draft c.in_ok-make.ensures.made (search rules) in
    let same : after_candidate p c.args.context.now.deviation (search_plans search_state.incumbent.routes (base_of draft)) (draft_of draft)
    ≡ after_candidate_if_any p c.args.context.now.deviation (search_plans_of search_state) (candidate p pins (base_of search_state.draft) c.args.words.now) =
    ap (λ base. after_candidate p c.args.context.now.deviation (search_plans search_state.incumbent.routes base) (draft_of draft)) c.in_ok-make.ensures.base ∙ ap (after_candidate_if_any p c.args.context.now.deviation (search_plans_of search_state)) (sym some) in
    on_ok_weaker c.settle.result (λ h. h ∙ same) c.settle.ensures.search_plans

-- without a candidate, or with one that is far, nothing changes
pub returns-then-not-branch-clause-search_plans : goal.returns-then-not-branch-clause-search_plans
returns-then-not-branch-clause-search_plans c =
    let p = c.args.context.now.problem.now in
    let pins = c.args.context.now.pins.now.routes in
    let search_state = c.args.self.now in
    let draft = c.make.new.draft in
    ap (search_plans search_state.incumbent.routes) c.in_ok-make.ensures.base
    ∙ (far_then p c.args.context.now.deviation search_state.best
    (candidate p pins (draft_of search_state.draft) c.args.words.now) c.in_ok-make.field-0 search_state.draft draft c.in_ok-make.ensures.made (search rules)
    (search_plans_of search_state) c.requires.keeps.best
    ∙ ap (λ routes. after_candidate_if_any p c.args.context.now.deviation (search_plans_of search_state) (candidate p pins routes c.args.words.now)) c.requires.settled)

pub returns-then-not-branch-clause-search_state : goal.returns-then-not-branch-clause-search_state
returns-then-not-branch-clause-search_state c =
    let p = c.args.context.now.problem.now in
    let pins = c.args.context.now.pins.now.routes in
    let search_state = c.args.self.now in
    let draft = c.make.new.draft in
    stayed_walk p pins search_state draft search_state.spatial_index c.requires c.requires.keeps.spatial_index c.in_ok-make.ensures.is c.in_ok-make.ensures.base
    (stays_then p c.args.context.now.deviation search_state.best (candidate p pins (draft_of search_state.draft) c.args.words.now) c.in_ok-make.field-0 search_state.draft draft c.in_ok-make.ensures.made (search rules))
