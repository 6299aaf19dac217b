-- If the draft becomes a candidate, it is the candidate of the definition, so it replaces the same plans. Without
-- a candidate, or with one that is too far, nothing changes.
use Rattle.std.proofs.Common.{rules, ◌≡◌, Some, sym, ap, ◌∙◌}
use Rattle.std.proofs.lemmas.Result.{on_ok_weaker}
use Rattle.move_ops.specs.Drafts.{base_of, draft_of}
use Rattle.seeded_search.specs.SearchStates.{search_plans_of}
use Rattle.seeded_search.proofs.SearchLemmas.{made_then, stayed_walk, stays_then}
use Rattle.anneal_search.specs.Annealing.{candidate, search_plans, annealed, annealed_by}
use Rattle.anneal_search.proofs.AnnealLemmas.{far_stays}
use Rattle.anneal_search.proofs.search.Annealing.step.Goals as goal

pub returns-clause-search_plans : goal.returns-clause-search_plans
returns-clause-search_plans c =
    let p = c.args.context.now.problem.now in
    let pins = c.args.context.now.pins.now.routes in
    let search_state = c.args.self.now.search_state in
    let draft = c.make_candidate_near.new.draft in
    let some : candidate p pins (base_of search_state.draft) c.args.words.now ≡ Some (draft_of draft) =
    ap (λ routes. candidate p pins routes c.args.words.now) (sym c.requires.search_state.settled)
    ∙ made_then p c.args.context.now.deviation c.args.self.now.work
    (candidate p pins (draft_of search_state.draft) c.args.words.now) c.in_ok-make_candidate_near.field-0 search_state.draft draft c.in_ok-make_candidate_near.ensures.made (search rules) in
    let same : annealed p c.args.context.now.deviation (search_plans search_state.incumbent.routes (base_of draft)) (draft_of draft)
    ≡ annealed_by p c.args.context.now.deviation (search_plans_of search_state) (candidate p pins (base_of search_state.draft) c.args.words.now) =
    ap (λ base. annealed p c.args.context.now.deviation (search_plans search_state.incumbent.routes base) (draft_of draft)) c.in_ok-make_candidate_near.ensures.base ∙ ap (annealed_by p c.args.context.now.deviation (search_plans_of search_state)) (sym some) in
    on_ok_weaker c.settle.result (λ h. h ∙ same) c.settle.ensures.search_plans

-- Without a candidate, or with one that is too far, nothing changes
pub returns-then-not-branch-clause-search_plans : goal.returns-then-not-branch-clause-search_plans
returns-then-not-branch-clause-search_plans c =
    let p = c.args.context.now.problem.now in
    let pins = c.args.context.now.pins.now.routes in
    let search_state = c.args.self.now.search_state in
    let draft = c.make_candidate_near.new.draft in
    ap (search_plans search_state.incumbent.routes) c.in_ok-make_candidate_near.ensures.base
    ∙ (far_stays p c.args.context.now.deviation c.args.self.now.work
    (candidate p pins (draft_of search_state.draft) c.args.words.now) c.in_ok-make_candidate_near.field-0 search_state.draft draft c.in_ok-make_candidate_near.ensures.made (search rules)
    (search_plans_of search_state) c.requires.work
    ∙ ap (λ routes. annealed_by p c.args.context.now.deviation (search_plans_of search_state) (candidate p pins routes c.args.words.now)) c.requires.search_state.settled)

pub returns-then-not-branch-clause-annealing : goal.returns-then-not-branch-clause-annealing
returns-then-not-branch-clause-annealing c =
    let p = c.args.context.now.problem.now in
    let pins = c.args.context.now.pins.now.routes in
    let search_state = c.args.self.now.search_state in
    let draft = c.make_candidate_near.new.draft in
    record {
      search_state = stayed_walk p pins search_state draft c.make_candidate_near.new.spatial_index c.requires.search_state c.in_ok-make_candidate_near.ensures.nearest_stops c.in_ok-make_candidate_near.ensures.is c.in_ok-make_candidate_near.ensures.base
          (stays_then p c.args.context.now.deviation c.args.self.now.work
          (candidate p pins (draft_of search_state.draft) c.args.words.now) c.in_ok-make_candidate_near.field-0 search_state.draft draft c.in_ok-make_candidate_near.ensures.made
          (search rules));
      work = search rules;
    }
