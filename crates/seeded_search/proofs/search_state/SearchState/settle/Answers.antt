-- A draft that is accepted keeps the search state valid. If the incumbent was replaced too, the working plan is
-- the incumbent.
use Rattle.std.proofs.Common.{true, sym, ap, ◌∙◌}
use Rattle.std.proofs.lemmas.Result.{on_ok_weaker}
use Rattle.plan_types.specs.declared.plans.Plan.{Plan}
use Rattle.move_ops.specs.Drafts.{draft_of}
use Rattle.seeded_search.proofs.SearchLemmas.{noted_walk, accepted_search_state}
use Rattle.seeded_search.proofs.search_state.SearchState.settle.Goals as goal

pub returns-then-le-clause-search_state : goal.returns-then-le-clause-search_state
returns-then-le-clause-search_state c =
    let p = c.args.context.now.problem.now in
    let pins = c.args.context.now.pins.now.routes in
    let followed = c.in_ok-improve.ensures in
    let taken = c.in_ok-accept.ensures in
    noted_walk p pins c.accept.new.self true (accepted_search_state p pins c.improve.new.self c.accept.new.self taken followed.keeps.incumbent followed.keeps.best followed.keeps.idle followed.keeps.spatial_index)
    (λ _. ap (λ (plan : Plan). plan.routes) taken.incumbent ∙ (followed.incumbent ∙ sym (taken.base ∙ ap draft_of followed.draft)))

pub returns-clause-search_state : goal.returns-clause-search_state
returns-clause-search_state c = on_ok_weaker c.accept-2.result
    (λ taken. accepted_search_state c.args.context.now.problem.now c.args.context.now.pins.now.routes c.args.self.now c.accept-2.new.self taken c.requires.incumbent c.requires.best c.requires.idle c.requires.spatial_index) c.accept-2.ensures
