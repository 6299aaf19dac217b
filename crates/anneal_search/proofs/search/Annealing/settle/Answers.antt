-- A candidate that is near the working plan replaces it, as in the definition
use Rattle.std.proofs.Common.{rules, ◌≡◌, ◌∙◌, true}
use Rattle.std.proofs.lemmas.Result.{on_ok_weaker}
use Rattle.move_ops.specs.Drafts.{draft_of}
use Rattle.seeded_search.specs.Steps.{is_near}
use Rattle.seeded_search.specs.SearchStates.{search_plans_of}
use Rattle.anneal_search.proofs.AnnealLemmas.{near_follows}
use Rattle.anneal_search.proofs.search.Annealing.settle.Goals as goal

pub returns-clause-search_plans : goal.returns-clause-search_plans
returns-clause-search_plans c =
    let search_state = c.args.self.now.search_state in
    let near : is_near c.args.context.now.deviation c.cost-cost.result c.args.self.now.work ≡ true = search rules in
    let follows = near_follows c.args.context.now.problem.now c.args.context.now.deviation (search_plans_of search_state) (draft_of search_state.draft) c.cost-cost.result c.args.self.now.work c.cost-cost.ensures c.requires.work near in
    on_ok_weaker c.accept.result (λ h. h ∙ follows) c.accept.ensures.search_plans
