-- The candidate becomes the working plan and, if it costs no more than the incumbent, the incumbent, too
use Rattle.anneal_search.proofs.AnnealLemmas.{followed_is, goes_on}
use Rattle.anneal_search.proofs.search.Annealing.accept.Goals as goal

pub returns-clause-search_plans : goal.returns-clause-search_plans
returns-clause-search_plans c =
    followed_is c.args.context.now.problem.now c.args.context.now.pins.now.routes c.args.self.now.search_state c.improve.new.search_state c.accept.new.self c.in_ok-improved.improved c.args.cost.now c.requires.cost
    c.in_ok-improved.ensures c.in_ok-accept.ensures

pub returns-clause-annealing : goal.returns-clause-annealing
returns-clause-annealing c =
    goes_on c.args.context.now.problem.now c.args.context.now.pins.now.routes c.args.self.now.search_state c.improve.new.search_state c.accept.new.self c.in_ok-improved.improved c.args.cost.now c.requires.cost
    c.in_ok-improved.ensures c.in_ok-accept.ensures
