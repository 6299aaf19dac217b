-- `NO_LIMIT` allows each insertion, so the best within it is the best of all.
use Rattle.std.proofs.Common.{refl}
use Rattle.move_ops.proofs.LimitLemmas.{unbounded}
use Rattle.move_ops.proofs.draft.Draft.best.Goals as goal

pub returns-clause-best : goal.returns-clause-best
returns-clause-best c =
    unbounded c.insertion_laws.ensures c.args.problem.now c.args.pins.now.routes c.args.self.now c.requires.is c.args.request.now
    c.requires.request _ refl refl c.best_within.result c.best_within.ensures.best
