-- `NO_LIMIT` allows each insertion, so the best within it is the best of all.
use Rattle.std.proofs.Common.{rules, refl}
use Rattle.move_ops.specs.InsertionSearch.{IsQuery}
use Rattle.move_ops.proofs.ChoiceLemmas.{unlimited}
use Rattle.move_ops.proofs.tables.Tables.best.Goals as goal

pub returns : goal.returns
returns c =
    let query : IsQuery c.args.problem.now c.as_slice-pins.result.now c.as_slice-tables.result.now c.current_request-request.result.now = search rules in
    search (unlimited c.insertion_laws.ensures query _ refl refl c.best_within.result c.best_within.ensures, rules)
