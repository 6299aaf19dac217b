-- A stop is in the joined routes exactly if one of the routes has it.
use Rattle.std.proofs.Common.{◌∙◌, sym, eqb, rules}
use Rattle.std.specs.List.{list_any}
use Rattle.std.proofs.lemmas.Iterator.{YieldsList-from_slice}
use Rattle.std.proofs.lemmas.Iterator.Search.{any_from_yields_List}
use Rattle.route_sched.proofs.Concats.{has_stop_is}
use Rattle.route_sched.proofs.cost.has_stop.Goals as goal

pub returns : goal.returns
returns c =
    any_from_yields_List (λ route. list_any (λ y. eqb y c.args.number) route) _ _ c.any.result c.any.ensures.ran
    (YieldsList-from_slice c.args.routes.now c.iter.ensures.rest) (λ x b q k. search rules)
    ∙ sym (has_stop_is c.args.routes.now c.args.number)
