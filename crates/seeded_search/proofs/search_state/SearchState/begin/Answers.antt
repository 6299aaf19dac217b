-- A search begins with a draft that is its base, with that draft's lists, and with an incumbent in which no
-- vehicle after the last has stops.
use Rattle.std.proofs.Common.{rules, ◌≡◌, length, ap, arith}
use Rattle.move_ops.proofs.DraftLemmas.{idle_after_all}
use Rattle.seeded_search.proofs.search_state.SearchState.begin.Goals as goal

pub returns-clause-search_state : goal.returns-clause-search_state
returns-clause-search_state c =
    let routes = c.in_ok-copy.field-0.routes in
    let same : routes ≡ c.args.plan.now.routes = search rules in
    let listed : c.as_slice.result.now ≡ c.args.plan.now.routes = search rules in
    let long = ap length same in
    let all = ap length listed in
    record {
      keeps = record {
        draft = search rules;
        incumbent = search rules;
        best = search rules;
        idle = idle_after_all routes (length c.as_slice.result.now) (omega arith);
        lists = search rules;
        at = search rules;
        spatial_index = search rules;
      };
      settled = search rules;
    }
