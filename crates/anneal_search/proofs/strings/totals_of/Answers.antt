-- One more route adds its stops and, if it has any, one used route. No vehicle after the used part has stops, so
-- at the end all are counted.
use Rattle.std.proofs.Common.{rules, ◌≡◌, ◌+◌, ◌<◌, not, length, ap, subst, arith, cond, ◌∙◌}
use Rattle.std.specs.List.{concat}
use Rattle.route_sched.specs.Cost.{used_count}
use Rattle.move_ops.specs.Insertion.{route_of}
use Rattle.move_ops.specs.Drafts.{draft_of, AreIdleAfter}
use Rattle.anneal_search.proofs.StringLemmas.{stops_more, stops_end, used, used_is, used_more, used_most, used_end}
use Rattle.anneal_search.proofs.strings.totals_of.Goals as goal

pub loop-index-preserved : goal.loop-index-preserved
loop-index-preserved c =
    let routes = draft_of c.args.draft.now in
    let below = c.loop-index-test.true in
    let in_range = c.used_len-index-end.ensures.within in
    let within : c.loop-index.index < length routes = omega arith in
    let long : length c.route-route.result.now ≡ length (route_of routes (c.loop-index.index + 1)) = ap length c.route-route.ensures in
    let more = stops_more routes c.loop-index.index c.loop-index.stops (length (concat routes)) within c.loop-index.invariant.stops in
    let one : c.from-used.result ≡ used c.route-route.result.now = c.from-used.ensures ∙ (used_is c.is_empty.result ∙ ap (λ b. cond (not b) 1 0) c.is_empty.ensures) in
    let more_used : c.loop-index.used + c.from-used.result ≡ c.loop-index.used + used (route_of routes (c.loop-index.index + 1)) =
    ap (λ n. c.loop-index.used + n) (one ∙ ap used c.route-route.ensures) in
    record {
      stops = omega arith;
      stops_bound = omega (arith, c.loop-index.invariant.stops_bound, c.route-route.type_inv);
      used = used_more routes c.loop-index.index c.loop-index.used (c.loop-index.used + c.from-used.result) (used_count routes) within more_used c.loop-index.invariant.used;
      used_bound = omega (arith, c.loop-index.invariant.used_bound, one, used_most c.route-route.result.now);
    }

pub returns-clause-stops : goal.returns-clause-stops
returns-clause-stops c =
    let routes = draft_of c.args.draft.now in
    let end : c.used_len-index-end.result ≡ c.loop-index.index = search rules in
    stops_end routes c.loop-index.index c.loop-index.stops (length (concat routes)) (subst (λ n. AreIdleAfter n routes) end c.used_len-index-end.ensures.idle) c.loop-index.invariant.stops

pub returns-clause-used : goal.returns-clause-used
returns-clause-used c =
    let routes = draft_of c.args.draft.now in
    let end : c.used_len-index-end.result ≡ c.loop-index.index = search rules in
    used_end routes c.loop-index.index c.loop-index.used (used_count routes) (subst (λ n. AreIdleAfter n routes) end c.used_len-index-end.ensures.idle) c.loop-index.invariant.used
