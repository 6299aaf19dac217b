-- The text of a plan reads back as its nonempty routes and their distance.
use Rattle.std.proofs.Common.{◌≡◌, ◌∙◌, ◌<◌, ◌+◌, ◌^◌, ◌++◌, ◌∷◌, [], length, sym, ap, subst, arith}
use Rattle.route_sched.specs.Cost.{total_length, used_routes}
use Rattle.sol_text.specs.Faults.{Spells}
use Rattle.sol_text.specs.Written.{cost_text, solution_text}
use Rattle.sol_text.proofs.TextLemmas.{spells_from_reported}
use Rattle.sol_text.proofs.ReadBackLemmas.{reads_back, used_small, length-solution_text}
use Rattle.sol_text.proofs.write.write_sol.Goals as goal

pub returns-clause-spells : goal.returns-clause-spells
returns-clause-spells c =
    let distance : c.plan_cost-cost.result.distance ≡ total_length c.args.problem.now c.args.plan.now.routes =
    ap (λ k. k.distance) c.plan_cost-cost.ensures.cost in
    let slice : c.as_slice.result.now ≡ c.args.plan.now.routes = c.as_slice.ensures in
    let text : c.write_cost.new.text.items ≡ solution_text (used_routes c.args.plan.now.routes) (total_length c.args.problem.now c.args.plan.now.routes) =
    c.in_ok-write_cost.ensures
    ∙ (ap (λ t. t ++ (cost_text c.plan_cost-cost.result.distance ++ 10 ∷ [])) c.in_ok-text.ensures
    ∙ (ap (λ rs. solution_text (used_routes rs) c.plan_cost-cost.result.distance) slice
    ∙ ap (λ d. solution_text (used_routes c.args.plan.now.routes) d) distance))
    in
    let few : 1 + length (used_routes c.args.plan.now.routes) < 2 ^ 64 =
    omega (
      arith,
      c.write_cost.new.text.ok.0,
      c.write_cost.new.text.small,
      ap length text,
      length-solution_text (used_routes c.args.plan.now.routes) (total_length c.args.problem.now c.args.plan.now.routes),
    )
    in
    let fits : total_length c.args.problem.now c.args.plan.now.routes < 2 ^ 64 = omega (arith, distance, c.plan_cost-cost.type_inv) in
    subst (λ t. Spells t (record { routes = used_routes c.args.plan.now.routes; cost = total_length c.args.problem.now c.args.plan.now.routes })) (sym text)
    (spells_from_reported _ _
    (reads_back c.lines_end_at_line_feeds.ensures.ended c.lines_split_into_words.ensures c.decimals_parse_back.ensures (used_routes c.args.plan.now.routes)
    (total_length c.args.problem.now c.args.plan.now.routes) few (used_small c.args.plan.now.routes c.plan_cost-cost.ensures.numbers) fits))
