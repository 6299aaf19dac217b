-- A line with a fault or a cost decides the result. The route of a route line is appended to the earlier
-- routes, and a skipped line changes nothing.
use Rattle.std.proofs.Common.{◌+◌, ◌∙◌, Ok, Err, false, sym, ap, inl, inr}
use Rattle.std.proofs.lemmas.Result.{err_from_is_err_and}
use Rattle.sol_text.specs.Reading.{reading, with_routes}
use Rattle.sol_text.specs.declared.faults.SolFaultKind.TheVariants.{NoCost}
use Rattle.sol_text.proofs.ReadLemmas.{said-skipped, said-route, said-cost, said-err, said-end, fewer}
use Rattle.sol_text.proofs.read.read_lines.Goals as goal

pub returns-in_err-parse_line : goal.returns-in_err-parse_line
returns-in_err-parse_line c =
    let l = c.loop-line in
    let p = err_from_is_err_and c.from_residual.result c.from_residual.ensures.1 in
    rw (p.1, p.2)
    (elim c.in_err-parse_line.ensures [
      | inl memory ↦ inl memory
      | inr fault ↦ inr (said-err _ l.routes.items l.in_head l.number _ _ _ c.in-Some.ensures.steps l.invariant.said _ fault)
    ])

pub loop-line-preserved-in-Skipped : goal.loop-line-preserved-in-Skipped
loop-line-preserved-in-Skipped c =
    let l = c.loop-line in
    record {
      few = fewer _ l.routes.items l.in_head l.number _ _ _ c.in-Some.ensures.steps l.invariant.said _ l.invariant.few;
      said = said-skipped _ l.routes.items l.in_head l.number _ _ _ c.in-Some.ensures.steps l.invariant.said (c.in_ok-parse_line.ensures ∙ ap Ok c.in-Skipped.is);
    }

pub loop-line-preserved : goal.loop-line-preserved
loop-line-preserved c =
    let l = c.loop-line in
    record {
      few = fewer _ l.routes.items l.in_head l.number _ _ _ c.in-Some.ensures.steps l.invariant.said _ l.invariant.few;
      said =
          said-route _ l.routes.items l.in_head l.number _ _ _ c.in-Some.ensures.steps l.invariant.said c.in-Route.route
          (c.in_ok-parse_line.ensures ∙ ap Ok c.in-Route.is)
          ∙ ap (λ rs. with_routes rs (reading false (l.number + 1) c.next.new.self)) (sym c.in_ok-push-in-Route.ensures.items);
    }

pub returns-in-Cost : goal.returns-in-Cost
returns-in-Cost c =
    let l = c.loop-line in
    said-cost _ l.routes.items l.in_head l.number _ _ _ c.in-Some.ensures.steps l.invariant.said c.in-Cost.cost
    (c.in_ok-parse_line.ensures ∙ ap Ok c.in-Cost.is)
    ∙ ap (λ rs. Ok (record { routes = rs; cost = c.in-Cost.cost })) (sym c.from.ensures)

pub returns : goal.returns
returns c =
    let l = c.loop-line in
    said-end _ l.routes.items l.in_head l.number _ c.in-None.ensures.steps.0 l.invariant.said
    ∙ ap (λ rs. Ok (record { routes = rs; cost = Err (record { line = l.number + 1; kind = NoCost }) })) (sym c.from-2.ensures)
