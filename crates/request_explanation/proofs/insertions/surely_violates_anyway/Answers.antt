-- If the vehicle is late at the stop, or by more than 1 after it, the route has a violation of at least 1
-- wherever the other stop is inserted.
use Rattle.std.proofs.Common.{◌≡◌, pos, subst}
use Rattle.plan_types.specs.Instance.{Instance}
use Rattle.plan_types.specs.declared.requests.Kind.TheVariants.{LiLim}
use Rattle.plan_explain.specs.declared.rows.Row.{Row}
use Rattle.request_explanation.proofs.AnywayLemmas.{missed_anyway}
use Rattle.request_explanation.proofs.insertions.surely_violates_anyway.Goals as goal

pub returns-in-LiLim : goal.returns-in-LiLim
returns-in-LiLim c = λ late number other later is following most.
    let none : Row = record { place = 0; stop = 0; arrival = 0; start = 0; earliest = 0; latest = 0; load = pos 0 } in
    missed_anyway c.args.problem.now c.args.tour.now c.args.at c.requires.tour c.requires.within.0 c.requires.within.1 c.args.detour.now c.requires.detour number is
    c.detours_save_at_most_one.ensures other later none (subst (λ (q : Instance). q.kind ≡ LiLim) c.problem.view_is c.in-LiLim.is) following most
    (c.is_late_anyway.ensures late none)
