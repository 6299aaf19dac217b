-- The rows before the stop, the stop's own row, and the delayed rows after it are the rows of the route with
-- the stop.
use Rattle.std.proofs.Common.{◌≡◌, ◌∙◌, ◌∷◌, ◌++◌, Option, Vec, Global, IfSome, get_or, take, drop, subst, pos}
use Rattle.plan_explain.specs.declared.rows.Row.{Row}
use Rattle.request_explanation.specs.MovedRows.{moved_from}
use Rattle.request_explanation.proofs.InsertionLemmas.{rows_reported}
use Rattle.request_explanation.proofs.insertions.rows_with.Goals as goal

pub returns : goal.returns
returns c = λ number is.
    let none : Row = record { place = 0; stop = 0; arrival = 0; start = 0; earliest = 0; latest = 0; load = pos 0 } in
    let made = rows_reported c.args.problem.now c.args.tour.now c.args.at c.requires.tour c.requires.within.0 c.requires.within.1 c.args.detour.now c.requires.detour number is
    none none c.in-Some.row c.in-Some-arrival_after.arrival c.in-Some.ensures c.in-Some-arrival_after.ensures in
    let rows = c.args.tour.now.rows.now in
    let moved = subst
    (λ (o : Option (Vec Row Global)). IfSome o
    (λ v. v.items ≡ take c.args.at rows ++
    (c.in-Some.row ∷ moved_from c.in-Some-arrival_after.arrival (get_or rows c.args.at none).arrival c.args.tour.now.stop.now.demand
    (drop c.args.at rows))))
    c.in-Some-moved.is c.in_ok-moved.ensures in
    moved ∙ made
