-- The violations in the rows before the inserted stop, followed by those at this stop, are those in the rows of
-- the new route up to this stop.
use Rattle.std.proofs.Common.{◌∙◌, ap, pos}
use Rattle.plan_explain.specs.declared.rows.Row.{Row}
use Rattle.request_explanation.specs.Insertions.{violations_then}
use Rattle.request_explanation.proofs.InsertionLemmas.{found_reported}
use Rattle.request_explanation.proofs.insertions.violations_with.Goals as goal

pub returns : goal.returns
returns c = λ number is.
    let none : Row = record { place = 0; stop = 0; arrival = 0; start = 0; earliest = 0; latest = 0; load = pos 0 } in
    let reported = found_reported c.args.problem.now c.args.tour.now c.args.at c.requires.tour c.requires.within.0 c.requires.within.1 c.args.detour.now c.requires.detour number is
    c.args.front none c.in_ok-row.row c.requires.front c.in_ok-row.ensures in
    c.then.ensures ∙ ap (violations_then c.args.front) c.violations_in.ensures ∙ reported
