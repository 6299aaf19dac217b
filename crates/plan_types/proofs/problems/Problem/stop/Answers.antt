-- The stop in the table's entry is the one that the requests have: with this number, within its limits, and
-- below the next number.
use Rattle.std.proofs.Common.{sym}
use Rattle.plan_types.proofs.LookupLemmas.{stop_at_located, stop_at_none, stop_from_first, stop_at-below}
use Rattle.plan_types.proofs.problems.Problem.stop.Goals as goal

pub returns-in-Some-clause-found : goal.returns-in-Some-clause-found
returns-in-Some-clause-found c = sym (stop_at_located c.args.self.now c.args.number c.in-Some.by_number.now (sym c.in-Some.ensures.found))

pub returns-in-Some-clause-stop : goal.returns-in-Some-clause-stop
returns-in-Some-clause-stop c =
    let valid = c.in-Some.ensures.valid in
    let found = stop_at_located c.args.self.now c.args.number c.in-Some.by_number.now (sym c.in-Some.ensures.found) in
    let own = stop_from_first c.args.self.now c.args.number c.in-Some.by_number.now.stop valid found in
    (own.0, own.1, stop_at-below c.args.self.now c.args.number c.in-Some.by_number.now.stop valid found)

pub returns-in-None-clause-found : goal.returns-in-None-clause-found
returns-in-None-clause-found c = sym (stop_at_none c.args.self.now c.args.number (sym c.in-None.ensures.found))
