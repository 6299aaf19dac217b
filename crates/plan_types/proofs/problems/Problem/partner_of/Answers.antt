-- The partner in the table's entry is the one that the request names, and is below the next number.
use Rattle.std.proofs.Common.{sym, ap, ◌∙◌}
use Rattle.std.specs.Option.{option_and_then}
use Rattle.plan_types.proofs.LookupLemmas.{partner_from_located, partner-below, some_below}
use Rattle.plan_types.proofs.problems.Problem.partner_of.Goals as goal

pub returns-in-Some-clause-found : goal.returns-in-Some-clause-found
returns-in-Some-clause-found c = sym (partner_from_located c.args.self.now c.args.number ∙ ap (option_and_then (λ l. l.partner)) (sym c.in-Some.ensures.found))

pub returns-in-Some-clause-below : goal.returns-in-Some-clause-below
returns-in-Some-clause-below c =
    let found = partner_from_located c.args.self.now c.args.number ∙ ap (option_and_then (λ l. l.partner)) (sym c.in-Some.ensures.found) in
    some_below c.args.self.now.next_number c.in-Some.by_number.now.partner
    (λ m h. partner-below c.args.self.now c.args.number m c.in-Some.ensures.valid (found ∙ h))

pub returns-in-None-clause-found : goal.returns-in-None-clause-found
returns-in-None-clause-found c = sym (partner_from_located c.args.self.now c.args.number ∙ ap (option_and_then (λ l. l.partner)) (sym c.in-None.ensures.found))
