-- The name in the table's entry is that of the request with this stop, and the request is stored under it.
use Rattle.std.proofs.Common.{sym, ap, ◌∙◌}
use Rattle.std.specs.Option.{option_map}
use Rattle.plan_types.proofs.LookupLemmas.{name_from_located, lookup-name_at}
use Rattle.plan_types.proofs.problems.Problem.name_of.Goals as goal

pub returns-in-Some-clause-found : goal.returns-in-Some-clause-found
returns-in-Some-clause-found c = sym (name_from_located c.args.self.now c.args.number ∙ ap (option_map (λ l. l.name)) (sym c.in-Some.ensures.found))

pub returns-in-Some-clause-request : goal.returns-in-Some-clause-request
returns-in-Some-clause-request c =
    lookup-name_at c.args.self.now c.args.number c.in-Some.by_number.now.name c.in-Some.ensures.valid
    (name_from_located c.args.self.now c.args.number ∙ ap (option_map (λ l. l.name)) (sym c.in-Some.ensures.found))

pub returns-in-None-clause-found : goal.returns-in-None-clause-found
returns-in-None-clause-found c = sym (name_from_located c.args.self.now c.args.number ∙ ap (option_map (λ l. l.name)) (sym c.in-None.ensures.found))
