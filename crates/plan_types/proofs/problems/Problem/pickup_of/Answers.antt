-- If the name of a stop's request is not the number of the stop, the stop is a delivery, and the name is the
-- number of its pickup.
use Rattle.std.proofs.Common.{◌≡◌, sym, ap, ◌∙◌, cond, Some, None, eqb}
use Rattle.std.proofs.lemmas.Bool.{ne_eqb, eq-eqb}
use Rattle.std.specs.Option.{option_and_then, option_copied}
use Rattle.plan_types.specs.Instance.{pickup_at}
use Rattle.plan_types.proofs.LookupLemmas.{pickup_from_located, pickup-below}
use Rattle.plan_types.proofs.problems.Problem.pickup_of.Goals as goal

-- if the name of the stop's request is not the number of the stop, it is the number of its pickup
found : (c : goal.Then-by_number-number) → pickup_at c.args.self.now c.args.number ≡ Some c.in-Some.by_number.now.name
found c =
    pickup_from_located c.args.self.now c.args.number
    ∙ ap (option_and_then (λ l. cond (eqb l.name c.args.number) None (Some l.name))) (sym c.in-Some.ensures.found)
    ∙ ap (λ b. cond b None (Some c.in-Some.by_number.now.name)) (ne_eqb c.in-Some.by_number.now.name c.args.number c.if-by_number-number.true)

pub returns-in-Some-clause-found : goal.returns-in-Some-clause-found
returns-in-Some-clause-found c = sym (found c)

pub returns-in-Some-clause-below : goal.returns-in-Some-clause-below
returns-in-Some-clause-below c = pickup-below c.args.self.now c.args.number c.in-Some.by_number.now.name c.in-Some.ensures.valid (found c)

pub returns-in_default-clause-found : goal.returns-in_default-clause-found
returns-in_default-clause-found c =
    sym (pickup_from_located c.args.self.now c.args.number
    ∙ ap (option_and_then (λ l. cond (eqb l.name c.args.number) None (Some l.name))) (sym c.in-Some.ensures.found)
    ∙ ap (λ b. cond b None (Some c.in-Some.by_number.now.name)) (eq-eqb c.in-Some.by_number.now.name c.args.number c.if-by_number-number.false))

pub returns-in_default-2-clause-found : goal.returns-in_default-2-clause-found
returns-in_default-2-clause-found c =
    sym (pickup_from_located c.args.self.now c.args.number
    ∙ ap (option_and_then (λ l. cond (eqb l.name c.args.number) None (Some l.name))) (sym c.by_number.ensures.found ∙ ap option_copied c.in_default.is))
