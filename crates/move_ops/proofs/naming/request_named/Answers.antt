-- A number that is not a stop, or not the first stop of its request, is not a name. Otherwise its stop is a
-- single, or makes a pair with its partner.
use Rattle.std.proofs.Common.{◌≡◌, Some, sym, ap, subst, ◌∙◌}
use Rattle.std.specs.Option.{option_copied}
use Rattle.plan_types.specs.Instance.{name_at}
use Rattle.move_ops.proofs.NamedRequestLemmas.{none_named, other_named, no_stop, no_second, single_named, pair_named}
use Rattle.move_ops.proofs.naming.request_named.Goals as goal

pub returns-in_default : goal.returns-in_default
returns-in_default c =
    none_named c.requests_are_found_by_stop.ensures c.requests_are_stored_by_name.ensures c.args.problem.now c.name_of.ensures.valid c.args.name
    (sym c.name_of.ensures.found ∙ c.in_default.is)

pub returns-then-own-name : goal.returns-then-own-name
returns-then-own-name c =
    other_named c.requests_are_found_by_stop.ensures c.requests_are_stored_by_name.ensures c.args.problem.now c.name_of.ensures.valid c.args.name
    c.in-Some.own (sym c.name_of.ensures.found ∙ c.in-Some.is) c.if-own-name.true

pub returns-in_default-stop : goal.returns-in_default-stop
returns-in_default-stop c =
    no_stop c.requests_are_found_by_stop.ensures c.requests_are_stored_by_name.ensures c.args.problem.now c.name_of.ensures.valid c.args.name
    (sym c.stop.ensures.found ∙ ap (λ o. option_copied o) c.in_default-stop.is)

pub returns-in_default-partner_of : goal.returns-in_default-partner_of
returns-in_default-partner_of c =
    let p = c.args.problem.now in
    let n = c.args.name in
    let own : name_at p n ≡ Some n = subst (λ m. name_at p n ≡ Some m) c.if-own-name.false (sym c.name_of.ensures.found ∙ c.in-Some.is) in
    single_named c.requests_are_found_by_stop.ensures c.requests_are_stored_by_name.ensures p c.name_of.ensures.valid n c.in-Some-stop.first.now own
    (sym c.stop.ensures.found ∙ ap (λ o. option_copied o) c.in-Some-stop.is) (sym c.partner_of.ensures.found ∙ c.in_default-partner_of.is)

pub returns-in_default-stop-2 : goal.returns-in_default-stop-2
returns-in_default-stop-2 c =
    no_second c.requests_are_found_by_stop.ensures c.requests_are_stored_by_name.ensures c.args.problem.now c.name_of.ensures.valid c.args.name
    c.in-Some-partner_of.partner (sym c.partner_of.ensures.found ∙ c.in-Some-partner_of.is)
    (sym c.stop-2.ensures.found ∙ ap (λ o. option_copied o) c.in_default-stop-2.is)

pub returns : goal.returns
returns c =
    let p = c.args.problem.now in
    let n = c.args.name in
    let own : name_at p n ≡ Some n = subst (λ m. name_at p n ≡ Some m) c.if-own-name.false (sym c.name_of.ensures.found ∙ c.in-Some.is) in
    pair_named c.requests_are_found_by_stop.ensures c.requests_are_stored_by_name.ensures p c.name_of.ensures.valid n
    c.in-Some-stop.first.now c.in-Some-stop-2.second.now c.in-Some-partner_of.partner own
    (sym c.stop.ensures.found ∙ ap (λ o. option_copied o) c.in-Some-stop.is) (sym c.partner_of.ensures.found ∙ c.in-Some-partner_of.is)
    (sym c.stop-2.ensures.found ∙ ap (λ o. option_copied o) c.in-Some-stop-2.is)
