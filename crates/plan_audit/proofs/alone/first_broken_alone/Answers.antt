-- Rules 3 to 8 are checked in order for the only route, in which no pair can be split. So the first broken one
-- is the first violation, and if none is broken, the route is feasible alone.
use Rattle.std.proofs.Common.{◌≡◌, sym, ◌∙◌, rules}
use Rattle.plan_types.specs.declared.requests.Kind.TheVariants.{LiLim, Vrp}
use Rattle.plan_audit.proofs.AloneLemmas.{missing_fault, delivered_fault, load_fault, late_fault, return_fault, timed_alone, untimed_alone}
use Rattle.plan_audit.proofs.alone.first_broken_alone.Goals as goal

pub returns-then-is_some : goal.returns-then-is_some
returns-then-is_some c =
    missing_fault c.args.problem.now c.args.route.now c.requires c.missing_alone.result c.missing_alone.ensures (sym c.is_some.ensures ∙ c.if-is_some.true)

pub returns-then-is_some-2 : goal.returns-then-is_some-2
returns-then-is_some-2 c =
    delivered_fault c.args.problem.now c.args.route.now c.requires c.missing_alone.result c.missing_alone.ensures
    (sym c.is_some.ensures ∙ c.if-is_some.false) c.early_delivery_alone.result c.early_delivery_alone.ensures (sym c.is_some-2.ensures ∙ c.if-is_some-2.true)

pub returns-then-is_some-3 : goal.returns-then-is_some-3
returns-then-is_some-3 c =
    load_fault c.args.problem.now c.args.route.now c.requires c.missing_alone.result c.missing_alone.ensures
    (sym c.is_some.ensures ∙ c.if-is_some.false) c.early_delivery_alone.result c.early_delivery_alone.ensures
    (sym c.is_some-2.ensures ∙ c.if-is_some-2.false) c.overload.result c.overload.ensures.reported (sym c.is_some-3.ensures ∙ c.if-is_some-3.true)

pub returns-in-Vrp : goal.returns-in-Vrp
returns-in-Vrp c =
    let kind : c.args.problem.now.kind ≡ Vrp = search rules in
    untimed_alone c.args.problem.now c.args.route.now c.requires c.missing_alone.result c.missing_alone.ensures
    (sym c.is_some.ensures ∙ c.if-is_some.false) c.early_delivery_alone.result c.early_delivery_alone.ensures
    (sym c.is_some-2.ensures ∙ c.if-is_some-2.false) c.overload.result c.overload.ensures.reported (sym c.is_some-3.ensures ∙ c.if-is_some-3.false) kind

pub returns-then-is_some-4 : goal.returns-then-is_some-4
returns-then-is_some-4 c =
    let kind : c.args.problem.now.kind ≡ LiLim = search rules in
    late_fault c.args.problem.now c.args.route.now c.requires c.missing_alone.result c.missing_alone.ensures
    (sym c.is_some.ensures ∙ c.if-is_some.false) c.early_delivery_alone.result c.early_delivery_alone.ensures
    (sym c.is_some-2.ensures ∙ c.if-is_some-2.false) c.overload.result c.overload.ensures.reported
    (sym c.is_some-3.ensures ∙ c.if-is_some-3.false) kind c.late_stop.result c.late_stop.ensures.reported (sym c.is_some-4.ensures ∙ c.if-is_some-4.true)

pub returns-then-is_some-5 : goal.returns-then-is_some-5
returns-then-is_some-5 c =
    let kind : c.args.problem.now.kind ≡ LiLim = search rules in
    return_fault c.args.problem.now c.args.route.now c.requires c.missing_alone.result c.missing_alone.ensures
    (sym c.is_some.ensures ∙ c.if-is_some.false) c.early_delivery_alone.result c.early_delivery_alone.ensures
    (sym c.is_some-2.ensures ∙ c.if-is_some-2.false) c.overload.result c.overload.ensures.reported
    (sym c.is_some-3.ensures ∙ c.if-is_some-3.false) kind c.late_stop.result c.late_stop.ensures.reported
    (sym c.is_some-4.ensures ∙ c.if-is_some-4.false) c.late_return.result c.late_return.ensures.reported (sym c.is_some-5.ensures ∙ c.if-is_some-5.true)

pub returns : goal.returns
returns c =
    let kind : c.args.problem.now.kind ≡ LiLim = search rules in
    timed_alone c.args.problem.now c.args.route.now c.requires c.missing_alone.result c.missing_alone.ensures
    (sym c.is_some.ensures ∙ c.if-is_some.false) c.early_delivery_alone.result c.early_delivery_alone.ensures
    (sym c.is_some-2.ensures ∙ c.if-is_some-2.false) c.overload.result c.overload.ensures.reported
    (sym c.is_some-3.ensures ∙ c.if-is_some-3.false) kind c.late_stop.result c.late_stop.ensures.reported
    (sym c.is_some-4.ensures ∙ c.if-is_some-4.false) c.late_return.result c.late_return.ensures.reported (sym c.is_some-5.ensures ∙ c.if-is_some-5.false)
