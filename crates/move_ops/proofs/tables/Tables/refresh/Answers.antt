-- If the plans differ only at these vehicles, the old tables with theirs rebuilt are the tables of the new plan.
use Rattle.std.proofs.Common.{rules, ◌≡◌, ◌≤◌, [], map, length, sym, subst, arith, ap, ◌∙◌}
use Rattle.std.proofs.Math.ListN.{length-map}
use Rattle.std.proofs.lemmas.List.Elements.{recursion_from_All}
use Rattle.plan_types.specs.Instance.{IsInstance}
use Rattle.slack_tables.specs.Course.{course_route}
use Rattle.move_ops.specs.Tables.{plan_of}
use Rattle.move_ops.specs.FreshTables.{fresh_of, replaced, AreWithin}
use Rattle.move_ops.proofs.RefreshLemmas.{fleet_of, vehicles_within, refreshed, plan_kept}
use Rattle.move_ops.proofs.tables.Tables.refresh.Goals as goal

pub replace-requires : goal.replace-requires
replace-requires c =
    let p = c.args.problem.now in
    let fleet = fleet_of c.passing_is_local.ensures p [] c.args.plan.now.routes c.requires.pass in
    let f = length-map c.args.self.now course_route in
    subst (AreWithin (length c.args.self.now)) (sym (search rules))
    (vehicles_within p c.args.plan.now.routes (length c.args.self.now) c.args.vehicles.now (omega arith)
    (recursion_from_All (λ v. (1 ≤ v) × (v ≤ p.fleet)) c.args.vehicles.now c.requires.vehicles))

pub returns-clause-tables : goal.returns-clause-tables
returns-clause-tables c =
    let p = c.args.problem.now in
    let routes = c.args.plan.now.routes in
    let fleet = fleet_of c.passing_is_local.ensures p [] routes c.requires.pass in
    let made : c.in_ok-fresh.fresh.items ≡ map (fresh_of p routes) c.args.vehicles.now = search rules in
    let new : c.replace.new.self ≡ replaced c.args.self.now c.in_ok-fresh.fresh.items = search rules in
    new ∙ (ap (replaced c.args.self.now) made
    ∙ refreshed p routes c.args.vehicles.now c.args.self.now c.requires.tables fleet c.requires.vehicles c.requires.others)

pub returns-clause-plan : goal.returns-clause-plan
returns-clause-plan c =
    let p = c.args.problem.now in
    let routes = c.args.plan.now.routes in
    let valid : IsInstance p = c.problem_keeps_limits.ensures in
    let fleet = fleet_of c.passing_is_local.ensures p [] routes c.requires.pass in
    let made : c.in_ok-fresh.fresh.items ≡ map (fresh_of p routes) c.args.vehicles.now = search rules in
    let new : c.replace.new.self ≡ replaced c.args.self.now c.in_ok-fresh.fresh.items = search rules in
    ap plan_of (new ∙ (ap (replaced c.args.self.now) made
    ∙ refreshed p routes c.args.vehicles.now c.args.self.now c.requires.tables fleet c.requires.vehicles c.requires.others))
    ∙ plan_kept p valid c.passing_is_local.ensures c.plans_are_disjoint_routes.ensures [] routes c.requires.pass
