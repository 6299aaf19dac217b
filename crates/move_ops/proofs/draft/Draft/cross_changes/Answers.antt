-- Both routes with their ends exchanged have current, distinct stops. If both are feasible alone, they make the
-- crossed plan; otherwise there is no such plan.
use Rattle.std.proofs.Common.{rules, ◌≡◌, ◌∷◌, [], List, true, false, Some, refl, sym, ap, subst, ◌∙◌}
use Rattle.route_sched.specs.Route.{AreDistinctStops}
use Rattle.plan_audit.specs.Passes.{feasible_alone}
use Rattle.move_ops.specs.Changes.{with_routes}
use Rattle.move_ops.specs.Drafts.{draft_of}
use Rattle.move_ops.specs.declared.changes.Change.{Change}
use Rattle.move_ops.proofs.InstallLemmas.{once_first, once_second, answer, crossed_change}
use Rattle.move_ops.proofs.draft.Draft.cross_changes.Goals as goal

pub is_feasible-requires : goal.is_feasible-requires
is_feasible-requires c =
    let p = c.args.problem.now in
    let pins = c.args.pins.now.routes in
    let d = c.args.self.now in
    let first = c.args.cuts.first in
    let second = c.args.cuts.second in
    let one_joined = c.in_ok-first_route.first_route in
    let other_joined = c.in_ok-second_route.second_route in
    record {
      course = search rules;
      once = subst (AreDistinctStops p) (sym c.as_slice.ensures)
          (once_first c.passing_is_local.ensures c.feasible_alone_decides_feasibility.ensures p pins d c.requires first.vehicle first.stops second.vehicle second.stops
          (sym (search rules) ∙ c.are_crossable.ensures) one_joined other_joined (search rules) (search rules));
    }

pub returns-then-not-is_feasible-clause-routes : goal.returns-then-not-is_feasible-clause-routes
returns-then-not-is_feasible-clause-routes c =
    let p = c.args.problem.now in
    let pins = c.args.pins.now.routes in
    let d = c.args.self.now in
    let first = c.args.cuts.first in
    let second = c.args.cuts.second in
    let one_joined = c.in_ok-first_route.first_route in
    let other_joined = c.in_ok-second_route.second_route in
    answer c.passing_is_local.ensures c.feasible_alone_decides_feasibility.ensures p pins d c.requires first.vehicle first.stops second.vehicle second.stops
    (sym (search rules) ∙ c.are_crossable.ensures) one_joined other_joined (search rules) (search rules) false (feasible_alone p other_joined)
    (sym (search rules) ∙ (c.is_feasible.ensures ∙ ap (feasible_alone p) c.as_slice.ensures)) refl

pub is_feasible-requires-2 : goal.is_feasible-requires-2
is_feasible-requires-2 c =
    let p = c.args.problem.now in
    let pins = c.args.pins.now.routes in
    let d = c.args.self.now in
    let first = c.args.cuts.first in
    let second = c.args.cuts.second in
    let one_joined = c.in_ok-first_route.first_route in
    let other_joined = c.in_ok-second_route.second_route in
    record {
      course = search rules;
      once = subst (AreDistinctStops p) (sym c.as_slice-2.ensures)
          (once_second c.passing_is_local.ensures c.feasible_alone_decides_feasibility.ensures p pins d c.requires first.vehicle first.stops second.vehicle second.stops
          (sym (search rules) ∙ c.are_crossable.ensures) one_joined other_joined (search rules) (search rules));
    }

pub returns-then-not-is_feasible-2-clause-routes : goal.returns-then-not-is_feasible-2-clause-routes
returns-then-not-is_feasible-2-clause-routes c =
    let p = c.args.problem.now in
    let pins = c.args.pins.now.routes in
    let d = c.args.self.now in
    let first = c.args.cuts.first in
    let second = c.args.cuts.second in
    let one_joined = c.in_ok-first_route.first_route in
    let other_joined = c.in_ok-second_route.second_route in
    let one : true ≡ feasible_alone p one_joined = sym (search rules) ∙ (c.is_feasible.ensures ∙ ap (feasible_alone p) c.as_slice.ensures) in
    answer c.passing_is_local.ensures c.feasible_alone_decides_feasibility.ensures p pins d c.requires first.vehicle first.stops second.vehicle second.stops
    (sym (search rules) ∙ c.are_crossable.ensures) one_joined other_joined (search rules) (search rules) true false one
    (sym (search rules) ∙ (c.is_feasible-2.ensures ∙ ap (feasible_alone p) c.as_slice-2.ensures))

pub returns-clause-routes : goal.returns-clause-routes
returns-clause-routes c =
    let p = c.args.problem.now in
    let pins = c.args.pins.now.routes in
    let d = c.args.self.now in
    let first = c.args.cuts.first in
    let second = c.args.cuts.second in
    let one_joined = c.in_ok-first_route.first_route in
    let other_joined = c.in_ok-second_route.second_route in
    let one : true ≡ feasible_alone p one_joined = sym (search rules) ∙ (c.is_feasible.ensures ∙ ap (feasible_alone p) c.as_slice.ensures) in
    let two : true ≡ feasible_alone p other_joined = sym (search rules) ∙ (c.is_feasible-2.ensures ∙ ap (feasible_alone p) c.as_slice-2.ensures) in
    let changes : c.push-2.new.self.items
    ≡ record { vehicle = first.vehicle; route = one_joined } ∷ record { vehicle = second.vehicle; route = other_joined } ∷ [] =
    search rules in
    ap (λ (l : List Change). Some (with_routes (draft_of d) l)) changes
    ∙ answer c.passing_is_local.ensures c.feasible_alone_decides_feasibility.ensures p pins d c.requires first.vehicle first.stops second.vehicle second.stops
    (sym (search rules) ∙ c.are_crossable.ensures) one_joined other_joined (search rules) (search rules) true true one two

pub returns-clause-change : goal.returns-clause-change
returns-clause-change c =
    let p = c.args.problem.now in
    let pins = c.args.pins.now.routes in
    let d = c.args.self.now in
    let first = c.args.cuts.first in
    let second = c.args.cuts.second in
    let one_joined = c.in_ok-first_route.first_route in
    let other_joined = c.in_ok-second_route.second_route in
    let one : true ≡ feasible_alone p one_joined = sym (search rules) ∙ (c.is_feasible.ensures ∙ ap (feasible_alone p) c.as_slice.ensures) in
    let two : true ≡ feasible_alone p other_joined = sym (search rules) ∙ (c.is_feasible-2.ensures ∙ ap (feasible_alone p) c.as_slice-2.ensures) in
    crossed_change c.passing_is_local.ensures c.feasible_alone_decides_feasibility.ensures p pins d c.requires first.vehicle first.stops second.vehicle
    second.stops
    (sym (search rules) ∙ c.are_crossable.ensures) one_joined other_joined (search rules) (search rules) c.push-2.new.self.items
    (search rules) one two
