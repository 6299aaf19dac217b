-- The next stop is recorded and its limits are checked. If they do not hold, the route breaks them; once the
-- vehicle has returned, the route keeps them.
use Rattle.std.proofs.Common.{◌≡◌, ◌∙◌, ◌+◌, length, set, refl, sym, ap, subst, arith, rules, false}
use Rattle.std.proofs.Math.ListN.{length-set}
use Rattle.route_sched.specs.Route.{place}
use Rattle.route_sched.proofs.KnownStops.{place-first}
use Rattle.slack_tables.specs.TableFields.{limits_of, IsInLimits}
use Rattle.slack_tables.specs.SharedPrefix.{HasReached}
use Rattle.slack_tables.specs.ForwardPass.{forward_row}
use Rattle.slack_tables.specs.Ride.{ride_of, ride_at, is_within_limits}
use Rattle.slack_tables.proofs.CourseLemmas.{limits-from, limits-to}
use Rattle.slack_tables.proofs.OpenLemmas.{at-begin, at-more, within-begin, within-next, open-to-none, open-to-more}
use Rattle.slack_tables.proofs.SpliceLemmas.{keeps-false, kept-here, kept-more}
use Rattle.slack_tables.proofs.table.drive_route.Goals as goal

pub loop-k-init : goal.loop-k-init
loop-k-init c =
    let p = c.args.problem.now in
    let route = c.args.route.now in
    let stops = place p route in
    let shared = c.shared_prefix_length-prefix_len.ensures.shared_prefix in
    let at = at-begin stops c.problem.inside.depot c.at_depot.result (place-first p route ∙ sym (ap (λ q. q.depot) c.problem.view_is)) c.at_depot.ensures in
    let within = within-begin c.problem.inside.depot c.at_depot.result c.problem.invariant.valid.depot.visit c.at_depot.ensures in
    let first = open-to-more stops 0 c.args.places.now c.set_place.new.places _ (open-to-none stops c.args.places.now) (omega arith) at within c.set_place.ensures in
    let come : HasReached p route c.shared_prefix_length-prefix_len.result c.progress_after_prefix.result = c.progress_after_prefix.ensures route shared in
    record {
      long = c.copy_prefix.ensures.len ∙ (ap length c.set_place.ensures ∙ length-set c.args.places.now 0 _);
      opened = c.copy_prefix.ensures.opened p route c.requires.prefixes shared first;
      come =
          subst (λ ride. HasReached p route c.shared_prefix_length-prefix_len.result (ride_at ride c.stop_after_prefix-from.result.now)) (sym c.ride_of-ride.ensures)
          (subst (λ s. HasReached p route c.shared_prefix_length-prefix_len.result (ride_at (ride_of c.progress_after_prefix.result) s))
          (come.at.stop ∙ sym (c.stop_after_prefix-from.ensures route shared)) come);
      cursor = c.cursor_at-cursor.ensures;
    }

pub returns-then-not-is_within_limits-clause-kept : goal.returns-then-not-is_within_limits-clause-kept
returns-then-not-is_within_limits-clause-kept c =
    let p = c.args.problem.now in
    let k = c.loop-k.k in
    let at = at-more (place p c.args.route.now) k _ _ _ c.loop-k.invariant.come.at c.find_next_stop-stop.ensures.value c.driven_on-ride.ensures.value in
    let never : is_within_limits (limits_of p) c.driven_on-ride.result c.find_next_stop-stop.result.now ≡ false = search rules in (
      λ e. absurd (cc),
      λ keep. absurd (keeps-false (limits_of p) (place p c.args.route.now) (k + 1) _ at never
          (kept-here (limits_of p) (place p c.args.route.now) (k + 1) (length c.args.route.now + 1) (omega arith) (omega arith)
          (limits-to p c.args.route.now c.limits_of-limits.ensures.valid.depot.demand keep))),
    )

pub loop-k-preserved : goal.loop-k-preserved
loop-k-preserved c =
    let p = c.args.problem.now in
    let stops = place p c.args.route.now in
    let k = c.loop-k.k in
    let is = c.loop-k.invariant in
    let at = at-more stops k _ _ _ is.come.at c.find_next_stop-stop.ensures.value c.driven_on-ride.ensures.value in
    let within = within-next k _ _ is.come.within c.driven_on-ride.ensures.near in
    record {
      long = ap length c.set_place-in-loop-k.ensures ∙ (length-set c.loop-k.places (c.loop-k.k + 1) _ ∙ is.long);
      opened =
          open-to-more stops (c.loop-k.k + 1) c.loop-k.places _ _ is.opened (omega arith) at within
          (c.set_place-in-loop-k.ensures ∙ ap (λ a. set c.loop-k.places (k + 1) (forward_row a)) c.ride_at.ensures);
      come = record { at = at; within = within; kept = kept-more (limits_of p) stops k _ is.come.kept at (search rules) };
      cursor = c.next_cursor-cursor.ensures;
    }

pub returns-clause-kept : goal.returns-clause-kept
returns-clause-kept c =
    let p = c.args.problem.now in (
      λ _. limits-from p c.args.route.now
          (subst (λ n. IsInLimits p.kind p.capacity (place p c.args.route.now) n) (omega arith) c.loop-k.invariant.come.kept),
      λ _. refl,
    )
