-- If the prefix is empty, the stop is the depot. Otherwise it is the stop at the table's place.
use Rattle.std.proofs.Common.{◌≡◌, ◌∙◌, ap, arith, subst, sym}
use Rattle.route_sched.specs.Route.{place}
use Rattle.route_sched.proofs.KnownStops.{place-first}
use Rattle.slack_tables.proofs.shared_prefix.stop_after_prefix.Goals as goal

pub returns-then-prefix_len-eq0 : goal.returns-then-prefix_len-eq0
returns-then-prefix_len-eq0 c = λ route is.
    subst (λ n. c.problem.inside.depot ≡ place c.args.problem.now route n) (sym c.if-prefix_len-eq0.true)
    (ap (λ q. q.depot) c.problem.view_is ∙ sym (place-first c.args.problem.now route))

pub returns : goal.returns
returns c = λ route is. (c.requires.prefixes route c.args.prefix_len _ (c.requires.known (let some = c.if-prefix_len-eq0.false in omega arith)) is).at.stop
