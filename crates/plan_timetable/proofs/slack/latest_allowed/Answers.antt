-- The latest start is the latest time of the place itself, or the latest start that the later places allow,
-- whichever is lower.
use Rattle.std.proofs.Common.{◌∙◌, min, sym, ap, subst}
use Rattle.slack_tables.specs.Latest.{IsLatestStartLimit}
use Rattle.plan_timetable.proofs.SlackLemmas.{limited, unlimited}
use Rattle.plan_timetable.proofs.slack.latest_allowed.Goals as goal

pub returns-in-Some : goal.returns-in-Some
returns-in-Some c =
    let p = c.args.problem.now in
    let route = c.args.route.now in
    let i = c.args.row.now.place in
    let is = subst (IsLatestStartLimit p route i) c.in-Some.is (c.latest_start.ensures p route (sym c.requires.table.course)) in
    c.min.ensures ∙ ap (λ here. min here c.in-Some.following) (c.from-here.ensures ∙ c.requires.row.latest) ∙ limited p route c.requires.table.kind c.requires.table.limits i c.in-Some.following is

pub returns-in-None : goal.returns-in-None
returns-in-None c =
    let p = c.args.problem.now in
    let route = c.args.route.now in
    let i = c.args.row.now.place in
    let goes = subst (IsLatestStartLimit p route i) c.in-None.is (c.latest_start.ensures p route (sym c.requires.table.course)) in
    c.from-here.ensures ∙ c.requires.row.latest ∙ unlimited p route c.requires.table.kind c.requires.table.limits i goes
