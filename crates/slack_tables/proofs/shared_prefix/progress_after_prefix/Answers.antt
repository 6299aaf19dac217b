-- If the prefix is empty, the vehicle is at the depot. After a longer prefix, its state is the one in the
-- table.
use Rattle.std.proofs.Common.{ap, arith}
use Rattle.slack_tables.proofs.PrefixLemmas.{come-begin}
use Rattle.slack_tables.proofs.shared_prefix.progress_after_prefix.Goals as goal

pub returns-then-prefix_len-eq0 : goal.returns-then-prefix_len-eq0
returns-then-prefix_len-eq0 c = λ route is.
    come-begin c.args.problem.now route c.args.prefix_len c.problem.inside.depot c.at_depot.result c.if-prefix_len-eq0.true
    (ap (λ q. q.depot) c.problem.view_is) c.problem.invariant.valid.depot.visit c.at_depot.ensures

pub returns : goal.returns
returns c = λ route is. c.requires.prefixes route c.args.prefix_len _ (c.requires.known (let some = c.if-prefix_len-eq0.false in omega arith)) is
