-- A place that must start more than 1 before the pickup's window opens takes no pair, so it is skipped too.
use Rattle.std.proofs.Common.{◌∙◌, sym, arith}
use Rattle.slack_tables.proofs.TightLemmas.{closed-more, closed-due}
use Rattle.slack_tables.proofs.closed.first_by_deadline.Goals as goal

pub loop-i-preserved : goal.loop-i-preserved
loop-i-preserved c = let following = c.loop-i.invariant.following in record {
  following = omega arith;
  closed =
      closed-more c.args.limits c.args.places.now c.args.pickup.now c.args.kept c.loop-i.i c.loop-i.invariant.closed
      (closed-due c.args.limits c.args.places.now c.args.pickup.now c.loop-i.i c.requires.tight c.detours_save_at_most_one.ensures
      c.small_row.result.now c.small_row.ensures.place
      (sym c.has_deadline_before.ensures ∙ c.if-not-has_deadline_before.false));
}
