-- If the next sector is the record with the sequence and its index, the commands grow by one. After the last
-- sector all commands are read.
use Rattle.std.proofs.Common.{sym, ◌∙◌, subst, arith}
use Rattle.checkpoint.specs.Reads.{HasLeadingRecords}
use Rattle.checkpoint.proofs.LeadingRecords.{more_led, led_full}
use Rattle.checkpoint.proofs.prefix.leading_commands.Goals as goal

pub loop-index-preserved : goal.loop-index-preserved
loop-index-preserved c =
    let items = c.in_ok-push-in-Some.ensures.items in
    record {
      count = omega (arith, c.in_ok-push-in-Some.ensures.len, c.loop-index.invariant.count);
      led = subst (HasLeadingRecords c.args.version c.args.prefix.now c.args.sequence) (sym items)
          (more_led c.args.version c.args.prefix.now c.args.sequence c.loop-index.commands.items c.in-Some.command c.loop-index.index c.loop-index.invariant.count c.loop-index.invariant.led
          c.in-Some.ensures.0 (sym c.sector_at.ensures ∙ c.in-Some.ensures.1));
    }

pub returns : goal.returns
returns c = led_full c.args.version c.args.prefix.now c.args.sequence c.loop-index.commands.items c.loop-index.index c.loop-index.invariant.count
    (omega (arith, c.loop-index-test.false, c.loop-index.auto.index-end)) c.loop-index.invariant.led
