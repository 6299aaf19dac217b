-- The next place is in the larger box, whose longest leg is no shorter, and the ends stay the same.
use Rattle.std.proofs.Common.{arith}
use Rattle.slack_tables.proofs.SpanLemmas.{span-more, ends-same}
use Rattle.slack_tables.proofs.span.Span.of.Goals as goal

pub loop-k-preserved : goal.loop-k-preserved
loop-k-preserved c =
    let is = c.loop-k.invariant in
    let some = is.some in
    record {
      some = omega arith;
      within =
          span-more c.args.places.now c.loop-k.k c.loop-k.span c.extended-span.result c.small_row-before.result.now c.small_row-here.result.now
          (omega arith) is.within c.small_row-before.ensures.place c.small_row-here.ensures.place c.extended-span.ensures.inside
          c.extended-span.ensures.wider c.extended-span.ensures.table_leg c.extended-span.ensures.longer c.extended-span.ensures.small;
      ends = ends-same c.loop-k.span c.extended-span.result c.args.places.now c.extended-span.ensures.longest_depot_leg c.extended-span.ensures.load is.ends;
    }
