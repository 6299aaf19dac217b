-- The draft of the earlier lines takes each line of a `.vrp` text, or the line's fault is the first of the
-- text.
use Rattle.instance_read.specs.RowViews.{row_view}
use Rattle.instance_read.proofs.ReadingLemmas.{reading_done, reading_more, reading_stops}
use Rattle.instance_read.proofs.vrp.read_lines.Goals as goal

pub loop-line-preserved : goal.loop-line-preserved
loop-line-preserved c =
    let took = c.in-Ok.ensures.ok in
    reading_more c.args.scale c.args.lines c.loop-line.draft c.take.new.self c.loop-line.place c.in-Ok.next c.loop-line.line-iterator c.next.new.self
    (row_view c.in-Some.line) c.in-Some.ensures.steps c.loop-line.invariant took.0 took.1 took.2 took.3

pub returns-in-Err-clause-err : goal.returns-in-Err-clause-err
returns-in-Err-clause-err c =
    reading_stops c.args.scale c.args.lines c.loop-line.draft c.loop-line.draft c.loop-line.place c.loop-line.place c.loop-line.line-iterator c.next.new.self
    (row_view c.in-Some.line) c.in-Some.ensures.steps c.loop-line.invariant
    c.in-Err.kind c.of_line.result c.in-Err.ensures.err c.of_line.ensures.memory c.of_line.ensures.other

pub returns-clause-ok : goal.returns-clause-ok
returns-clause-ok c = reading_done c.args.scale c.args.lines c.loop-line.draft c.loop-line.place c.loop-line.line-iterator c.in-None.ensures.steps.0 c.loop-line.invariant
