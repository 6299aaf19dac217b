-- The part of the text that was written is a prefix of it.
use Rattle.std.proofs.Common.{take, drop, take-append-drop}
use Rattle.planner_cli.proofs.messages.put.Goals as goal

pub returns-in-Err-clause-cut : goal.returns-in-Err-clause-cut
returns-in-Err-clause-cut g c =
    let len = c.in-Err.field-0 in
    let text = c.args.text.now in
    record { part = take len text; rest = drop len text; whole = take-append-drop len text; put = c.in-Err.ensures.1 }
