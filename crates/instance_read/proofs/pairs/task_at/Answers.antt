-- The table's entry for a number leads to the task with that number, if there is one.
use Rattle.std.proofs.Common.{sym, ap, ◌∙◌}
use Rattle.std.specs.Prelude.{option_and_then, slice_get}
use Rattle.std.specs.Option.{option_copied}
use Rattle.instance_read.proofs.TableLemmas.{find_task-place, slice_get-ref}
use Rattle.instance_read.proofs.pairs.task_at.Goals as goal

pub returns-in_err-place : goal.returns-in_err-place
returns-in_err-place c =
    let tasks = c.args.tasks.now in
    let place = sym c.in_err-place.was ∙ c.entry_of.ensures ∙ c.requires c.args.number in
    ap option_copied c.from_residual.ensures ∙ ap (option_and_then (slice_get tasks)) place ∙ find_task-place c.args.number tasks

pub returns : goal.returns
returns c =
    let tasks = c.args.tasks.now in
    let place = sym c.in_ok-place.was ∙ c.entry_of.ensures ∙ c.requires c.args.number in
    slice_get-ref tasks c.in_ok-place.place c.get.result c.get.ensures.lookup.0 c.get.ensures.lookup.1
    ∙ ap (option_and_then (slice_get tasks)) place ∙ find_task-place c.args.number tasks
