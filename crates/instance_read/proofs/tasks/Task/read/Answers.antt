-- A line with a stop is refused with its first fault: in its numbers, in their order, or in its time window.
use Rattle.std.proofs.Common.{◌≡◌, ◌∙◌, ap, length, sym, arith, pos, refl, rules}
use Rattle.std.specs.Prelude.{int_lt}
use Rattle.text_lines.specs.Words.{words_of}
use Rattle.instance_read.specs.Fields.{field, passes_test}
use Rattle.instance_read.specs.Lilim.{stop_fault}
use Rattle.instance_read.specs.Pairs.{scaled_task}
use Rattle.instance_read.proofs.NumberLemmas.{stops_first}
use Rattle.instance_read.proofs.TaskLemmas.{counted_by, task_is, order_first, scalable, window_first, no_fault}
use Rattle.instance_read.proofs.tasks.Task.read.Goals as goal

pub returns-in-Err-Range : goal.returns-in-Err-Range
returns-in-Err-Range g c =
    let words = words_of c.args.line.now in
    let limits = c.args.limits.now in
    stops_first g.row.N limits words (stop_fault limits c.args.previous words) (counted_by limits words g.row.N c.told-limits) refl
    (passes_test (λ z. int_lt (pos 40000) z) (field words 0)) c.range_kind.result c.range_kind.ensures refl (λ _ e. e) c.in-Err-Range.field-0 c.in-Err-Range.field-0-is c.in-Err-Range.ensures

pub returns-then-is_out_of_order : goal.returns-then-is_out_of_order
returns-then-is_out_of_order g c =
    order_first g.row.N c.args.scale c.args.limits.now c.requires.limits c.told-limits _ _ c.in-Ok.ensures c.args.previous _ _ c.from_values-task.ensures (sym c.is_out_of_order.ensures ∙ c.if-is_out_of_order.true)

pub returns-then-task : goal.returns-then-task
returns-then-task g c =
    window_first g.row.N c.args.scale c.args.limits.now c.requires.limits c.told-limits _ _ c.in-Ok.ensures c.args.previous _ _ c.from_values-task.ensures
    (sym c.is_out_of_order.ensures ∙ c.if-is_out_of_order.false) (omega arith)

pub scaled-requires : goal.scaled-requires
scaled-requires g c =
    scalable g.row.N c.args.scale c.args.limits.now c.requires.limits c.told-limits _ _ c.in-Ok.ensures c.args.previous _ _ c.from_values-task.ensures

pub returns : goal.returns
returns g c =
    let limits = c.args.limits.now in
    let long : length c.in-Ok.values ≡ g.row.N = search rules in (
      no_fault g.row.N c.args.scale limits c.requires.limits c.told-limits _ _ c.in-Ok.ensures c.args.previous _ _ c.from_values-task.ensures
          (sym c.is_out_of_order.ensures ∙ c.if-is_out_of_order.false) (omega arith),
      c.scaled.ensures
          ∙ ap (scaled_task c.args.scale) (task_is g.row.N c.args.scale limits c.requires.limits c.told-limits _ _ c.in-Ok.ensures c.args.previous _ _ c.from_values-task.ensures long),
    )
