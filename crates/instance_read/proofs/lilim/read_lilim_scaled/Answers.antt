-- If a Li-Lim text is refused, its first fault by class, line and kind is reported; otherwise the text spells
-- the problem.
use Rattle.std.proofs.Common.{List, None, inl, inr, ⊎_elim, sym, subst, ◌∙◌, arith, ℤ}
use Rattle.std.proofs.lemmas.Result.{err_from_is_err_and, MatchResult-weaker}
use Rattle.instance_read.specs.declared.faults.ReadFault.{ReadFault}
use Rattle.instance_read.specs.Faults.{IsFirstFault}
use Rattle.instance_read.specs.Lilim.{LilimFault}
use Rattle.instance_read.specs.RowViews.{row_view}
use Rattle.instance_read.specs.TaskFaults.{HasNoStopFault, IsFirstStopFault}
use Rattle.instance_read.proofs.LilimLemmas.{no_rows_first, header_first, rest_above, task_first, no_tasks_first}
use Rattle.instance_read.proofs.LimitLemmas.{header_limits_of, task_limits_are}
use Rattle.instance_read.proofs.ReadLemmas.{known_tasks, spells, tells, no_rest}
use Rattle.instance_read.proofs.TaskFaultLemmas.{above_weaker}
use Rattle.instance_read.proofs.lilim.read_lilim_scaled.Goals as goal

pub returns-in_default-clause-fault : goal.returns-in_default-clause-fault
returns-in_default-clause-fault c =
    let text = c.args.text.now in
    let P : ReadFault → Type 0 = IsFirstFault (LilimFault c.args.scale text) in
    inr (subst P (sym c.truncated.ensures) (no_rows_first c.args.scale text (sym c.new-lines.ensures ∙ c.in_default.ensures.steps.0)))

pub returns-in-Err-clause-fault : goal.returns-in-Err-clause-fault
returns-in-Err-clause-fault c =
    inr (header_first c.args.scale c.args.text.now (row_view c.in-Some.first) c.next.new.self (sym c.new-lines.ensures ∙ c.in-Some.ensures.steps) c.in-Err.kind c.in-Err.ensures)

pub read_tasks-requires : goal.read_tasks-requires
read_tasks-requires c =
    let first = row_view c.in-Some.first in
    let rest = rest_above c.args.scale c.args.text.now first c.next.new.self (sym c.new-lines.ensures ∙ c.in-Some.ensures.steps) in
    (omega arith, (task_limits_are c.args.scale _ c.task_limits.ensures, above_weaker 0 first.line c.next.new.self (omega arith) rest))

pub returns-in_err-tasks-clause-fault : goal.returns-in_err-tasks-clause-fault
returns-in_err-tasks-clause-fault c =
    let text = c.args.text.now in
    let first = row_view c.in-Some.first in
    let rest = c.next.new.self in
    let is = sym c.new-lines.ensures ∙ c.in-Some.ensures.steps in
    let P : List (ℤ × ℤ) → Type 0 = λ l. IsFirstStopFault l None rest c.in_err-tasks.field-0.0 in
    let p = err_from_is_err_and c.from_residual.result c.from_residual.ensures.1 in
    rw (p.1, p.2) (⊎_elim
    (λ memory. inl memory)
    (λ h. inr (task_first c.args.scale text first rest is c.in-Ok.ensures.0 c.in_err-tasks.field-0.0 (subst P c.task_limits.ensures h)))
    c.in_err-tasks.ensures.err)

pub returns-in-empty-clause-fault : goal.returns-in-empty-clause-fault
returns-in-empty-clause-fault c =
    let text = c.args.text.now in
    let first = row_view c.in-Some.first in
    let rest = c.next.new.self in
    let is = sym c.new-lines.ensures ∙ c.in-Some.ensures.steps in
    let P : ReadFault → Type 0 = IsFirstFault (LilimFault c.args.scale text) in
    let none = no_rest c.args.scale rest c.as_slice.result.now c.in-empty.len_below (c.as_slice.ensures.value ∙ c.in_ok-tasks.ensures.ok.1) in
    inr (subst P (sym c.truncated-in-empty.ensures) (no_tasks_first c.args.scale text first rest is c.in-Ok.ensures.0 none))

pub pair_up-requires-clause-header : goal.pair_up-requires-clause-header
pair_up-requires-clause-header c = header_limits_of _ c.in-Ok.header c.in-Ok.ensures.0 c.in-Ok.ensures.1

pub pair_up-requires-clause-tasks : goal.pair_up-requires-clause-tasks
pair_up-requires-clause-tasks c =
    let Clean : List (ℤ × ℤ) → Type 0 = λ l. HasNoStopFault l None c.next.new.self in
    known_tasks c.args.scale c.args.text.now (row_view c.in-Some.first) c.in-Ok.header c.as_slice.result.now c.in-Ok.ensures.0 c.in-Ok.ensures.1 (omega arith)
    c.next.new.self (subst Clean c.task_limits.ensures c.in_ok-tasks.ensures.ok.0) (c.as_slice.ensures.value ∙ c.in_ok-tasks.ensures.ok.1)

pub returns-clause-value : goal.returns-clause-value
returns-clause-value c =
    let Clean : List (ℤ × ℤ) → Type 0 = λ l. HasNoStopFault l None c.next.new.self in
    let is = sym c.new-lines.ensures ∙ c.in-Some.ensures.steps in
    MatchResult-weaker c.pair_up.result c.pair_up.ensures.ok
    (λ p h. spells c.args.scale c.args.text.now (row_view c.in-Some.first) c.in-Ok.header c.as_slice.result.now c.in-Ok.ensures.0 c.in-Ok.ensures.1 (omega arith)
    c.next.new.self is (subst Clean c.task_limits.ensures c.in_ok-tasks.ensures.ok.0) (c.as_slice.ensures.value ∙ c.in_ok-tasks.ensures.ok.1) p h)
    (λ _ h. h)

pub returns-clause-fault : goal.returns-clause-fault
returns-clause-fault c =
    let Clean : List (ℤ × ℤ) → Type 0 = λ l. HasNoStopFault l None c.next.new.self in
    let is = sym c.new-lines.ensures ∙ c.in-Some.ensures.steps in
    MatchResult-weaker c.pair_up.result c.pair_up.ensures.err
    (λ _ h. h)
    (λ f h. tells c.args.scale c.args.text.now (row_view c.in-Some.first) c.in-Ok.header c.as_slice.result.now c.in-Ok.ensures.0 c.in-Ok.ensures.1 (omega arith)
    c.next.new.self is (subst Clean c.task_limits.ensures c.in_ok-tasks.ensures.ok.0) (c.as_slice.ensures.value ∙ c.in_ok-tasks.ensures.ok.1) f h)
