-- If a text is refused, its first fault by class, line and kind is reported; otherwise the text spells the
-- problem.
use Rattle.std.proofs.Common.{◌+◌, List, [], None, inl, inr, ⊎_elim, sym, subst, ◌∙◌, arith, length, ℤ}
use Rattle.std.proofs.lemmas.Result.{err_from_is_err_and, MatchResult-weaker}
use Rattle.text_lines.specs.Lines.{lines_of}
use Rattle.instance_read.specs.declared.faults.ReadFault.{ReadFault}
use Rattle.instance_read.specs.Faults.{IsFirstFault}
use Rattle.instance_read.specs.HeadingLines.{ArePassed, HasFleet, truncated_after}
use Rattle.instance_read.specs.Rows.{Row}
use Rattle.instance_read.specs.Solomon.{LinesFault, SolomonFault, heading}
use Rattle.instance_read.specs.TaskFaults.{HasNoStopFault, IsFirstStopFault, LinesAbove}
use Rattle.instance_read.proofs.HeadingLemmas.{above_rest, fleet_limits, known_customers, rest_first, spells_singles}
use Rattle.instance_read.proofs.LimitLemmas.{customer_limits_are}
use Rattle.instance_read.proofs.ReadLemmas.{no_rest}
use Rattle.instance_read.proofs.SolomonLemmas.{customers_first, cut_first}
use Rattle.instance_read.proofs.TaskFaultLemmas.{rows_above}
use Rattle.instance_read.proofs.solomon.read_solomon_scaled.Goals as goal

pub read_heading-requires : goal.read_heading-requires
read_heading-requires c =
    let P : List Row → Type 0 = LinesAbove 0 in
    subst P (sym c.new-lines.ensures) (rows_above 0 (lines_of c.args.text.now))

pub read_tasks-requires : goal.read_tasks-requires
read_tasks-requires c =
    let P : List Row → Type 0 = LinesAbove 0 in
    let above = subst P (sym c.new-lines.ensures) (rows_above 0 (lines_of c.args.text.now)) in
    (omega arith, (customer_limits_are c.args.scale _ c.customer_limits.ensures, above_rest c.args.scale heading c.new-lines.result c.read_heading.new.lines c.in_ok-header.ensures.0 above))

pub returns-in_err-header-clause-fault : goal.returns-in_err-header-clause-fault
returns-in_err-header-clause-fault c =
    let end = length (lines_of c.args.text.now) + 1 in
    let f = c.in_err-header.field-0.0 in
    let P : List Row → Type 0 = λ rows. IsFirstFault (LinesFault c.args.scale end heading rows) f in
    let p = err_from_is_err_and c.from_residual.result c.from_residual.ensures.1 in
    rw (p.1, p.2) (inr (subst P c.new-lines.ensures (c.in_err-header.ensures c.args.scale)))

pub returns-in_err-tasks-clause-fault : goal.returns-in_err-tasks-clause-fault
returns-in_err-tasks-clause-fault c =
    let end = length (lines_of c.args.text.now) + 1 in
    let rest = c.read_heading.new.lines in
    let f = c.in_err-tasks.field-0.0 in
    let P : List Row → Type 0 = λ rows. IsFirstFault (LinesFault c.args.scale end heading rows) f in
    let Q : List (ℤ × ℤ) → Type 0 = λ l. IsFirstStopFault l None rest f in
    let p = err_from_is_err_and c.from_residual-in_err-tasks.result c.from_residual-in_err-tasks.ensures.1 in
    rw (p.1, p.2) (⊎_elim
    (λ memory. inl memory)
    (λ h. inr (subst P c.new-lines.ensures (rest_first c.args.scale end heading c.new-lines.result rest f c.in_ok-header.ensures.0 (customers_first c.args.scale end rest f (subst Q c.customer_limits.ensures h)))))
    c.in_err-tasks.ensures.err)

pub returns-in-empty-clause-fault : goal.returns-in-empty-clause-fault
returns-in-empty-clause-fault c =
    let text = c.args.text.now in
    let end = length (lines_of text) + 1 in
    let rest = c.read_heading.new.lines in
    let f = truncated_after text in
    let P : ReadFault → Type 0 = IsFirstFault (SolomonFault c.args.scale text) in
    let Q : List Row → Type 0 = λ rows. IsFirstFault (LinesFault c.args.scale end heading rows) f in
    let R : List Row → Type 0 = λ rows. IsFirstFault (LinesFault c.args.scale end [] rows) f in
    let none = no_rest c.args.scale rest c.as_slice.result.now c.in-empty.len_below (c.as_slice.ensures.value ∙ c.in_ok-tasks.ensures.ok.1) in
    let first = rest_first c.args.scale end heading c.new-lines.result rest f c.in_ok-header.ensures.0 (subst R (sym none) (cut_first c.args.scale end [])) in
    inr (subst P (sym c.truncated.ensures) (subst Q c.new-lines.ensures first))

pub problem_of_singles-requires-clause-header : goal.problem_of_singles-requires-clause-header
problem_of_singles-requires-clause-header c =
    fleet_limits c.args.scale c.new-lines.result c.read_heading.new.lines c.in_ok-header.header c.in_ok-header.ensures.0 c.in_ok-header.ensures.1

pub problem_of_singles-requires-clause-tasks : goal.problem_of_singles-requires-clause-tasks
problem_of_singles-requires-clause-tasks c =
    let Clean : List (ℤ × ℤ) → Type 0 = λ l. HasNoStopFault l None c.read_heading.new.lines in
    (known_customers c.args.scale c.as_slice.result.now (omega arith) c.read_heading.new.lines (subst Clean c.customer_limits.ensures c.in_ok-tasks.ensures.ok.0) (c.as_slice.ensures.value ∙ c.in_ok-tasks.ensures.ok.1)).0

pub problem_of_singles-requires-clause-loads : goal.problem_of_singles-requires-clause-loads
problem_of_singles-requires-clause-loads c =
    let Clean : List (ℤ × ℤ) → Type 0 = λ l. HasNoStopFault l None c.read_heading.new.lines in
    (known_customers c.args.scale c.as_slice.result.now (omega arith) c.read_heading.new.lines (subst Clean c.customer_limits.ensures c.in_ok-tasks.ensures.ok.0) (c.as_slice.ensures.value ∙ c.in_ok-tasks.ensures.ok.1)).1

pub returns-clause-value : goal.returns-clause-value
returns-clause-value c =
    let Clean : List (ℤ × ℤ) → Type 0 = λ l. HasNoStopFault l None c.read_heading.new.lines in
    let rest = c.read_heading.new.lines in
    let P : List Row → Type 0 = λ rows. ArePassed heading rows rest in
    let Q : List Row → Type 0 = λ rows. HasFleet rows c.in_ok-header.header in
    MatchResult-weaker c.problem_of_singles.result c.problem_of_singles.ensures.ok
    (λ p h. spells_singles c.args.scale c.as_slice.result.now (omega arith) c.args.text.now c.in_ok-header.header rest (subst P c.new-lines.ensures c.in_ok-header.ensures.0)
    (subst Q c.new-lines.ensures c.in_ok-header.ensures.1) (subst Clean c.customer_limits.ensures c.in_ok-tasks.ensures.ok.0) (c.as_slice.ensures.value ∙ c.in_ok-tasks.ensures.ok.1) p h)
    (λ _ h. h)
