-- The fault of the line at which the heading ends is the first of all lines.
use Rattle.std.proofs.Common.{refl}
use Rattle.std.proofs.lemmas.Result.{err_from_is_err_and}
use Rattle.instance_read.specs.HeadingLines.{IsPassed}
use Rattle.instance_read.specs.RowViews.{row_view}
use Rattle.instance_read.specs.Solomon.{name_fault}
use Rattle.instance_read.proofs.HeadingLemmas.{columns_first, customer_first, fleet_first, number_first, vehicle_first}
use Rattle.instance_read.proofs.solomon.read_heading.Goals as goal

pub returns-in_err-pass_word : goal.returns-in_err-pass_word
returns-in_err-pass_word c =
    let name : IsPassed name_fault c.args.lines.now c.next_line.new.lines = (row_view c.in_ok-next_line.field-0, c.in_ok-next_line.ensures, λ k. refl) in
    let p = err_from_is_err_and c.from_residual-in_err-pass_word.result c.from_residual-in_err-pass_word.ensures.1 in
    rw (p.1, p.2) (λ scale. vehicle_first scale c.args.text.now c.args.lines.now c.next_line.new.lines c.requires name c.in_err-pass_word.field-0.0 c.in_err-pass_word.ensures)

pub returns-in_err-pass_word-2 : goal.returns-in_err-pass_word-2
returns-in_err-pass_word-2 c =
    let name : IsPassed name_fault c.args.lines.now c.next_line.new.lines = (row_view c.in_ok-next_line.field-0, c.in_ok-next_line.ensures, λ k. refl) in
    let p = err_from_is_err_and c.from_residual-in_err-pass_word-2.result c.from_residual-in_err-pass_word-2.ensures.1 in
    rw (p.1, p.2) (λ scale. number_first scale c.args.text.now c.args.lines.now c.next_line.new.lines c.requires name
    c.pass_word.new.lines c.in_ok-pass_word.ensures c.in_err-pass_word-2.field-0.0 c.in_err-pass_word-2.ensures)

pub returns-in_err-header : goal.returns-in_err-header
returns-in_err-header c =
    let name : IsPassed name_fault c.args.lines.now c.next_line.new.lines = (row_view c.in_ok-next_line.field-0, c.in_ok-next_line.ensures, λ k. refl) in
    let p = err_from_is_err_and c.from_residual-in_err-header.result c.from_residual-in_err-header.ensures.1 in
    rw (p.1, p.2) (λ scale. fleet_first scale c.args.text.now c.args.lines.now c.next_line.new.lines c.requires name
    c.pass_word.new.lines c.in_ok-pass_word.ensures
    c.pass_word-2.new.lines c.in_ok-pass_word-2.ensures c.in_err-header.field-0.0 c.in_err-header.ensures.stopped)

pub returns-in_err-pass_word-3 : goal.returns-in_err-pass_word-3
returns-in_err-pass_word-3 c =
    let name : IsPassed name_fault c.args.lines.now c.next_line.new.lines = (row_view c.in_ok-next_line.field-0, c.in_ok-next_line.ensures, λ k. refl) in
    let p = err_from_is_err_and c.from_residual-in_err-pass_word-3.result c.from_residual-in_err-pass_word-3.ensures.1 in
    rw (p.1, p.2) (λ scale. customer_first scale c.args.text.now c.args.lines.now c.next_line.new.lines c.requires name
    c.pass_word.new.lines c.in_ok-pass_word.ensures
    c.pass_word-2.new.lines c.in_ok-pass_word-2.ensures
    c.read_fleet.new.lines c.in_ok-header.ensures.passed c.in_err-pass_word-3.field-0.0 c.in_err-pass_word-3.ensures)

pub returns-in_err-pass_word-4 : goal.returns-in_err-pass_word-4
returns-in_err-pass_word-4 c =
    let name : IsPassed name_fault c.args.lines.now c.next_line.new.lines = (row_view c.in_ok-next_line.field-0, c.in_ok-next_line.ensures, λ k. refl) in
    let p = err_from_is_err_and c.from_residual-in_err-pass_word-4.result c.from_residual-in_err-pass_word-4.ensures.1 in
    rw (p.1, p.2) (λ scale. columns_first scale c.args.text.now c.args.lines.now c.next_line.new.lines c.requires name
    c.pass_word.new.lines c.in_ok-pass_word.ensures
    c.pass_word-2.new.lines c.in_ok-pass_word-2.ensures
    c.read_fleet.new.lines c.in_ok-header.ensures.passed
    c.pass_word-3.new.lines c.in_ok-pass_word-3.ensures c.in_err-pass_word-4.field-0.0 c.in_err-pass_word-4.ensures)
