-- The next line that is not blank is returned with its number, and counting doesn't overflow.
use Rattle.std.proofs.Common.{◌+◌, ap, sym, ◌∙◌, arith, length}
use Rattle.instance_read.specs.Rows.{rows_from}
use Rattle.instance_read.proofs.RowLemmas.{rows_nil, rows_blank, rows_read}
use Rattle.instance_read.proofs.rows.NumberedLinesIterator.next.Goals as goal

pub returns-then-not-is_blank_line-clause-steps : goal.returns-then-not-is_blank_line-clause-steps
returns-then-not-is_blank_line-clause-steps c =
    let n = c.loop-text.self-inside.count + 1 in
    sym c.self.view_is ∙ sym c.loop-text.invariant.rows ∙ ap (rows_from n) c.in-Some.ensures.steps
    ∙ rows_read n c.in-Some.text.now c.next.new.self (sym c.is_blank_line.ensures ∙ c.if-not-is_blank_line.true)

pub returns-then-not-is_blank_line-clause-goes : goal.returns-then-not-is_blank_line-clause-goes
returns-then-not-is_blank_line-clause-goes c =
    let n = c.loop-text.self-inside.count + 1 in
    let steps = sym c.self.view_is ∙ sym c.loop-text.invariant.rows ∙ ap (rows_from n) c.in-Some.ensures.steps
    ∙ rows_read n c.in-Some.text.now c.next.new.self (sym c.is_blank_line.ensures ∙ c.if-not-is_blank_line.true) in
    record { on = λ _. (tt, tt, omega (arith, ap length steps)); keeps = tt; rests = λ _. tt }

pub loop-text-preserved : goal.loop-text-preserved
loop-text-preserved c =
    let n = c.loop-text.self-inside.count + 1 in
    record {
      rows = sym (rows_blank n c.in-Some.text.now c.next.new.self (sym c.is_blank_line.ensures ∙ c.if-not-is_blank_line.false))
          ∙ sym (ap (rows_from n) c.in-Some.ensures.steps) ∙ c.loop-text.invariant.rows;
      counted = omega (arith, c.loop-text.invariant.counted, ap length c.in-Some.ensures.steps);
    }

pub returns-clause-steps : goal.returns-clause-steps
returns-clause-steps c =
    let n = c.loop-text.self-inside.count + 1 in
    let none = c.in_default.ensures.steps in
    (sym c.self.view_is ∙ sym c.loop-text.invariant.rows ∙ ap (rows_from n) none.0 ∙ rows_nil n, ap (rows_from n) none.1 ∙ rows_nil n)
