-- The line of the next stop comes before those of the stops after it.
use Rattle.std.proofs.Common.{◌∙◌, ◌++◌, ◌+◌, ◌-◌, map, sym, ap, arith, append_assoc}
use Rattle.instance_text.specs.Texts.{lines_text, row_line, stops_from}
use Rattle.instance_text.proofs.WriteLemmas.{stops_next}
use Rattle.instance_text.proofs.stops.put_stops.Goals as goal

pub loop-number-preserved : goal.loop-number-preserved
loop-number-preserved c =
    let p = c.args.problem.now in
    let line = row_line p c.args.row in
    let n = c.loop-number.number in
    let old = c.loop-number.text.items in
    let later = lines_text (map line (stops_from p (n + 1) (p.next_number - (n + 1)))) in
    ap (λ t. t ++ later) c.in_ok-put_numbered.ensures
    ∙ append_assoc old (lines_text (map line (stops_from p n 1))) later
    ∙ ap (λ t. old ++ t) (sym (stops_next p line n p.next_number (omega (arith, ap (λ q. q.next_number) c.problem.view_is, c.loop-number-test.true))))
    ∙ c.loop-number.invariant
