-- The text consists of the lines before the depot and the lines of the stops, in this order.
use Rattle.std.proofs.Common.{◌∙◌, ◌++◌, ap, map}
use Rattle.instance_text.specs.Texts.{column_lines, lines_text, row_line, vehicle_lines, visits}
use Rattle.instance_text.specs.declared.stops.StopLine.TheVariants.{Customer}
use Rattle.instance_text.proofs.WriteLemmas.{three_joined}
use Rattle.instance_text.proofs.write.write_solomon.Goals as goal

pub returns : goal.returns
returns c =
    let p = c.args.problem.now in
    three_joined (vehicle_lines p) column_lines (map (row_line p Customer) (visits p)) _ _ _
    (c.in_ok-put_vehicles.ensures ∙ ap (λ t. t ++ lines_text (vehicle_lines p)) c.new-text.ensures.items)
    c.in_ok-put_columns.ensures c.in_ok-put_visits.ensures
