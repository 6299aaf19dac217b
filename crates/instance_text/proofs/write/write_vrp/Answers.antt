-- The text consists of the head, both sections and the end, in this order.
use Rattle.std.proofs.Common.{◌∙◌, ◌++◌, ap}
use Rattle.instance_text.specs.Texts.{end_lines, head_lines, lines_text, section_lines}
use Rattle.instance_text.specs.declared.lines.Heading.TheVariants.{Coordinates, Demands}
use Rattle.instance_text.specs.declared.stops.StopLine.TheVariants.{Node, Demand}
use Rattle.instance_text.proofs.WriteLemmas.{parts_joined}
use Rattle.instance_text.proofs.write.write_vrp.Goals as goal

pub returns : goal.returns
returns c =
    let p = c.args.problem.now in
    parts_joined (head_lines p) (section_lines p Coordinates Node) (section_lines p Demands Demand) end_lines _ _ _ _
    (c.in_ok-put_head.ensures ∙ ap (λ t. t ++ lines_text (head_lines p)) c.new-text.ensures.items)
    c.in_ok-put_section.ensures c.in_ok-put_section-2.ensures c.in_ok-put_end.ensures
