-- The text reads back as the problem, with the differences that `read_by` defines.
use Rattle.std.proofs.Common.{sym, subst, ◌∙◌}
use Rattle.instance_read.specs.Readings.{SpellsInstance}
use Rattle.instance_text.specs.Formats.{text_format}
use Rattle.instance_text.specs.ReadBack.{as_read}
use Rattle.instance_text.proofs.write.write_instance.Goals as goal

pub returns-clause-spells : goal.returns-clause-spells
returns-clause-spells c =
    let p = c.args.problem.now in
    subst (λ t. SpellsInstance (text_format p) t (as_read p)) (sym c.in_ok-text.ensures)
    (c.texts_are_read_back.ensures p c.has_format.ensures.valid (sym c.has_format.ensures.format ∙ c.if-not-has_format.false))
