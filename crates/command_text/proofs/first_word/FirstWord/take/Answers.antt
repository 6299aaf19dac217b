-- The state after these bytes is the state after all bytes so far.
use Rattle.std.proofs.Common.{◌∙◌, ap, sym}
use Rattle.command_text.specs.Scanning.{scanned_on}
use Rattle.command_text.proofs.ScanLemmas.{scanned_append}
use Rattle.command_text.specs.declared.first_word.FirstWord.TheVariants.{Nothing}
use Rattle.command_text.proofs.first_word.FirstWord.take.Goals as goal

pub returns : goal.returns
returns c before is = c.after_all.ensures ∙ ap (λ w. scanned_on w c.args.bytes.now) is ∙ sym (scanned_append Nothing before c.args.bytes.now)
