-- If the numbers of a line can't be read, their first fault is reported.
use Rattle.std.proofs.Common.{subst, sym}
use Rattle.text_lines.specs.Words.{words_of}
use Rattle.instance_read.specs.declared.faults.ReadFaultKind.{ReadFaultKind}
use Rattle.instance_read.specs.FieldValues.{numbers_fault}
use Rattle.instance_read.specs.TaskFaults.{IsFirstKind}
use Rattle.instance_read.proofs.NumberLemmas.{numbers_first}
use Rattle.instance_read.proofs.fields.read_numbers.Goals as goal

pub returns-in-None : goal.returns-in-None
returns-in-None g c =
    let words = words_of c.args.line.now in
    let limits = c.args.limits.now in
    let P : ReadFaultKind → Type 0 = IsFirstKind (numbers_fault g.row.N limits words) in
    subst P (sym c.numbers_kind.ensures) (numbers_first g.row.N limits words c.told-limits c.in-None.ensures)
