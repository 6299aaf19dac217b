-- A line of two numbers within the limits of fleet and capacity has no fault.
use Rattle.std.proofs.Common.{ap, ◌∙◌, get_or, pos, w32, rules, refl, arith}
use Rattle.std.proofs.lemmas.Int.{to_z-of_z}
use Rattle.std.specs.Int.RustNames.{unsigned_abs}
use Rattle.std.specs.Prelude.{FitsSigned}
use Rattle.text_lines.specs.Words.{words_of}
use Rattle.instance_read.specs.Lilim.{header_limits}
use Rattle.instance_read.proofs.NumberLemmas.{numbers_none, value_is}
use Rattle.instance_read.proofs.tasks.FleetLine.read_two.Goals as goal

pub returns : goal.returns
returns c =
    let words = words_of c.args.line.now in
    let values = c.in_ok-values.values in
    let read = c.in_ok-values.ensures in
    let fleet_fits : FitsSigned w32 (get_or values 0 (pos 0)) = search rules in
    let capacity_fits : FitsSigned w32 (get_or values 1 (pos 0)) = search rules in (
      numbers_none 2 header_limits words values refl read,
      (
        c.unsigned_abs.ensures.value ∙ ap unsigned_abs (to_z-of_z w32 (get_or values 0 (pos 0)) fleet_fits ∙ value_is 2 header_limits words values read 0 (omega arith)),
        c.unsigned_abs-2.ensures.value ∙ ap unsigned_abs (to_z-of_z w32 (get_or values 1 (pos 0)) capacity_fits ∙ value_is 2 header_limits words values read 1 (omega arith)),
      ),
    )
