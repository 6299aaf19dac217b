-- Either the device over the file is formatted, or there is a reason why there is no file.
use Rattle.std.proofs.Common.{◌<◌, arith, inl, inr, refl}
use Rattle.std.specs.Prelude.{◌^◌}
use Rattle.checkpoint.specs.Layouts.{version_2, sectors_in}
use Rattle.checkpoint.specs.declared.faults.FormatFault.TheVariants.{TooSmall}
use Rattle.planner_cli.proofs.MessageLemmas.{not_too_small}
use Rattle.planner_cli.proofs.stores.format_store.Goals as goal

pub returns-in-Ok-clause-formats : goal.returns-in-Ok-clause-formats
returns-in-Ok-clause-formats g c =
    let short : sectors_in version_2 < 2 ^ 54 = omega arith in
    let made = c.format_device-made.result in
    let given = c.format_device-made.ensures in
    inl (
      c.in-Ok.device,
      c.format_device-made.new.device,
      made,
      refl,
      c.in-Ok.ensures.reported short,
      c.in-Ok.ensures.len,
      given.formatted,
      not_too_small made TooSmall _ given.too_small c.in-Ok.ensures.len,
      c.print_format_result-reported.ensures,
    )

pub returns-in-Err-clause-formats : goal.returns-in-Err-clause-formats
returns-in-Err-clause-formats g c =
    let short : sectors_in version_2 < 2 ^ 54 = omega arith in
    inr (c.in-Err.refusal, refl, c.in-Err.ensures.reported short, c.in-Err.ensures.not_too_long short, c.print_file_refusal.ensures)
