-- Either the store is made on the device over the new file, or there is a reason why there is no file.
use Rattle.std.proofs.Common.{◌<◌, arith, inl, inr, refl}
use Rattle.std.specs.Prelude.{◌^◌}
use Rattle.checkpoint.specs.Layouts.{version_2, sectors_in}
use Rattle.checkpoint.specs.declared.faults.FormatFault.TheVariants.{TooSmall}
use Rattle.planner_cli.proofs.MessageLemmas.{not_too_small}
use Rattle.planner_cli.proofs.stores.make_new_store.Goals as goal

pub returns-in-Ok-clause-makes : goal.returns-in-Ok-clause-makes
returns-in-Ok-clause-makes g c =
    let short : sectors_in version_2 < 2 ^ 54 = omega arith in
    let upgraded = c.format_with_state-upgraded.result in
    let given = c.format_with_state-upgraded.ensures in
    inl (
      c.in-Ok.made,
      c.format_with_state-upgraded.new.device,
      upgraded,
      refl,
      c.in-Ok.ensures.reported short,
      c.in-Ok.ensures.len,
      given.made,
      not_too_small upgraded TooSmall _ given.too_small c.in-Ok.ensures.len,
      c.print_upgrade_result-reported.ensures,
    )

pub returns-in-Err-clause-makes : goal.returns-in-Err-clause-makes
returns-in-Err-clause-makes g c =
    let short : sectors_in version_2 < 2 ^ 54 = omega arith in
    inr (c.in-Err.refusal, refl, c.in-Err.ensures.reported short, c.in-Err.ensures.not_too_long short, c.print_new_file_refusal.ensures)
