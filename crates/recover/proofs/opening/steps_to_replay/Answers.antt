-- The steps to replay are the steps of the commands that the image holds.
use Rattle.std.proofs.Common.{◌≡◌, ◌^◌, ◌<◌, List, subst}
use Rattle.std.specs.Prelude.{sum_by}
use Rattle.command_types.specs.Commands.{steps_of}
use Rattle.command_types.specs.declared.commands.Command.{Command}
use Rattle.state_codec.specs.declared.version.Version.TheVariants.{Two}
use Rattle.recover.proofs.Replays.{to_repeat}
use Rattle.recover.proofs.opening.steps_to_replay.Goals as goal

pub returns-clause-found : goal.returns-clause-found
returns-clause-found g c honest =
    let loaded = c.in_ok-loaded.loaded in
    to_repeat Two (g.D.Sectors.seen c.args.device.now) loaded.state loaded.commands.items loaded.place (c.in_ok-loaded.ensures.loaded.found honest) c.in_ok-loaded.ensures.loaded.well_formed.used
    c.images_hold_at_most_one_state.ensures.one c.steps_of_commands.result
    (subst (λ (cs : List Command). sum_by steps_of cs < 2 ^ 64 → c.steps_of_commands.result ≡ sum_by steps_of cs) c.deref.ensures.value c.steps_of_commands.ensures)
