-- An upgrade that the new device refuses.
use Rattle.std.proofs.Common.{[]}
use Rattle.std.specs.Prelude.{Err}
use Rattle.sector_disk.specs.Sectors.{Throughout}
use Rattle.sector_disk.specs.declared.sectors.Sectors as sectors
use Rattle.command_types.specs.declared.states.State.{State}
use Rattle.state_codec.specs.declared.version.Version.TheVariants.{One, Two}
use Rattle.checkpoint.specs.Layouts.{version_2}
use Rattle.checkpoint.specs.Stores.{IsUnformatted}
use Rattle.checkpoint.specs.Holds.{Holds}
use Rattle.checkpoint.specs.Moments.{IsInFormat}
use Rattle.checkpoint.specs.Refusals.{OnCalls}
use Rattle.checkpoint.specs.Places.{first_place}
use Rattle.checkpoint.specs.declared.faults.FormatFault.{FormatFault}
use Rattle.checkpoint.specs.declared.faults.FormatFault.TheVariants.{TooSmall, DeviceFault, OutOfMemory}
use Rattle.checkpoint.specs.declared.places.Place.{Place}
use Rattle.recover.specs.declared.upgrading.UpgradeFault.TheVariants.{New}
use Rattle.recover.specs.RecoversTo.{RecoversTo}
use Rattle.recover.specs.Upgrading.{OnWritten, IsMadeFromOld}

-- the guarantee of an upgrade, from that of the format for each moment
pub is_made : {D E : Type 0} (on_old : sectors.Ghosts D) (on_new : sectors.Ghosts E) (fault : FormatFault) (old old_after : D) (new new_after : E) (state : State)
    → (on_old.honest old_after → RecoversTo One (on_old.seen old) state)
    → (on_new.honest new_after → OnCalls {T = Place} (Err fault)
    (Throughout on_new.clock on_new.possible_since new new_after (IsInFormat (IsUnformatted version_2) (λ image. Holds Two image state [] first_place) (on_new.calls new))))
    → OnWritten {T = Place} (Err (New fault)) (IsMadeFromOld on_old on_new (Err (New fault)) old old_after new new_after)
is_made on_old on_new TooSmall old old_after new new_after state old_recovers moments = tt
is_made on_old on_new OutOfMemory old old_after new new_after state old_recovers moments = tt
is_made on_old on_new DeviceFault old old_after new new_after state old_recovers moments = record {
  state = state;
  old_recovers = old_recovers;
  place = tt;
  moments = moments;
  holds = λ honest. tt;
  recovers = λ honest. tt;
}
