-- The result of opening a store, from what is known about its device.
use Rattle.std.proofs.Common.{◌≡◌, inl, inr, Bool, List, ℕ, Option, Result, Ok, Err, subst}
use Rattle.std.specs.Prelude.{IfErr}
use Rattle.checkpoint.specs.declared.faults.FormatFault.{FormatFault}
use Rattle.checkpoint.specs.declared.faults.StoreFault.{StoreFault}
use Rattle.checkpoint.specs.declared.faults.StoreFault.TheVariants.{NotFormatted}
use Rattle.checkpoint.specs.declared.places.Place.{Place}
use Rattle.command_server.specs.Streams.{InputRecord, Stream}
use Rattle.planner_cli.specs.Format.{IsFormatted}
use Rattle.planner_cli.specs.StoreDevices.{IsLeftOnFailure}
use Rattle.planner_cli.specs.Opening.{MayAnnounceReplay, HoldsNoStore, IsNewFile, IsReadyStore, IsOpening, IsOpeningOf, IsOpenFailure, PrintsOpenFailure}
use Rattle.planner_cli.specs.Run.{IsUntouched, RunsStore, ServesStore}
use Rattle.recover.specs.Opening.{IsRefused}
use Rattle.planner_cli.specs.declared.opening.OpenFailure.{OpenFailure}
use Rattle.planner_cli.specs.declared.opening.OpenFailure.TheVariants.{File, Store, FormatFailed}
use Rattle.recover.specs.declared.opening.Opened.{Opened}
use Rattle.file_disk.specs.DeviceFiles.{IsNotOpenedExistingAt}
use Rattle.file_disk.specs.declared.file_device.OpenError.{OpenError}
use Rattle.sector_disk.specs.declared.sectors.Sectors as sectors

module _ {D : Type 0} (on : sectors.Ghosts D) where
  pub opening_of : (IsReady IsBare : D → Type 0) (IsNone : OpenError → Type 0) (device : D) → IsReady device → (opening : Result (Opened D) (OpenFailure D)) → IsOpening on device opening
      → IsOpeningOf on IsReady IsBare IsNone opening
  opening_of IsReady IsBare IsNone device ready (Ok opened) is = record { device = device; ready = ready; opens = is }
  opening_of IsReady IsBare IsNone device ready (Err (Store fault left)) is = record { device = device; ready = ready; refuses = is }
  opening_of IsReady IsBare IsNone device ready (Err (File refusal)) is = absurd is
  opening_of IsReady IsBare IsNone device ready (Err (FormatFailed fault left)) is = absurd is

  -- Opening a device fails only after its file was opened, so the number of steps to replay may have been
  -- printed.
  pub foreseen_of : (device : D) (opening : Result (Opened D) (OpenFailure D)) (before after : Option (List ℕ)) → IsOpening on device opening
      → IfErr opening (λ unopened. MayAnnounceReplay unopened before after)
  foreseen_of device (Ok opened) before after is = tt
  foreseen_of device (Err (Store fault left)) before after is = tt
  foreseen_of device (Err (File refusal)) before after is = absurd is
  foreseen_of device (Err (FormatFailed fault left)) before after is = absurd is

  pub found_bare : (IsNew : D → Type 0) (device bare : D) (fault : StoreFault) → IsNewFile on IsNew device → fault ≡ NotFormatted → IsRefused on device bare fault → HoldsNoStore on IsNew bare
  found_bare IsNew device bare fault made is refuses = record { device = device; made = made; refuses = subst (IsRefused on device bare) is refuses }

  -- The result of opening a device that held no store: it was formatted and then opened.
  pub opening_of_formatted : (IsNew : D → Type 0) (IsNone : OpenError → Type 0) (bare ready : D) (made : Result Place FormatFault) (place : Place)
      → HoldsNoStore on IsNew bare → made ≡ Ok place → IsFormatted on bare ready made
      → (opening : Result (Opened D) (OpenFailure D)) → IsOpening on ready opening → IsOpeningOf on (IsReadyStore on IsNew) (HoldsNoStore on IsNew) IsNone opening
  opening_of_formatted IsNew IsNone bare ready made place found is formatted opening opens =
      opening_of (IsReadyStore on IsNew) (HoldsNoStore on IsNew) IsNone ready (inr (bare, place, found, subst (IsFormatted on bare ready) is formatted)) opening opens

-- ---- The subcommand `run`, if its store was not opened

module _ {D : Type 0} (on : sectors.Ghosts D) (IsOld : D → Type 0) (path : List ℕ) (is_strict : Bool) (given : InputRecord) (before after : Stream) (reader_failed writer_failed : Bool) where
  pub unopened_runs : (status : ℕ) (unopened : OpenFailure D) → IsOpenFailure on IsOld (λ device. ⊥) (IsNotOpenedExistingAt path) unopened → PrintsOpenFailure path unopened before.contents after.contents status
      → RunsStore on (λ p. IsOld) path is_strict given before after reader_failed writer_failed status
  unopened_runs status (File refusal) is reported = inr (refusal, is, reported)
  unopened_runs status (Store fault left) is reported = inl (is.device, is.ready, inr (fault, left, is.refuses, reported))
  unopened_runs status (FormatFailed fault left) is reported = absurd is.bare

  pub unopened_serves : (unopened : OpenFailure D) (left : Option D) → IsOpenFailure on IsOld (λ device. ⊥) (IsNotOpenedExistingAt path) unopened → IsLeftOnFailure on unopened left
      → IsUntouched given before after → ServesStore on (λ p. IsOld) path is_strict given before after reader_failed writer_failed left
  unopened_serves (File refusal) left is none untouched = inr (refusal, is, none, untouched)
  unopened_serves (Store fault later) left is read untouched = inl (is.device, is.ready, inr (fault, later, is.refuses, (read, untouched)))
  unopened_serves (FormatFailed fault later) left is same untouched = absurd is.bare
