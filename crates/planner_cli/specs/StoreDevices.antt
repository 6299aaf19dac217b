-- The devices over store files, as a subcommand leaves them: no call on them follows.
use Rattle.std.specs.Prelude.{◌≡◌, Option, None, Some}
use Rattle.checkpoint.specs.Reads.{IsUnchanged}
use Rattle.planner_cli.specs.declared.store_devices.StoreDevices.{StoreDevices}
use Rattle.planner_cli.specs.declared.opening.OpenFailure.{OpenFailure}
use Rattle.planner_cli.specs.declared.opening.OpenFailure.TheVariants.{File, Store, FormatFailed}
use Rattle.sector_disk.specs.declared.sectors.Sectors as sectors

module _ {D N : Type 0} where
  -- No device is left: no store file was opened or made for writing.
  abbrev pub no_devices : StoreDevices D N
  no_devices = record { store = None; new_store = None }

module _ {D : Type 0} (on : sectors.Ghosts D) where
  -- The device was at most read, with any result, and not called in any other way.
  pub record IsReadAtMost (old new : D) : Type 0 where
    pub same_len : on.len new ≡ on.len old
    pub calls : on.calls new ≡ on.calls old
    pub honest : on.honest new → on.honest old
    pub kept : on.honest new → IsUnchanged on.clock on.possible_since on.possible on.seen on.calls old new

  -- A device is left that was at most read.
  abbrev pub IsLeftRead : D → Option D → Type 0
  IsLeftRead device None = ⊥
  IsLeftRead device (Some left) = IsReadAtMost device left

  -- The device that is left if a store was not opened, if there is one. It was at most read, for a hint about its
  -- file.
  abbrev pub IsLeftOnFailure : OpenFailure D → Option D → Type 0
  IsLeftOnFailure (File refusal) left = left ≡ None
  IsLeftOnFailure (Store fault device) left = IsLeftRead device left
  IsLeftOnFailure (FormatFailed fault device) left = left ≡ Some device
