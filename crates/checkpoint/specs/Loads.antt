-- The result of reading a store.
use Rattle.std.specs.Prelude.{◌≡◌, ◌<◌, Result, IfOk, IfErr, IsErrOf, MatchResult}
use Rattle.sector_disk.specs.declared.sectors.Sectors as sectors
use Rattle.state_codec.specs.declared.version.Version.{Version}
use Rattle.checkpoint.specs.declared.faults.StoreFault.{StoreFault}
use Rattle.checkpoint.specs.declared.faults.StoreFault.TheVariants.{NotFormatted}
use Rattle.checkpoint.specs.declared.loads.Loaded.{Loaded}
use Rattle.checkpoint.specs.Holds.{Holds, layout_of}
use Rattle.checkpoint.specs.InvalidImages.{HoldsNothing, IsLoadFault, UnlessReadFailed}
use Rattle.checkpoint.specs.Layouts.{min_sectors, sectors_in}
use Rattle.checkpoint.specs.Reads.{IsWellFormedLoad}

module _ {D : Type 0} (on : sectors.Ghosts D) where
  -- The result for the image that reads return: its content or its fault, unless memory ran out or the device
  -- failed. The device was only read.
  pub record ReportsStore {T : Type 0} (IsWellFormed Is : T → Type 0) (none : StoreFault → Type 0) (result : Result T StoreFault) (old new : D) : Type 0 where
    -- A device smaller than any store is not called.
    pub small : on.len old < min_sectors → (new ≡ old) × IsErrOf result NotFormatted
    pub fails : IfErr result IsLoadFault
    -- A returned content has this property, whatever the device answers.
    pub well_formed : IfOk result IsWellFormed
    pub found : on.honest new → MatchResult result Is (UnlessReadFailed none)

  -- The result of `load` for a store of this version.
  abbrev pub IsLoaded : Version → Result Loaded StoreFault → D → D → Type 0
  IsLoaded version result old new = ReportsStore (λ loaded. IsWellFormedLoad (sectors_in (layout_of version)) (on.len old) loaded.state loaded.place)
      (λ loaded. Holds version (on.seen old) loaded.state loaded.commands.items loaded.place) (HoldsNothing version (on.seen old)) result old new
