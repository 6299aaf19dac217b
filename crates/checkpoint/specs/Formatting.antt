-- The result of formatting a device, and the guarantees for an honest one.
use Rattle.std.specs.Prelude.{◌≡◌, ◌↔◌, ℕ, ◌<◌, List, Result, OnOk, IfOk, IfErr, IsErrOf}
use Rattle.sector_disk.specs.declared.sectors.Sectors as sectors
use Rattle.sector_disk.specs.Sectors.{Only, more}
use Rattle.sector_disk.specs.Calls.{Calls, Each, During}
use Rattle.checkpoint.specs.declared.faults.FormatFault.{FormatFault}
use Rattle.checkpoint.specs.declared.faults.FormatFault.TheVariants.{TooSmall}
use Rattle.checkpoint.specs.declared.places.Place.{Place}
use Rattle.checkpoint.specs.Layouts.{version_2, sectors_in}
use Rattle.checkpoint.specs.Moments.{IsInFormat}
use Rattle.checkpoint.specs.Places.{first_place}
use Rattle.checkpoint.specs.Refusals.{OnCalls, IsKeptByFormat, faults_after_format}
use Rattle.checkpoint.specs.Stores.{IsUnformatted}

module _ {D : Type 0} (on : sectors.Ghosts D) where
  -- If the device was called: from the second finished call on, each image at each moment has no store or has
  -- Y, as `IsInFormat` says. Nothing is claimed about the moments before. After Ok each image has Y, and is
  -- `written`.
  pub record Formats {T : Type 0} (result : Result T FormatFault) (Y : List ℕ → Type 0) (written : List ℕ) (old new : D) : Type 0 where
    pub moments : OnCalls result (During on old new (IsInFormat (IsUnformatted version_2) Y))
    pub after : OnOk result (Each on new Y)
    pub durable : OnOk result (Only written (on.possible new))

  -- All guarantees of `format`, for a new store that has Y.
  pub record FormatsStore (Y : List ℕ → Type 0) (written : List ℕ) (result : Result Place FormatFault) (old new : D) : Type 0 where
    pub place : IfOk result (λ place. place ≡ first_place)
    pub too_small : IsErrOf result TooSmall ↔ (on.len old < sectors_in version_2)
    pub kept : IfErr result (λ fault. IsKeptByFormat fault old new)
    pub called : Calls on (more result 6) (faults_after_format result) old new
    pub formats : on.honest new → Formats result Y written old new
