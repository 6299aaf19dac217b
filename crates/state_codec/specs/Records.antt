-- Reading a command from the start of bytes. Its limits are checked after the whole command is read.
use Rattle.std.specs.Prelude.{ℕ, ◌==◌, List, Ok, Err, if◌then◌else◌}
use Rattle.command_types.specs.declared.commands.Spot.{Spot}
use Rattle.command_types.specs.declared.commands.Command.{Command}
use Rattle.command_types.specs.declared.commands.Command.TheVariants.{Add, Add1, Withdraw, Pin, Unpin, Build, Search, Deviation}
use Rattle.state_codec.specs.declared.version.Version.{Version}
use Rattle.state_codec.specs.declared.fault.CodecFault.TheVariants.{BadField}
use Rattle.state_codec.specs.Bytes.{width}
use Rattle.state_codec.specs.Fields.{◌>>=◌, Field, byte_at, number_at, signed_at}

unfoldable pub spot_at : List ℕ → Field Spot
spot_at bytes = do
  x ← signed_at bytes
  y ← signed_at x.1
  earliest ← number_at 4 y.1
  latest ← number_at 4 earliest.1
  service ← number_at 4 latest.1
  Ok (record { x = x.0; y = y.0; earliest = earliest.0; latest = latest.0; service = service.0 }, service.1)

unfoldable pub add_at : List ℕ → Field Command
add_at bytes = do
  demand ← number_at 4 bytes
  pickup ← spot_at demand.1
  delivery ← spot_at pickup.1
  Ok (Add demand.0 pickup.0 delivery.0, delivery.1)

unfoldable pub add1_at : List ℕ → Field Command
add1_at bytes = do
  demand ← number_at 4 bytes
  spot ← spot_at demand.1
  Ok (Add1 demand.0 spot.0, spot.1)

unfoldable pub withdraw_at : Version → List ℕ → Field Command
withdraw_at v bytes = do
  name ← number_at (width v) bytes
  Ok (Withdraw name.0, name.1)

unfoldable pub pin_at : Version → List ℕ → Field Command
pin_at v bytes = do
  vehicle ← number_at (width v) bytes
  k ← number_at (width v) vehicle.1
  Ok (Pin vehicle.0 k.0, k.1)

unfoldable pub unpin_at : Version → List ℕ → Field Command
unpin_at v bytes = do
  vehicle ← number_at (width v) bytes
  Ok (Unpin vehicle.0, vehicle.1)

unfoldable pub search_at : List ℕ → Field Command
search_at bytes = do
  count ← number_at 2 bytes
  Ok (Search count.0, count.1)

unfoldable pub deviation_at : List ℕ → Field Command
deviation_at bytes = do
  deviation ← number_at 4 bytes
  Ok (Deviation deviation.0, deviation.1)

-- The fields after the kind of a command
abbrev pub fields_at : Version → ℕ → List ℕ → Field Command
fields_at v kind bytes =
    if kind == 1 then add_at bytes else
    if kind == 2 then add1_at bytes else
    if kind == 3 then withdraw_at v bytes else
    if kind == 4 then pin_at v bytes else
    if kind == 5 then unpin_at v bytes else
    if kind == 6 then Ok (Build, bytes) else
    if kind == 7 then search_at bytes else
    if kind == 8 then deviation_at bytes else Err BadField

unfoldable pub command_at : Version → List ℕ → Field Command
command_at v bytes = do
  kind ← byte_at bytes
  fields_at v kind.0 kind.1
