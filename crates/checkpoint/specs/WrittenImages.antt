-- The sectors and bytes that a change of a store writes: the image after the change, from the image before it.
-- All other sectors are unchanged.
use Rattle.std.specs.Prelude.{ℕ, ◌+◌, ◌-◌, ◌*◌, ◌%◌, List, ◌++◌, length, replicate}
use Rattle.command_types.specs.declared.commands.Command.{Command}
use Rattle.command_types.specs.declared.states.State.{State}
use Rattle.sector_disk.specs.Image.{written}
use Rattle.state_codec.specs.Bytes.{state_bytes, record_bytes}
use Rattle.state_codec.specs.declared.version.Version.TheVariants.{Two}
use Rattle.checkpoint.specs.declared.headers.Header.{Header}
use Rattle.checkpoint.specs.declared.places.Place.{Place}
use Rattle.checkpoint.specs.Layouts.{version_2, prefix_sectors, half_at}
use Rattle.checkpoint.specs.Headers.{header_bytes}

-- the first sector of the half for a header's snapshot
abbrev pub half_of : Header → ℕ
half_of header = half_at version_2 header.sequence

-- the first header of a store
abbrev pub first_header : ℕ → Header
first_header size = record { sequence = 1; length = size }

-- an image with a snapshot in its half; below, `with_both` also adds its header
abbrev pub with_snapshot : Header → List ℕ → List ℕ → List ℕ
with_snapshot header bytes image = written (half_of header) bytes image

abbrev pub with_header : Header → List ℕ → List ℕ
with_header header image = written (header.sequence % 2) (header_bytes 2 header) image

abbrev pub with_both : Header → List ℕ → List ℕ → List ℕ
with_both header bytes image = with_header header (with_snapshot header bytes image)

-- the bytes, padded with zeros to whole sectors
abbrev pub to_whole_sectors : List ℕ → List ℕ
to_whole_sectors bytes = bytes ++ replicate ((512 - length bytes % 512) % 512) 0

-- an image with the snapshot of a state under this sequence: its padded bytes, and a header with their length
abbrev pub with_state : ℕ → State → List ℕ → List ℕ
with_state sequence state image = with_both (record { sequence = sequence; length = length (state_bytes Two state) }) (to_whole_sectors (state_bytes Two state)) image

-- an image with a record of the command after the end of the journal
abbrev pub with_record : Place → Command → List ℕ → List ℕ
with_record place command image = written (2 + place.used) (record_bytes Two place.sequence place.used command) image

-- the number of bytes of the two headers and the 256 records
unfoldable pub prefix_size : ℕ
prefix_size = 512 * prefix_sectors

-- zeros over the headers and the records
abbrev pub with_zeros : List ℕ → List ℕ
with_zeros image = written 0 (replicate prefix_size 0) image
