-- The layout of a store.
use Rattle.std.specs.Prelude.{ℕ, ◌+◌, ◌*◌, ◌%◌}
use Rattle.checkpoint.specs.declared.layouts.Layout.{Layout}
use Rattle.checkpoint.specs.declared.layouts.TheConstants.{LAST_SEQUENCE, RECORDS}

-- the store of the current version, 8,450 sectors
abbrev pub version_2 : Layout
version_2 = record { version = 2; half = 4096 }

-- the store of version 1, 802 sectors
abbrev pub version_1 : Layout
version_1 = record { version = 1; half = 272 }

-- the number of records that a journal has room for
abbrev pub journal_room : ℕ
journal_room = RECORDS

-- the number of sectors before the halves: two headers and the records
abbrev pub prefix_sectors : ℕ
prefix_sectors = 2 + journal_room

-- the last sequence
abbrev pub last_sequence : ℕ
last_sequence = LAST_SEQUENCE

-- the number of sectors of a store: two headers, the records and two halves
abbrev pub sectors_in : Layout → ℕ
sectors_in layout = prefix_sectors + 2 * layout.half

-- the first sector of the half for a sequence
abbrev pub half_at : Layout → ℕ → ℕ
half_at layout sequence = prefix_sectors + layout.half * (sequence % 2)

-- the number of sectors of the smallest store of any version
abbrev pub min_sectors : ℕ
min_sectors = sectors_in version_1
