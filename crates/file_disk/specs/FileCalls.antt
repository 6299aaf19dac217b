-- The entry that a file's call adds to its record.
use Rattle.std.specs.Prelude.{ℕ, Bool, List, [], if◌then◌else◌}
use Rattle.file_disk.specs.FileRecord.{ReadGave, ReadFailed, WriteFinished, WriteFailed, SyncFinished, SyncFailed, Entry}

abbrev pub read_entry : Bool → ℕ → List ℕ → Entry
read_entry ok first bytes = if ok then (ReadGave first, bytes) else (ReadFailed, [])

abbrev pub write_entry : Bool → ℕ → List ℕ → Entry
write_entry ok first bytes = (if ok then WriteFinished first else WriteFailed first, bytes)

abbrev pub sync_entry : Bool → Entry
sync_entry ok = (if ok then SyncFinished else SyncFailed, [])
