-- System calls combined into reads, writes and syncs of a device.
use Rattle.std.specs.Prelude.{ℕ, ◌+◌, ◌/◌, nat_le, Bool, true, false, ◌&&◌, List, [], ◌∷◌, ◌++◌, length, take, drop, Option, Some, None, is_none, if◌then◌else◌, ◌==◌}
use Rattle.system_calls.specs.declared.system_call.SystemCall.{SystemCall}
use Rattle.system_calls.specs.declared.system_call.SystemCall.TheVariants as call
use Rattle.system_calls.specs.SystemCalls.{RecordedCall, answered}
use Rattle.file_disk.specs.FileRecord.{Entry, ReadGave, ReadFailed, WriteFinished, WriteFailed}
use Rattle.file_disk.specs.FileCalls.{sync_entry}

-- The direction of a transfer.
pub data Direction : Type 0 where
  Reads : Direction
  Writes : Direction

-- A read or a write that has moved some of its bytes: the offset at which it began, the bytes moved so far, and
-- the bytes that are left.
pub record Transfer : Type 0 where
  pub direction : Direction
  pub start : ℕ
  pub moved : List ℕ
  pub left : List ℕ

-- The finished reads, writes and syncs so far, the newest first, and the unfinished transfer.
pub record TransferLog : Type 0 where
  pub entries : List Entry
  pub ongoing : Option Transfer

abbrev pub finished : Direction → ℕ → List ℕ → Entry
finished Reads start bytes = (ReadGave (start / 512), bytes)
finished Writes start bytes = (WriteFinished (start / 512), bytes)

abbrev pub failed : Direction → ℕ → List ℕ → Entry
failed Reads start bytes = (ReadFailed, [])
failed Writes start bytes = (WriteFailed (start / 512), bytes)

abbrev pub is_same : Direction → Direction → Bool
is_same Reads Reads = true
is_same Writes Writes = true
is_same _ _ = false

-- A call of `requested` bytes at this offset requests exactly what the transfer has left.
abbrev pub continues_transfer : Transfer → Direction → ℕ → ℕ → Bool
continues_transfer transfer direction offset requested = is_same transfer.direction direction && (offset == transfer.start + length transfer.moved) && (requested == length transfer.left)

-- A call moved n of the bytes that are left. If these are all, the transfer is finished.
abbrev pub advanced : List Entry → Direction → ℕ → List ℕ → List ℕ → ℕ → TransferLog
advanced entries direction start before bytes n =
    if nat_le (length bytes) n then record { entries = finished direction start (before ++ bytes) ∷ entries; ongoing = None }
    else record { entries = entries; ongoing = Some (record { direction = direction; start = start; moved = before ++ take n bytes; left = drop n bytes }) }

-- A call failed, and its transfer with it.
abbrev pub stopped : List Entry → Direction → ℕ → List ℕ → List ℕ → ℕ → TransferLog
stopped entries direction start before bytes n = record { entries = failed direction start (before ++ bytes) ∷ entries; ongoing = None }

-- The effect of a call on the transfer that it continues or begins. If a call begins another transfer, the
-- unfinished one has failed.
abbrev pub with_ongoing : (List Entry → Direction → ℕ → List ℕ → List ℕ → ℕ → TransferLog) → List Entry → Option Transfer → Direction → ℕ → List ℕ → ℕ → TransferLog
with_ongoing does entries None direction offset bytes n = does entries direction offset [] bytes n
with_ongoing does entries (Some transfer) direction offset bytes n =
    if continues_transfer transfer direction offset (length bytes) then does entries direction transfer.start transfer.moved bytes n
    else does (failed transfer.direction transfer.start (transfer.moved ++ transfer.left) ∷ entries) direction offset [] bytes n

abbrev pub settled : List Entry → Option Transfer → List Entry
settled entries None = entries
settled entries (Some transfer) = failed transfer.direction transfer.start (transfer.moved ++ transfer.left) ∷ entries

abbrev pub after : TransferLog → SystemCall → List ℕ → TransferLog
after reported (call.ReadAt offset moved) bytes = with_ongoing advanced reported.entries reported.ongoing Reads offset bytes moved
after reported (call.ReadAtFailed offset kind) bytes = with_ongoing stopped reported.entries reported.ongoing Reads offset bytes 0
after reported (call.WriteAt offset moved) bytes = with_ongoing advanced reported.entries reported.ongoing Writes offset bytes moved
after reported (call.WriteAtFailed offset kind) bytes = with_ongoing stopped reported.entries reported.ongoing Writes offset bytes 0
after reported (call.SyncData failed) bytes = record { entries = sync_entry (is_none failed) ∷ settled reported.entries reported.ongoing; ongoing = None }
after reported _ bytes = reported

abbrev pub transfers_in : List RecordedCall → TransferLog
transfers_in [] = record { entries = []; ongoing = None }
transfers_in (call ∷ earlier) = after (transfers_in earlier) call.0 call.1

-- The transfers that these calls make. An interrupted call is repeated, and does not count.
abbrev pub transfers_by : List RecordedCall → TransferLog
transfers_by calls = transfers_in (answered calls)
