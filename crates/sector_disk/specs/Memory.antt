-- A device in memory, as its callers see it: the list of its writes and syncs since it was created or last
-- crashed.
use Rattle.std.specs.Prelude.{
  ◌≡◌,
  ◌⊎◌,
  ◌↔◌,
  ℕ,
  ◌+◌,
  ◌-◌,
  ◌*◌,
  ◌/◌,
  ◌%◌,
  ◌^◌,
  ◌<◌,
  min,
  Bool,
  true,
  false,
  not,
  ◌&&◌,
  ◌||◌,
  nat_lt,
  nat_le,
  List,
  [],
  ◌∷◌,
  ◌++◌,
  length,
  Option,
  Some,
  None,
  Result,
  is_ok,
  if◌then◌else◌,
  ◌==◌,
  replicate,
  slice_index_or,
}
use Rattle.std.specs.List.{flat_map, list_all}
use Rattle.sector_disk.specs.Image.{sector}
use Rattle.sector_disk.specs.Sectors.{SameImages}
use Rattle.sector_disk.specs.Model.{Disk, Event, Finish, Sync, settled, sectors_from}
use Rattle.sector_disk.specs.History.{History, disk_in, seen_in, MayLeaveIn, clock_in, MayHaveLeftIn}

-- A finished write, a failed write that may have reached its sectors, and a successful sync.
pub data Call : Type 0 where
  Wrote : ℕ → List ℕ → Call
  Tore : ℕ → List ℕ → Call
  Synced : Call

pub record Memory : Type 0 where
  -- The content when the device was created or last crashed.
  pub start : List ℕ
  -- The writes and syncs since.
  pub history : List Call
  pub calls : ℕ
  pub faults : ℕ
  -- The number of writes and syncs that still finish before every call fails.
  pub fuse : Option ℕ
  -- Whether a write has failed by the fuse.
  pub torn : Bool
  -- The number of calls that still come before the single one that fails.
  pub once : Option ℕ

-- The events of a call, sector by sector.
abbrev pub events_of : Call → List Event
events_of (Wrote first bytes) = sectors_from first bytes (length bytes / 512) ++ Finish first bytes ∷ []
events_of (Tore first bytes) = sectors_from first bytes (length bytes / 512)
events_of Synced = Sync ∷ []

abbrev pub events : Memory → List Event
events m = flat_map events_of m.history

abbrev pub len_of : Memory → ℕ
len_of m = length m.start / 512

abbrev pub history_of : Memory → History
history_of m = record { sectors = len_of m; start = settled m.start; events = events m; calls = m.calls }

abbrev pub disk_of : Memory → Disk
disk_of m = disk_in (history_of m)

abbrev pub seen_of : Memory → List ℕ
seen_of m = seen_in (history_of m)

abbrev pub MayLeave : Memory → List ℕ → Type 0
MayLeave m image = MayLeaveIn (history_of m) image

abbrev pub clock_of : Memory → ℕ
clock_of m = clock_in (history_of m)

abbrev pub MayHaveLeft : Memory → ℕ → ℕ → List ℕ → Type 0
MayHaveLeft m from calls image = MayHaveLeftIn (history_of m) from calls image

-- A run of one or more whole sectors inside a device of this many bytes.
abbrev pub is_run : ℕ → ℕ → ℕ → Bool
is_run size first n = nat_lt 0 n && (n % 512 == 0) && nat_le (512 * first + n) size

abbrev pub fits : ℕ → Call → Bool
fits size (Wrote first bytes) = is_run size first (length bytes)
fits size (Tore first bytes) = is_run size first (length bytes)
fits size Synced = true

abbrev pub all_fit : ℕ → List Call → Bool
all_fit size calls = list_all (fits size) calls

-- A new device of zeros.
abbrev pub fresh : ℕ → Memory
fresh sectors = record { start = replicate (512 * sectors) 0; history = []; calls = 0; faults = 0; fuse = None; torn = false; once = None }

abbrev pub is_now : Option ℕ → Bool
is_now None = false
is_now (Some k) = k == 0

-- The fuse after one more finished call.
abbrev pub one_less : Option ℕ → Option ℕ
one_less None = None
one_less (Some k) = Some (k - 1)

-- The count until the single call that fails, after one more call; None after the call that fails.
abbrev pub one_less_or_none : Option ℕ → Option ℕ
one_less_or_none None = None
one_less_or_none (Some k) = if k == 0 then None else Some (k - 1)

-- The next call fails.
abbrev pub is_due : Memory → Bool
is_due m = is_now m.once || is_now m.fuse

-- The next call fails if it is a write or a sync. Unlike `is_due`, this includes a device whose `calls` has
-- reached 2^64-1.
abbrev pub is_refused : Memory → Bool
is_refused m = is_due m || m.calls == 2 ^ 64 - 1

-- A crash may leave the contents of a write that fails now. With a fuse this holds only for the first failed
-- write.
abbrev pub tears : Memory → Bool
tears m = is_now m.once || (is_now m.fuse && not m.torn)

-- One more failed call, and no other change.
abbrev pub with_fault : Memory → Memory
with_fault m = record m { faults = min (m.faults + 1) (2 ^ 64 - 1) }

-- The answer of a call, and the device after it.
pub record Outcome : Type 0 where
  pub ok : Bool
  pub state : Memory

-- A call that fails and does not change its sectors.
abbrev pub failed : Memory → Outcome
failed m = record { ok = false; state = record (with_fault m) { once = one_less_or_none m.once } }

-- A write or a sync that finishes.
abbrev pub done : Memory → Call → Outcome
done m call =
    record { ok = true; state = record m { history = m.history ++ call ∷ []; calls = m.calls + 1; fuse = one_less m.fuse; once = one_less_or_none m.once } }

abbrev pub read_of : Memory → Outcome
read_of m = if is_due m then failed m else record { ok = true; state = record m { once = one_less_or_none m.once } }

-- A write that fails, and whose contents a crash may leave.
abbrev pub torn_by : Memory → Call → Outcome
torn_by m call =
    record { ok = false; state = record (with_fault m) { history = m.history ++ call ∷ []; torn = m.torn || is_now m.fuse; once = one_less_or_none m.once } }

abbrev pub write_of : Memory → ℕ → List ℕ → Outcome
write_of m first bytes =
    if is_refused m then (if tears m then torn_by m (Tore first bytes) else failed m) else done m (Wrote first bytes)

abbrev pub sync_of : Memory → Outcome
sync_of m = if is_refused m then failed m else done m Synced

-- A call gave this answer and left this device.
abbrev pub HasOutcome : {T E : Type 0} → Outcome → Result T E → Memory → Type 0
HasOutcome outcome result new = (is_ok result ≡ outcome.ok) × (new ≡ outcome.state)

-- The call had this outcome, or it ran out of memory: then it failed, and changed nothing but the number of
-- failed calls.
abbrev pub HasOutcomeOrNoMemory : {T E : Type 0} → Memory → Outcome → Result T E → Memory → Type 0
HasOutcomeOrNoMemory old outcome result new = HasOutcome outcome result new ⊎ ((is_ok result ≡ false) × (new ≡ with_fault old))

-- The length and both counts are unchanged.
pub record KeepsCounts (old new : Memory) : Type 0 where
  pub len : len_of new ≡ len_of old
  pub calls : new.calls ≡ old.calls
  pub faults : new.faults ≡ old.faults

-- The device is the same for its callers: its contents, moments and counts are unchanged.
pub record IsSameDevice (old new : Memory) : Type 0 where
  pub len : len_of new ≡ len_of old
  pub calls : new.calls ≡ old.calls
  pub faults : new.faults ≡ old.faults
  pub seen : seen_of new ≡ seen_of old
  pub images : SameImages (MayLeave old) (MayLeave new)
  pub clock : clock_of new ≡ clock_of old
  pub moments : (from calls : ℕ) (image : List ℕ) → MayHaveLeft new from calls image ↔ MayHaveLeft old from calls image

-- Each of n sectors has one of its possible contents: the one with the chosen number, modulo how many there
-- are.
abbrev pub TakesChoices : ℕ → Disk → (ℕ → ℕ) → List ℕ → Type 0
TakesChoices n disk choices image =
    (i : ℕ) → i < n → (let contents = disk.contents i in sector i image ≡ slice_index_or contents (choices i % length contents) [])

-- A crash leaves the chosen image, does not change the counts, and removes fuse and `fail_once`.
pub record Crashes (choices : ℕ → ℕ) (old new : Memory) : Type 0 where
  pub size : length new.start ≡ length old.start
  pub each : TakesChoices (len_of old) (disk_of old) choices new.start
  pub rest : new ≡ record old { start = new.start; history = []; fuse = None; torn = false; once = None }
