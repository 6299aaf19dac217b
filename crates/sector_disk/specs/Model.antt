-- The model of a device with any number of sectors.
use Rattle.std.specs.Prelude.{◌≡◌, ℕ, ◌+◌, ◌*◌, ◌<◌, ◌≤◌, List, [], ◌∷◌, ◌++◌, length, take, drop, if◌then◌else◌, ◌==◌}
use Rattle.std.specs.List.{Contains}
use Rattle.std.proofs.Common.{zero, suc}
use Rattle.sector_disk.specs.Image.{sector, written}

-- The image that reads return, and the possible contents of each sector: first the content of the last
-- successful sync, then those written to it since, in order.
pub record Disk : Type 0 where
  pub seen : List ℕ
  pub contents : ℕ → List (List ℕ)

-- One written sector, a finished write, a successful sync, and a failed write or sync after which reads return
-- this image.
pub data Event : Type 0 where
  Sector : ℕ → List ℕ → Event
  Finish : ℕ → List ℕ → Event
  Sync : Event
  Show : List ℕ → Event

-- The device after a successful sync, or after a crash that left this image: it is the only possible one.
abbrev pub settled : List ℕ → Disk
settled image = record { seen = image; contents = λ i. sector i image ∷ [] }

-- A written sector gains a possible content and loses none. Reads return what a finished write wrote. A failed
-- write has written some sectors and does not finish. A failed sync changes no content.
abbrev pub next : Disk → Event → Disk
next disk (Sector i content) = record disk { contents = λ j. if i == j then disk.contents j ++ content ∷ [] else disk.contents j }
next disk (Finish first bytes) = record disk { seen = written first bytes disk.seen }
next disk Sync = settled disk.seen
next disk (Show image) = record disk { seen = image }

-- The device after these events, in order.
abbrev pub run : Disk → List Event → Disk
run disk [] = disk
run disk (event ∷ events) = run (next disk event) events

-- An image of a device of n sectors: one of the possible contents for each sector, chosen independently. A
-- crash picks one image.
pub record IsImage (n : ℕ) (disk : Disk) (image : List ℕ) : Type 0 where
  pub size : length image ≡ 512 * n
  pub each : (i : ℕ) → i < n → Contains (disk.contents i) (sector i image)

-- A crash leaves one of the images, which is then the only one.
abbrev pub CrashesTo : ℕ → Disk → Disk → Type 0
CrashesTo n old new = (image : List ℕ) × IsImage n old image × (new ≡ settled image)

-- The events of writing the first n sectors of these bytes, one after another, from sector `first` on.
abbrev pub sectors_from : ℕ → List ℕ → ℕ → List Event
sectors_from first bytes zero = []
sectors_from first bytes (suc n) = Sector first (take 512 bytes) ∷ sectors_from (suc first) (drop 512 bytes) n

-- The number of finished writes and syncs.
abbrev pub finished : List Event → ℕ
finished [] = 0
finished (Sector i content ∷ events) = finished events
finished (Finish first bytes ∷ events) = suc (finished events)
finished (Sync ∷ events) = suc (finished events)
finished (Show image ∷ events) = finished events

-- The moments of a device are numbered: one before the first event, one after the last, and one between any two
-- consecutive events. `calls` calls have finished after the last event. A crash at some moment from number
-- `from` on, with m calls finished by then, might have left this image.
pub record MightHaveLeft (n : ℕ) (start : Disk) (events : List Event) (calls from m : ℕ) (image : List ℕ) : Type 0 where
  pub moment : ℕ
  pub begun : from ≤ moment
  pub reached : moment ≤ length events
  pub count : m + finished (drop moment events) ≡ calls
  pub is_image : IsImage n (run start (take moment events)) image
