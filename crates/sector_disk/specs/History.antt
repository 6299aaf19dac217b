-- The history of a device of the model: its initial content and its events since. Both a device in memory and a
-- device over a file are seen this way.
use Rattle.std.specs.Prelude.{ℕ, List, length}
use Rattle.sector_disk.specs.Model.{Disk, Event, run, IsImage, MightHaveLeft}

pub record History : Type 0 where
  pub sectors : ℕ
  pub start : Disk
  pub events : List Event
  -- the number of finished writes and syncs
  pub calls : ℕ

-- the device of the model after all events
abbrev pub disk_in : History → Disk
disk_in c = run c.start c.events

abbrev pub seen_in : History → List ℕ
seen_in c = (disk_in c).seen

abbrev pub MayLeaveIn : History → List ℕ → Type 0
MayLeaveIn c image = IsImage c.sectors (disk_in c) image

-- the current moment: the number of events so far
abbrev pub clock_in : History → ℕ
clock_in c = length c.events

abbrev pub MayHaveLeftIn : History → ℕ → ℕ → List ℕ → Type 0
MayHaveLeftIn c from calls image = MightHaveLeft c.sectors c.start c.events c.calls from calls image
