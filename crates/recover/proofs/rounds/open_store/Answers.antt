-- A device in memory opens with the state that its image recovers to, or is refused for a fault of that image.
use Rattle.sector_disk.specs.MemDevice.{memory}
use Rattle.sector_disk.specs.Memory.{clock_of}
use Rattle.recover.proofs.RoundLemmas.{counts_now}
use Rattle.recover.proofs.rounds.open_store.Goals as goal

pub returns-in-Ok-clause-opened : goal.returns-in-Ok-clause-opened
returns-in-Ok-clause-opened c =
    let said = c.in-Ok.ensures in record {
      recovers = said.given tt;
      alone = λ state recovers. said.opens tt state recovers;
      whole = said.whole;
      calls = said.finished;
      faults = said.faults;
      replayed = (c.in-Ok.opened.replayed, said.replays tt);
    }

-- each image belongs to the present moment, and so to a moment of the opening
pub returns-in-Err-clause-refused : goal.returns-in-Err-clause-refused
returns-in-Err-clause-refused c =
    let said = c.in-Err.ensures in
    let left = c.in-Err.device in
    let moments = said.moments tt in record {
      cause = said.refused tt;
      of_load = said.fails;
      images = λ image possible. (moments.each (memory left).calls image (counts_now left (clock_of (memory c.args.device)) image moments.later possible)).1;
      faults = said.faults;
    }
