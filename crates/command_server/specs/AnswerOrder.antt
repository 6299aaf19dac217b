-- The order of answers and operations: an answer is written only after what it reports.
use Rattle.std.specs.Prelude.{◌≡◌, ◌≤◌, ℕ, List, ◌++◌, length, Result, ⊤}
use Rattle.std.specs.List.{AllByRecursion}
use Rattle.command_text.specs.Answering.{Fate, pieces_reply}
use Rattle.command_text.specs.Cutting.{pieces_of}
use Rattle.command_text.specs.Readings.{Reading}
use Rattle.recover.specs.Replies.{acknowledged_count}
use Rattle.recover.specs.Sessions.{SessionValue}
use Rattle.sector_disk.specs.declared.sectors.Sectors as sectors
use Rattle.command_server.specs.Acts.{Act, IsPrefixOf, executed_of, fates_of, replies_of}
use Rattle.command_server.specs.ServeContract.{Begins, EndsOrIsCut, as_server_state}
use Rattle.command_server.specs.CrashRecovery.{acts_of, requested_by}
use Rattle.command_server.specs.Streams.{Event, Flushed, Put, Stream, put_by}
use Rattle.command_server.specs.declared.answering.ServeFault.{ServeFault}

-- The number of device calls that had finished at an event.
abbrev pub calls_at : Event → ℕ
calls_at (Put calls text) = calls
calls_at (Flushed calls) = calls

-- The text reports only operations that are acknowledged when m calls have finished. It depends only on the first
-- acts: whatever the fates of later attempts, it is a prefix of the answers, and the operations that these acts
-- executed are a prefix of those executed. The input requests these operations first.
pub record ReportsAcknowledged {D : Type 0} (reading : Reading) (old : SessionValue D) (input : List ℕ) (acts : List Act) (m : ℕ) (text : List ℕ) : Type 0 where
  pub first : List Act
  pub begins : IsPrefixOf first acts
  pub reports : (later : List Fate) → Begins text first (pieces_reply reading (as_server_state old (fates_of first ++ later)) (pieces_of input))
  pub requested : IsPrefixOf (executed_of first) (requested_by reading old (pieces_of input) acts)
  pub acknowledged : length (executed_of first) ≤ acknowledged_count m (replies_of acts)

module _ {D : Type 0} (on : sectors.Ghosts D) where
  -- Law: for each prefix of the events at the sink, while at most m calls had finished, the text that was written
  -- reports only operations that are acknowledged by then. Flushed text was written before, so the law also
  -- covers it.
  abbrev pub AnswersComeAfter : Type 0
  AnswersComeAfter = (reading : Reading) (old new : SessionValue D) (input : List ℕ) (before after_it : Stream) (r : Result ⊤ ServeFault) (m : ℕ) (events others : List Event)
      → (served : EndsOrIsCut on r reading old input before after_it new) → after_it.events ≡ before.events ++ (events ++ others) → AllByRecursion (λ event. calls_at event ≤ m) events
      → ReportsAcknowledged reading old input (acts_of on r reading old input before after_it new served) m (put_by events)
