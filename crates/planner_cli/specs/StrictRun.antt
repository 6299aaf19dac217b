-- The end of a strict run: nothing was done after the answer that ended it.
use Rattle.std.specs.Prelude.{◌≡◌, ℕ, List, Bool, true, false, Some, Result, ⊤}
use Rattle.command_server.specs.Ending.{EndsAtAnswer}
use Rattle.command_server.specs.CrashRecovery.{acts_of}
use Rattle.command_server.specs.Streams.{InputRecord, IsInput, Stream, put_by}
use Rattle.command_server.specs.declared.answering.ServeFault.{ServeFault}
use Rattle.command_server.specs.declared.strict.FailedAnswer.{FailedAnswer}
use Rattle.command_text.specs.Cutting.{pieces_of}
use Rattle.command_text.specs.Readings.{IsReading, Reading}
use Rattle.planner_cli.specs.Run.{IsInputServed}
use Rattle.recover.specs.Sessions.{SessionValue}
use Rattle.sector_disk.specs.declared.sectors.Sectors as sectors

module _ {D : Type 0} (on : sectors.Ghosts D) where
  -- Law: if a strict run ended at an answer and its output had not failed, nothing was executed after the command
  -- that this answer reports.
  abbrev pub StrictRunsEnd : Type 0
  StrictRunsEnd = (old new : SessionValue D) (is_strict : Bool) (given : InputRecord) (opened answered : Stream) (served : Result ⊤ ServeFault) (why : FailedAnswer)
      (reader_failed writer_failed : Bool) (input : List ℕ) (reading : Reading)
      → (ended : IsInputServed on old is_strict given opened served (Some why) answered reader_failed writer_failed new)
      → (strict : is_strict ≡ true) → (whole : writer_failed ≡ false) → (known : IsInput given input) → (is : IsReading reading)
      → EndsAtAnswer reading old (pieces_of input) (acts_of on served reading old input opened answered new ((ended.serves input known).serves reading is))
      (put_by (ended.last strict whole).events) new
