-- The subcommand `run`: it opens a store, prints how many search steps were replayed, and serves the input over
-- the store.
use Rattle.std.specs.Prelude.{◌≡◌, ◌⊎◌, ℕ, ◌||◌, ◌^◌, Bool, true, false, List, [], ◌++◌, length, codes, decimal, Option, Some, None, Result, Ok, Err, IfErr, OnOk, ⊤}
use Rattle.std.specs.Io.KnownBytes.{Appends}
use Rattle.checkpoint.specs.declared.faults.StoreFault.{StoreFault}
use Rattle.command_server.specs.ServeContract.{EndsOrIsCut, HasCause, IsTaken}
use Rattle.command_server.specs.CrashRecovery.{RunsLeave}
use Rattle.command_server.specs.Streams.{Extends, InputRecord, IsInput, Stream}
use Rattle.command_server.specs.Strict.{ReportsLast, is_failed_answer}
use Rattle.command_server.specs.declared.answering.ServeFault.{ServeFault}
use Rattle.command_server.specs.declared.answering.ServeFault.TheVariants as serve
use Rattle.command_server.specs.declared.strict.FailedAnswer.{FailedAnswer}
use Rattle.command_server.specs.declared.strict.FailedAnswer.TheVariants as stop
use Rattle.command_text.specs.Readings.{IsReading, Reading}
use Rattle.command_text.specs.Answers.{line}
use Rattle.planner_cli.specs.StoreDevices.{IsLeftRead}
use Rattle.planner_cli.specs.Messages.{PrintsFileFault, store_fault_line, store_fault_status}
use Rattle.recover.specs.Opening.{IsOpened, IsRefused}
use Rattle.recover.specs.Sessions.{SessionValue}
use Rattle.file_disk.specs.DeviceFiles.{IsNotOpenedExistingAt}
use Rattle.file_disk.specs.declared.file_device.OpenError.{OpenError}
use Rattle.sector_disk.specs.declared.sectors.Sectors as sectors

-- Either the input was served to its end, and fewer than 10^12 bytes of it were taken. Or serving was cut short
-- by a fault that has its cause. `serve_source` specifies both.
pub record Serves {D : Type 0} (on : sectors.Ghosts D) (served : Result ⊤ ServeFault) (old : SessionValue D) (input : List ℕ) (before after : Stream)
    (reader_failed writer_failed : Bool) (new : SessionValue D) : Type 0 where
  pub serves : (reading : Reading) → IsReading reading → EndsOrIsCut on served reading old input before after new
  pub cause : IfErr served (λ fault. HasCause fault reader_failed writer_failed (length input))
  pub most : OnOk served (IsTaken (10 ^ 12) input)

-- The line that is printed after the answers: `cannot read input` if that is so, and otherwise none.
abbrev pub serve_result_line : {T : Type 0} → Result T ServeFault → List ℕ
serve_result_line (Ok done) = []
serve_result_line (Err serve.ReadFault) = line (codes "cannot read input")
serve_result_line (Err serve.WriteFault) = []

-- The exit status of a run: 0, or 3 if the input can't be read or an answer can't be written.
abbrev pub serve_result_status : {T : Type 0} → Result T ServeFault → ℕ
serve_result_status (Ok done) = 0
serve_result_status (Err serve.ReadFault) = 3
serve_result_status (Err serve.WriteFault) = 3

-- The line after the answers is printed, if there is one, and `status` is the exit status.
abbrev pub PrintsServeResult : {T : Type 0} → Result T ServeFault → Option (List ℕ) → Option (List ℕ) → ℕ → Type 0
PrintsServeResult served before after status = (status ≡ serve_result_status served) × Appends before after (serve_result_line served)

-- The line with the reason why a store was not opened is printed, and `status` is its exit status.
abbrev pub PrintsStoreFault : StoreFault → Option (List ℕ) → Option (List ℕ) → ℕ → Type 0
PrintsStoreFault fault before after status = (status ≡ store_fault_status fault) × Appends before after (store_fault_line fault)

-- The line `opened N`, with the number of search steps that were replayed.
abbrev pub opened_line : ℕ → List ℕ
opened_line replayed = line (codes "opened " ++ decimal replayed)

-- The failure that ended a strict run, or `None` if the writer itself has failed.
abbrev pub stop_unless_failed : Bool → Option FailedAnswer → Option FailedAnswer
stop_unless_failed true reported = None
stop_unless_failed false reported = reported

-- An input was served; in a strict run, up to the answer that reports the failure `failed_answer`. `given` says
-- what is known about the input. Recovery from a crash at any moment meanwhile is as `RunsLeave` says.
pub record IsInputServed {D : Type 0} (on : sectors.Ghosts D) (old : SessionValue D) (is_strict : Bool) (given : InputRecord) (opened : Stream)
    (served : Result ⊤ ServeFault) (failed_answer : Option FailedAnswer) (answered : Stream) (reader_failed writer_failed : Bool) (new : SessionValue D) : Type 0 where
  pub serves : (input : List ℕ) → IsInput given input → Serves on served old input opened answered reader_failed (writer_failed || is_failed_answer failed_answer) new
  pub plain : is_strict ≡ false → failed_answer ≡ None
  pub moments : RunsLeave on old new
  -- In a strict run whose writer has not failed: the failure that the last complete line of the answers reports,
  -- if any. No line that was flushed before it reports one.
  pub last : is_strict ≡ true → writer_failed ≡ false → ReportsLast opened answered failed_answer

-- The end of a run. If a strict run ended at an answer, nothing more is printed. The exit status is then 1 for a
-- refusal, and 3 for a failed device.
abbrev pub PrintsServeEnd : {T : Type 0} → Result T ServeFault → Option FailedAnswer → Option (List ℕ) → Option (List ℕ) → ℕ → Type 0
PrintsServeEnd served None before after status = PrintsServeResult served before after status
PrintsServeEnd served (Some stop.Refused) before after status = (status ≡ 1) × Appends before after []
PrintsServeEnd served (Some stop.DeviceFault) before after status = (status ≡ 3) × Appends before after []

-- An input was served over an opened session, completely or in part. The line with the number of replayed steps
-- was written first, then the answers, and nothing else to the output before the end.
pub record ServesSession {D : Type 0} (on : sectors.Ghosts D) (old : SessionValue D) (replayed : ℕ) (is_strict : Bool) (given : InputRecord) (before after : Stream)
    (reader_failed writer_failed : Bool) (new : SessionValue D) : Type 0 where
  pub opened : Stream
  pub prints_opened : Extends before opened [] (opened_line replayed)
  pub served : Result ⊤ ServeFault
  pub failed_answer : Option FailedAnswer
  pub answered : Stream
  pub ends : IsInputServed on old is_strict given opened served failed_answer answered reader_failed writer_failed new
  pub noted : after.events ≡ answered.events

-- An input was served over an opened session. If the input can't be read to its end, a line after the answers
-- says so.
pub record RunsSession {D : Type 0} (on : sectors.Ghosts D) (old : SessionValue D) (replayed : ℕ) (is_strict : Bool) (given : InputRecord) (before after : Stream)
    (reader_failed writer_failed : Bool) (status : ℕ) : Type 0 where
  pub new : SessionValue D
  pub serves : ServesSession on old replayed is_strict given before after reader_failed writer_failed new
  pub tells : PrintsServeEnd serves.served serves.failed_answer serves.answered.contents after.contents status

-- The input was not read, and nothing was written to the output.
pub record IsUntouched (given : InputRecord) (before after : Stream) : Type 0 where
  pub reads : given.after ≡ given.before
  pub events : after.events ≡ before.events

module _ {D : Type 0} (on : sectors.Ghosts D) where
  -- Opening the device returned a session, for which `OnOpened` holds; or it was refused, and `OnRefused` holds
  -- for the device afterwards and the fault.
  abbrev pub OpensDevice : D → (SessionValue D → ℕ → Type 0) → (D → StoreFault → Type 0) → Type 0
  OpensDevice device OnOpened OnRefused =
      ((session : SessionValue D) × (replayed : ℕ) × IsOpened on device session replayed × OnOpened session replayed)
      ⊎ ((fault : StoreFault) × (later : D) × IsRefused on device later fault × OnRefused later fault)

  -- The store on the device is opened and the input is served over it, or the reason why it can't be opened is
  -- printed.
  abbrev pub RunsDevice : D → Bool → InputRecord → Stream → Stream → Bool → Bool → ℕ → Type 0
  RunsDevice device is_strict given before after reader_failed writer_failed status =
      OpensDevice device (λ session replayed. RunsSession on session replayed is_strict given before after reader_failed writer_failed status)
      (λ later fault. PrintsStoreFault fault before.contents after.contents status)

  -- The store in the file at a path is opened and the input is served over it, or the reason why that failed is
  -- printed. `IsOld` says what is known about the device over the file.
  abbrev pub RunsStore : (List ℕ → D → Type 0) → List ℕ → Bool → InputRecord → Stream → Stream → Bool → Bool → ℕ → Type 0
  RunsStore IsOld path is_strict given before after reader_failed writer_failed status =
      ((device : D) × IsOld path device × RunsDevice device is_strict given before after reader_failed writer_failed status)
      ⊎ ((refusal : OpenError) × IsNotOpenedExistingAt path refusal × PrintsFileFault path refusal.fault before.contents after.contents status)

  -- For every result: the input was served over the session and `new` is the session afterwards, or neither the
  -- session nor a stream was touched.
  abbrev pub ServesOver : SessionValue D → ℕ → Bool → InputRecord → Stream → Stream → Bool → Bool → SessionValue D → Type 0
  ServesOver session replayed is_strict given before after reader_failed writer_failed new =
      ServesSession on session replayed is_strict given before after reader_failed writer_failed new ⊎ ((new ≡ session) × IsUntouched given before after)

  -- For every result: the device was opened, and `left` is the device afterwards. No call on it follows.
  abbrev pub ServesDevice : D → Bool → InputRecord → Stream → Stream → Bool → Bool → Option D → Type 0
  ServesDevice device is_strict given before after reader_failed writer_failed left =
      OpensDevice device (λ session replayed. (new : SessionValue D) × (left ≡ Some new.device) × ServesOver session replayed is_strict given before after reader_failed writer_failed new)
      (λ later fault. IsLeftRead on later left × IsUntouched given before after)

  -- For every result: the device over the file at a path was opened, and `left` is the device afterwards; or
  -- there was none, and nothing was read or written.
  abbrev pub ServesStore : (List ℕ → D → Type 0) → List ℕ → Bool → InputRecord → Stream → Stream → Bool → Bool → Option D → Type 0
  ServesStore IsOld path is_strict given before after reader_failed writer_failed left =
      ((device : D) × IsOld path device × ServesDevice device is_strict given before after reader_failed writer_failed left)
      ⊎ ((refusal : OpenError) × IsNotOpenedExistingAt path refusal × (left ≡ None) × IsUntouched given before after)
