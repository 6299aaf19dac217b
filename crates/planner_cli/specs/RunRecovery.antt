-- The main law of `run`. Let it crash at any moment since the device was passed to it, whatever the device
-- keeps. Opening the device then recovers the state after a prefix of the kept commands, with every
-- acknowledged command and at most one more. The kept commands are those executed, and the one during which the
-- device failed, if any. They are a prefix of those that the input requests. The plan of that state passes the
-- audit, and it costs no more than any incumbent since the last change of requests or pins.
use Rattle.std.specs.Prelude.{◌≡◌, ◌≤◌, ℕ, Bool, List, [], ◌∷◌, ◌++◌, length, Result}
use Rattle.std.specs.List.{AllByRecursion}
use Rattle.checkpoint.specs.declared.faults.StoreFault.{StoreFault}
use Rattle.command_types.specs.declared.states.State.{State}
use Rattle.command_server.specs.Acts.{Act, IsPrefixOf, executed_of, kept_of, replies_of}
use Rattle.command_server.specs.CrashRecovery.{RecoversPrefixOf, acts_of, requested_by}
use Rattle.command_server.specs.Streams.{Event, InputRecord, IsInput, Stream, put_by}
use Rattle.command_server.specs.AnswerOrder.{ReportsAcknowledged, calls_at}
use Rattle.command_text.specs.Cutting.{pieces_of}
use Rattle.command_text.specs.Readings.{IsReading, Reading}
use Rattle.planner_cli.specs.Run.{ServesSession}
use Rattle.recover.specs.Headline.{OpensToImageState, IsRecovered}
use Rattle.recover.specs.Links.{AreLinked, Restart}
use Rattle.recover.specs.Opening.{ReturnsUnlessFailed, IsOpened}
use Rattle.recover.specs.Replies.{acknowledged_count}
use Rattle.recover.specs.Sessions.{SessionValue}
use Rattle.recover.specs.RecoversTo.{RecoversTo}
use Rattle.sector_disk.specs.declared.sectors.Sectors as sectors
use Rattle.state_codec.specs.declared.version.Version.TheVariants.{Two}

-- A run: its mode, the bytes of its input, and the events on its streams. A killed run is one whose later calls
-- all fail.
pub record Run : Type 0 where
  pub is_strict : Bool
  pub input : List ℕ
  pub before : Stream
  pub after : Stream
  pub reader_failed : Bool
  pub writer_failed : Bool

-- Law: whatever the reads of an input returned, there is an input that begins with these bytes.
abbrev pub EveryReadingHasAnInput : Type 0
EveryReadingHasAnInput = (given : InputRecord) → (input : List ℕ) × IsInput given input

-- The statement holds for the one reading: the function that defines the contents of each text. There is only
-- one such function (`ReadingsAgree`).
abbrev pub ForTheReading : ((reading : Reading) → IsReading reading → Type 0) → Type 0
ForTheReading Says = (reading : Reading) × (reads : IsReading reading) × Says reading reads

module _ {D : Type 0} (on : sectors.Ghosts D) where
  -- The store on the device was opened, and the input was served over it, completely or in part. This holds for
  -- each run that has written or read anything, whatever its status (`ServesStore`).
  pub record RunsOver (run : Run) (device : D) : Type 0 where
    pub session : SessionValue D
    pub replayed : ℕ
    pub opened : IsOpened on device session replayed
    pub given : InputRecord
    pub is_input : IsInput given run.input
    pub new : SessionValue D
    pub runs : ServesSession on session replayed run.is_strict given run.before run.after run.reader_failed run.writer_failed new

  -- The acts by which the input was served: operations, and requests of memory for texts.
  abbrev pub acts_in : (reading : Reading) → IsReading reading → (run : Run) (device : D) → RunsOver run device → List Act
  acts_in reading reads run device is =
      acts_of on is.runs.served reading is.session run.input is.runs.opened is.runs.answered is.new
      ((is.runs.ends.serves run.input is.is_input).serves reading reads)

module _ {D E : Type 0} (on : sectors.Ghosts D) (again : sectors.Ghosts E) (reading : Reading) (reads : IsReading reading) where
  -- The conclusion of the main law for a run that crashed when m calls had finished.
  abbrev pub RecoversPrefix : (run : Run) (device : D) → RunsOver on run device → ℕ → Result State StoreFault → Type 0
  RecoversPrefix run device is m outcome = RecoversPrefixOf reading is.session run.input (acts_in on reading reads run device is) m outcome

  -- Law: recovery after a crash that follows the opening, for every device. Within the opening, each crash image
  -- is one that was possible before (`moments` of `IsOpened` and of `IsRefused`).
  abbrev pub OpenedRunRecovers : Type 0
  OpenedRunRecovers = (run : Run) (device : D) (m : ℕ) (image : List ℕ) (other left : E) (outcome : Result State StoreFault)
      -- A run over a device that has answered as the model says.
      → (is : RunsOver on run device) → on.honest is.new.device
      -- A crash left this image at a moment since the store was opened, when m calls had finished.
      → on.possible_since is.new.device (on.clock is.session.device) m image
      -- A device is opened whose reads return this image, and which has answered as the model says.
      → again.seen other ≡ image → again.honest left → OpensToImageState again other outcome left
      → RecoversPrefix run device is m outcome

  -- The link of a run that crashed when m calls had finished: the commands that it kept, how many of them were
  -- acknowledged, and the state that the next opening returned.
  abbrev pub restart_of : (run : Run) (device : D) → RunsOver on run device → ℕ → State → Restart
  restart_of run device is m given =
      let acts = acts_in on reading reads run device is in
      record { commands = kept_of acts; acknowledged = acknowledged_count m (replies_of acts); given = given }

  -- Law: a crashed run and the next opening form a link, with the commands that the run kept of those that its
  -- input requests. So runs compose over any number of crashes (`LinksCompose`).
  abbrev pub RunsAreLinked : Type 0
  RunsAreLinked = (run : Run) (device : D) (m : ℕ) (image : List ℕ) (next : E) (session : SessionValue E) (replayed : ℕ)
      -- A run over a device that has answered as the model says.
      → (is : RunsOver on run device) → on.honest is.new.device
      -- A crash left this image at a moment since the run's store was opened, when m calls had finished.
      → on.possible_since is.new.device (on.clock is.session.device) m image
      -- The next opening: of a device whose reads return this image, and which has answered as the model says.
      → again.seen next ≡ image → IsOpened again next session replayed → again.honest session.device
      → let link = restart_of run device is m session.state in
      IsPrefixOf link.commands (requested_by reading is.session (pieces_of run.input) (acts_in on reading reads run device is))
      × AreLinked is.session.state (link ∷ []) session.state

  -- Law: recovery after any crash, also within the opening, if every crash image from before recovers to the
  -- state that was opened. `format`, a session and a crash leave only such images.
  abbrev pub RunRecovers : Type 0
  RunRecovers = (run : Run) (device : D) (m : ℕ) (image : List ℕ) (other left : E) (outcome : Result State StoreFault)
      → (is : RunsOver on run device) → on.honest is.new.device
      → ((before : List ℕ) → on.possible device before → RecoversTo Two before is.session.state)
      -- A crash left this image at a moment since the device was passed to the run.
      → on.possible_since is.new.device (on.clock device) m image
      → again.seen other ≡ image → again.honest left → OpensToImageState again other outcome left
      → RecoversPrefix run device is m outcome

  -- The answers in this text are kept: the text reports only commands that are acknowledged when m calls have
  -- finished, and the recovered state includes at least as many of the kept commands as the text reports.
  pub record KeepsPrintedAnswers (run : Run) (device : D) (is : RunsOver on run device) (m : ℕ) (text : List ℕ) (given : State) : Type 0 where
    pub reported : ReportsAcknowledged reading is.session run.input (acts_in on reading reads run device is) m text
    pub requests : IsPrefixOf (kept_of (acts_in on reading reads run device is)) (requested_by reading is.session (pieces_of run.input) (acts_in on reading reads run device is))
    pub recovered : IsRecovered is.session.state (kept_of (acts_in on reading reads run device is)) (acknowledged_count m (replies_of (acts_in on reading reads run device is))) given
    pub holds : length (executed_of reported.first) ≤ recovered.count

  -- The answers are kept that were written, and may have been flushed, before a crash at a moment since
  -- `since`, when m calls had finished.
  abbrev pub KeepsAnswersSince : ℕ → (run : Run) (device : D) → RunsOver on run device → Type 0
  KeepsAnswersSince since run device is = (m : ℕ) (image : List ℕ) (other left : E) (outcome : Result State StoreFault) (events others : List Event)
      → on.possible_since is.new.device since m image
      → run.after.events ≡ run.before.events ++ (events ++ others) → AllByRecursion (λ event. calls_at event ≤ m) events
      → again.seen other ≡ image → again.honest left → OpensToImageState again other outcome left
      → ReturnsUnlessFailed (KeepsPrintedAnswers run device is m (put_by events)) outcome

  -- Law: answers are kept since the device was passed to the run, if every crash image from before recovers to
  -- the state that was opened.
  abbrev pub RunKeepsAnswers : Type 0
  RunKeepsAnswers = (run : Run) (device : D) → (is : RunsOver on run device) → on.honest is.new.device
      → ((before : List ℕ) → on.possible device before → RecoversTo Two before is.session.state)
      → KeepsAnswersSince (on.clock device) run device is

  -- Law: answers are kept since the store was opened, whatever crash images were possible before. So it also
  -- covers a run that follows a kill within a commit, after which both the state before the command and the
  -- state after it are possible. Within the opening, each crash image is one that was possible before.
  abbrev pub OpenedRunKeepsAnswers : Type 0
  OpenedRunKeepsAnswers = (run : Run) (device : D) → (is : RunsOver on run device) → on.honest is.new.device
      → KeepsAnswersSince (on.clock is.session.device) run device is
