-- The headline of serving. A crash at any moment, with any image that the device allows, recovers to the state
-- after a prefix of the kept operations: those executed, and the one during which the device failed, if any. This
-- prefix has every acknowledged operation and at most one more, and the kept operations are a prefix of those
-- that the input requests. The recovered plan passes the auditor, and costs no more than any incumbent since the
-- last change of requests or pins.
use Rattle.std.specs.Prelude.{◌≡◌, ℕ, false, List, ◌++◌, Result, Ok, Err, ⊤}
use Rattle.command_types.specs.declared.commands.Command.{Command}
use Rattle.command_types.specs.declared.states.State.{State}
use Rattle.command_text.specs.Answering.{Fate, pieces_reply}
use Rattle.command_text.specs.Cutting.{Piece, pieces_of}
use Rattle.command_text.specs.Readings.{Reading}
use Rattle.checkpoint.specs.declared.faults.StoreFault.{StoreFault}
use Rattle.recover.specs.Headline.{OpensToImageState, IsRecovered}
use Rattle.recover.specs.Composition.{IsRunOn}
use Rattle.recover.specs.Moments.{RunLeaves}
use Rattle.recover.specs.Opening.{ReturnsUnlessFailed}
use Rattle.recover.specs.Replies.{acknowledged_count}
use Rattle.recover.specs.Sessions.{SessionValue}
use Rattle.recover.specs.declared.replies.Reply.{Reply}
use Rattle.sector_disk.specs.Sectors.{Throughout}
use Rattle.sector_disk.specs.declared.sectors.Sectors as sectors
use Rattle.command_server.specs.Acts.{Act, IsPrefixOf, commands_of, fates_of, kept_of, replies_of, without_failures}
use Rattle.command_server.specs.ServeContract.{AreRequested, EndsOrIsCut, as_server_state}
use Rattle.command_server.specs.Streams.{Stream}
use Rattle.command_server.specs.declared.answering.ServeFault.{ServeFault}

-- The operations that an input requests if its attempts have these fates, in order.
abbrev pub requested_commands : {D : Type 0} → Reading → SessionValue D → List Piece → List Fate → List Command
requested_commands reading session pieces fates = (pieces_reply reading (as_server_state session fates) pieces).commands

-- The operations that an input requests if its attempts have the fates of these acts, but the device never fails.
abbrev pub requested_by : {D : Type 0} → Reading → SessionValue D → List Piece → List Act → List Command
requested_by reading session pieces acts = requested_commands reading session pieces (without_failures (fates_of acts))

-- The conclusion of the headline. The kept operations of these acts are a prefix of those that the input
-- requests. The recovered state is the one after a prefix of the kept operations, which has all operations that
-- were acknowledged when m calls had finished, and at most one more.
abbrev pub RecoversPrefixOf : {D : Type 0} → Reading → SessionValue D → List ℕ → List Act → ℕ → Result State StoreFault → Type 0
RecoversPrefixOf reading old input acts m outcome =
    IsPrefixOf (kept_of acts) (requested_by reading old (pieces_of input) acts)
    × ReturnsUnlessFailed (IsRecovered old.state (kept_of acts) (acknowledged_count m (replies_of acts))) outcome

module _ {D : Type 0} (on : sectors.Ghosts D) where
  -- At each moment from old to new, each crash image recovers to the state after a prefix of the kept
  -- operations, with all that were acknowledged by then and at most one more. This holds for every run that
  -- leads from old to new.
  abbrev pub RunsLeave : SessionValue D → SessionValue D → Type 0
  RunsLeave old new = (commands : List Command) (replies : List Reply) → IsRunOn on old commands replies new → old.is_broken ≡ false → on.honest new.device
      → Throughout on.clock on.possible_since old.device new.device (RunLeaves old.state commands replies)

  -- The acts by which an input was served or cut short.
  abbrev pub acts_of : (r : Result ⊤ ServeFault) (reading : Reading) (old : SessionValue D) (input : List ℕ) (before after_it : Stream) (new : SessionValue D)
      → EndsOrIsCut on r reading old input before after_it new → List Act
  acts_of (Ok done) reading old input before after_it new served = served.acts
  acts_of (Err fault) reading old input before after_it new cut = cut.answered.acts ++ cut.reports.acts

  -- These acts are a run. Each operation that was attempted is the one that the input requested at that point,
  -- and the input requests all operations that the run keeps.
  pub record IsRunOfInput (reading : Reading) (old : SessionValue D) (input : List ℕ) (acts : List Act) (new : SessionValue D) : Type 0 where
    pub run : IsRunOn on old (commands_of acts) (replies_of acts) new
    pub requested : AreRequested old (λ s. pieces_reply reading s (pieces_of input)) acts
    pub requests_kept : IsPrefixOf (kept_of acts) (requested_by reading old (pieces_of input) acts)

  -- Law: the acts of serving an input are a run of that input.
  abbrev pub ServingsAreRuns : Type 0
  ServingsAreRuns = (reading : Reading) (old new : SessionValue D) (input : List ℕ) (before after_it : Stream) (r : Result ⊤ ServeFault)
      → (served : EndsOrIsCut on r reading old input before after_it new)
      → IsRunOfInput reading old input (acts_of r reading old input before after_it new served) new

module _ {D E : Type 0} (on : sectors.Ghosts D) (again : sectors.Ghosts E) where
  -- Law: the headline of serving.
  abbrev pub ServedHeadline : Type 0
  ServedHeadline = (reading : Reading) (old new : SessionValue D) (input : List ℕ) (before after_it : Stream) (r : Result ⊤ ServeFault) (m : ℕ) (image : List ℕ)
      (device left : E) (outcome : Result State StoreFault)
      -- An input was served, completely or in part, over a session that was not broken and a device that has
      -- answered as the model says.
      → (served : EndsOrIsCut on r reading old input before after_it new) → old.is_broken ≡ false → on.honest new.device
      -- The images at each moment (clause `moments` of `serve`).
      → RunsLeave on old new
      -- A crash left this image at a moment since serving began, when m calls had finished.
      → on.possible_since new.device (on.clock old.device) m image
      -- A device is opened whose reads return this image, and which has answered as the model says.
      → again.seen device ≡ image → again.honest left → OpensToImageState again device outcome left
      → RecoversPrefixOf reading old input (acts_of on r reading old input before after_it new served) m outcome
