-- The work of a session and the text written, in terms of replies.
use Rattle.std.specs.Prelude.{◌≡◌, ◌≤◌, ◌++◌, ◌⊎◌, ℕ, Bool, true, false, List, [], length, Option, Some, None, Result, Ok, Err, MatchResult, ⊤}
use Rattle.command_text.specs.Answering.{Reply, ServerState, answer_reply, operations_reply, progress_text, pieces_reply, text_reply, unless_broken}
use Rattle.command_text.specs.Answers.{answer_text, line}
use Rattle.command_text.specs.declared.answers.Answer.{Answer}
use Rattle.command_text.specs.declared.answers.Progress.{Progress}
use Rattle.command_text.specs.declared.answers.Answer.TheVariants as answer
use Rattle.command_types.specs.declared.refusals.Refusal.TheVariants as refusal
use Rattle.command_types.specs.declared.states.State.{State}
use Rattle.command_types.specs.declared.states.State.TheVariants.{Empty}
use Rattle.recover.specs.Applying.{IsApplied}
use Rattle.recover.specs.Sessions.{SessionValue}
use Rattle.recover.specs.declared.replies.Reply.{Reply as SessionReply}
use Rattle.command_types.specs.declared.commands.Command.{Command}
use Rattle.sector_disk.specs.declared.sectors.Sectors as sectors
use Rattle.command_server.specs.declared.streams.Source as sources
use Rattle.command_server.specs.Acts.{events_by}
use Rattle.command_server.specs.Input.{Between, CountsExactly}
use Rattle.command_server.specs.ServeContract.{AreAnswered, ArePieces, IsCutShort, Leads, Reports}
use Rattle.command_server.specs.Streams.{Extends, IsPartlyPut, Stream}
use Rattle.command_server.specs.declared.answering.ServeFault.{ServeFault}
use Rattle.command_server.specs.declared.answering.ServeFault.TheVariants as fault
use Rattle.command_text.specs.Cutting.{Piece, announced_len, is_end, pieces_of}
use Rattle.command_text.specs.declared.parsed_command.ParsedCommand.{ParsedCommand}
use Rattle.recover.specs.declared.denials.Denial.{Denial}
use Rattle.recover.specs.declared.denials.Denial.TheVariants as denial
use Rattle.command_text.specs.Readings.{Reading}
use Rattle.command_text.specs.declared.parsed_command.Purpose.{Purpose}
use Rattle.command_server.specs.declared.answering.Flow.{Flow}
use Rattle.command_server.specs.declared.answering.Flow.TheVariants.{Continue, Finish}
use Rattle.command_server.specs.declared.input.Input.{Input}
use Rattle.command_server.specs.declared.input.AnnouncedText.{AnnouncedText}
use Rattle.command_server.specs.declared.input.AnnouncedText.TheVariants.{Whole, Dropped, Short}

-- The guarantees of `apply` for an operation and its reply.
abbrev pub IsAppliedOn : {D : Type 0} → sectors.Ghosts D → SessionValue D → Command → SessionReply → SessionValue D → Type 0
IsAppliedOn on = IsApplied on.len on.calls on.faults on.honest on.clock on.possible_since on.possible

-- The reply without text and without operations, which leaves the session as it is.
abbrev pub silent : ServerState → Reply
silent s = record { text = []; commands = []; left = s }

-- Some text was written and flushed. It reports the acts that led from the old session to the new one.
pub record Serves {D : Type 0} (on : sectors.Ghosts D) (old : SessionValue D) (from : ServerState → Reply) (before after : Stream) (new : SessionValue D) (to : ServerState → Reply) : Type 0 where
  pub text : List ℕ
  pub leads : Leads on old from text new to
  pub written : Extends before after (events_by leads.turns) text

-- The reply to the remaining operations of a command that makes steps, if one is being executed.
abbrev pub still_executed : Option (List Command) → ServerState → Reply
still_executed None = silent
still_executed (Some commands) = λ s. operations_reply s commands

-- The first answer to a command was written in part or not at all.
pub record CutAtOnce {D : Type 0} (on : sectors.Ghosts D) (old : SessionValue D) (from : ServerState → Reply) (before after : Stream) (new : SessionValue D) : Type 0 where
  pub last : List ℕ
  pub later : Option (List Command)
  pub reports : Reports on old from last new (still_executed later)
  pub part : IsPartlyPut before after (on.calls new.device) last

-- An answer to a command that makes steps was written in part or not at all, after earlier steps were reported.
pub record CutWithin {D : Type 0} (on : sectors.Ghosts D) (old : SessionValue D) (from : ServerState → Reply) (before after : Stream) (new : SessionValue D) : Type 0 where
  pub commands : List Command
  pub reported : SessionValue D
  pub text : List ℕ
  pub answered : Leads on old from text reported (λ s. operations_reply s commands)
  pub last : List ℕ
  pub later : Option (List Command)
  pub reports : Reports on reported (λ s. operations_reply s commands) last new (still_executed later)
  pub flushed_stream : Stream
  pub written : Extends before flushed_stream (events_by answered.turns) text
  pub part : IsPartlyPut flushed_stream after (on.calls new.device) last

-- An answer to a command was written in part or not at all: the first one, or one after earlier steps were
-- reported.
abbrev pub CutOff : {D : Type 0} → sectors.Ghosts D → SessionValue D → (ServerState → Reply) → Stream → Stream → SessionValue D → Type 0
CutOff on old from before after new = CutAtOnce on old from before after new ⊎ CutWithin on old from before after new

-- The answers to a command were written and flushed; or, if the result is a fault, one of them was cut off.
abbrev pub Answers : {D T E : Type 0} → sectors.Ghosts D → Result T E → SessionValue D → (ServerState → Reply) → Stream → Stream → SessionValue D → (ServerState → Reply) → Type 0
Answers on r old from before after new to = MatchResult r (λ _. Serves on old from before after new to) (λ _. CutOff on old from before after new)

-- The answer to a denial.
abbrev pub answer_to_denial : Denial → Answer
answer_to_denial denial.Broken = answer.Broken
answer_to_denial (denial.Core r) = answer.Refused r
answer_to_denial denial.Spent = answer.Spent
answer_to_denial denial.OutOfMemory = answer.Refused refusal.OutOfMemory
answer_to_denial denial.DeviceFault = answer.DeviceFault

-- The text and `ok`, or the answer instead of it.
abbrev pub text_or_answer : Result (List ℕ) Answer → List ℕ
text_or_answer (Ok text) = text ++ line (answer_text answer.Ok)
text_or_answer (Err a) = line (answer_text a)

-- The progress line after an operation of a command that consists of several operations.
abbrev pub progress_of : {D : Type 0} → Progress → SessionValue D → List ℕ
progress_of reported s = progress_text reported s.state

-- The session is broken or has no instance, and this is the answer that reports it.
abbrev pub HasNoJob : Bool → State → Answer → Type 0
HasNoJob is_broken state a = ((is_broken ≡ true) × (a ≡ answer.Broken)) ⊎ ((is_broken ≡ false) × (state ≡ Empty) × (a ≡ answer.Refused refusal.NoInstance))

-- The reply to a command whose announced bytes these are.
abbrev pub bytes_reply : Reading → Purpose → List ℕ → ServerState → Reply
bytes_reply reading purpose bytes s = unless_broken s (text_reply reading purpose bytes s)

-- The reply to a command, by the result of reading its announced bytes. The bytes are known to the definition
-- even if memory for them could not be allocated.
abbrev pub announced_reply : AnnouncedText → Reading → Purpose → List ℕ → ServerState → Reply
announced_reply Short reading purpose bytes s = answer_reply s answer.Truncated
announced_reply Dropped reading purpose bytes s = bytes_reply reading purpose bytes s
announced_reply (Whole text) reading purpose bytes s = bytes_reply reading purpose text.items s

-- Serving ends after a text that is cut short by the end of the input, and continues after any other.
abbrev pub flow_after : AnnouncedText → Flow
flow_after Short = Finish
flow_after _ = Continue

-- The reply to the rest of the input: to what is left if serving continues, and none if it ends.
abbrev pub remaining_reply : Reading → Flow → List ℕ → ServerState → Reply
remaining_reply reading Continue left s = pieces_reply reading s (pieces_of left)
remaining_reply reading Finish left s = silent s

-- The pieces of the rest of the input: those of what is left if serving continues, and none if it ends.
abbrev pub pieces_after : Flow → List ℕ → List Piece
pieces_after Continue left = pieces_of left
pieces_after Finish left = []

-- The pieces were answered, except those of the rest of the input. This rest is known.
pub record ServesPieces {D : Type 0} (on : sectors.Ghosts D) (reading : Reading) (old : SessionValue D) (pieces : List Piece) (before after : Stream)
    (new : SessionValue D) (goes : Flow) (known : Option (List ℕ)) : Type 0 where
  pub left : List ℕ
  pub is_known : known ≡ Some left
  pub front : List Piece
  pub split : pieces ≡ front ++ pieces_after goes left
  pub serves : Serves on old (λ s. pieces_reply reading s pieces) before after new (remaining_reply reading goes left)
  pub lines : (some others : List Piece) → front ≡ some ++ others → AreAnswered on reading old pieces (others ++ pieces_after goes left) serves.leads.turns

-- The pieces were answered, except those of the rest of the input; or serving was cut short.
abbrev pub ContinuesOrIsCut : {D : Type 0} → sectors.Ghosts D → Result Flow ServeFault → Reading → SessionValue D → List Piece → Stream → Stream → SessionValue D → Option (List ℕ) → Type 0
ContinuesOrIsCut on r reading old pieces before after new known =
    MatchResult r (λ goes. ServesPieces on reading old pieces before after new goes known) (λ _. IsCutShort on reading old pieces before after new)

-- After a line that parses to `a`: if serving continues, the bytes that the line announces were taken. If serving
-- ends, this line ends it, or nothing is left.
abbrev pub TakesBytes : ParsedCommand → Flow → List ℕ → List ℕ → Type 0
TakesBytes a Continue old new = (text : List ℕ) × (old ≡ text ++ new) × (length text ≡ announced_len a) × (is_end a false ≡ false)
TakesBytes a Finish old new = (new ≡ []) ⊎ ((new ≡ old) × (is_end a false ≡ true))

-- Like `TakesBytes`, for an input that is known.
abbrev pub TakesKnown : ParsedCommand → Flow → Option (List ℕ) → Option (List ℕ) → Type 0
TakesKnown a goes None new = ⊤
TakesKnown a goes (Some xs) None = ⊥
TakesKnown a goes (Some xs) (Some ys) = TakesBytes a goes xs ys

-- Like `TakesKnown`, with the bytes counted.
pub record TakesAnnounced {R : Type 0} (on : sources.Ghosts R) (a : ParsedCommand) (old : Input) (before : R) (new : Input) (later : R) (goes : Flow) : Type 0 where
  pub less : new.left ≤ old.left
  pub exact : CountsExactly on old before new later
  pub takes : Between on old before new later (TakesKnown a goes)

-- The part that was taken while serving continues: whole pieces, or everything that was left.
pub record TakesPieces (old new : List ℕ) : Type 0 where
  pub taken : List ℕ
  pub whole : old ≡ taken ++ new
  pub end : (new ≡ []) ⊎ ArePieces taken

-- Like `TakesPieces`, for an input that is known.
abbrev pub TakesKnownPieces : Option (List ℕ) → Option (List ℕ) → Type 0
TakesKnownPieces None new = ⊤
TakesKnownPieces (Some xs) None = ⊥
TakesKnownPieces (Some xs) (Some ys) = TakesPieces xs ys

-- The fault has its cause. `left` is the number of bytes that may still be taken.
abbrev pub IsCause : ServeFault → Bool → Bool → ℕ → Type 0
IsCause fault.ReadFault reader_failed writer_failed left = (reader_failed ≡ true) ⊎ (left ≡ 0)
IsCause fault.WriteFault reader_failed writer_failed left = writer_failed ≡ true
