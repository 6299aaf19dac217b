-- The answers to an input, the session afterwards, and both if serving ends before the input does.
use Rattle.std.specs.Prelude.{◌≡◌, ◌≤◌, ◌<◌, ◌++◌, ◌^◌, ◌⊎◌, ℕ, Bool, true, false, List, [], ◌∷◌, length, Option, Some, None, Result, MatchResult}
use Rattle.std.specs.List.{AllByRecursion}
use Rattle.std.specs.Str.Lines.{strip_carriage_return}
use Rattle.text_lines.specs.Lines.{HasNoLineFeed}
use Rattle.command_core.specs.Runs.{after}
use Rattle.command_types.specs.declared.commands.Command.{Command}
use Rattle.command_text.specs.Answering.{Fate, Done, Reply, ServerState, operations_reply, joined_replies, pieces_reply}
use Rattle.command_text.specs.Parsing.{parsed_line}
use Rattle.command_text.specs.Cutting.{Piece, is_end, pieces_of}
use Rattle.command_text.specs.Readings.{Reading}
use Rattle.command_server.specs.declared.answering.ServeFault.{ServeFault}
use Rattle.command_server.specs.declared.answering.ServeFault.TheVariants as fault
use Rattle.command_server.specs.declared.streams.Source as sources
use Rattle.command_server.specs.Acts.{Act, Applied, IsPrefixOf, IsAttempt, IsTurn, Turn, acts_by, executed_of, commands_of, events_by, fates_of, kept_of, replies_of, text_by, without_failures}
use Rattle.command_server.specs.Streams.{Event, Extends, IsPartlyPut, Stream}
use Rattle.recover.specs.Composition.{IsRunOn}
use Rattle.recover.specs.Sessions.{SessionValue}
use Rattle.recover.specs.declared.replies.Reply.{Reply as SessionReply}
use Rattle.sector_disk.specs.declared.sectors.Sectors as sectors

-- A session with the fates that its attempts will have, as the definition of the answers takes it.
abbrev pub as_server_state : {D : Type 0} → SessionValue D → List Fate → ServerState
as_server_state s fates = record { state = s.state; is_broken = s.is_broken; fates = fates }

-- The reply with this text before its own text, and these operations before its own operations.
abbrev pub preceded : List ℕ → List Command → Reply → Reply
preceded text commands r = record { text = text ++ r.text; commands = commands ++ r.commands; left = r.left }

-- The answers that are still due: first to these operations, if a command that makes steps is being executed, and
-- then to these pieces.
abbrev pub still : Reading → Option (List Command) → List Piece → ServerState → Reply
still reading None pieces s = pieces_reply reading s pieces
still reading (Some commands) pieces s = let r = operations_reply s commands in joined_replies r (pieces_reply reading r.left pieces)

-- The text of the reply begins with this text, and its operations begin with those that these acts executed.
pub record Begins (reported : List ℕ) (acts : List Act) (reply : Reply) : Type 0 where
  pub text : IsPrefixOf reported reply.text
  pub commands : IsPrefixOf (executed_of acts) reply.commands

-- These turns report the acts with this text. Whatever the fates of later attempts, the text of the first turns
-- is a prefix of what the session writes, and the operations of their acts are a prefix of what it executes. So
-- the text depends on these acts alone, each of which was done.
pub record AreReported {D : Type 0} (old : SessionValue D) (from : ServerState → Reply) (acts : List Act) (text : List ℕ) (turns : List Turn) : Type 0 where
  pub does : acts ≡ acts_by turns
  pub says : text ≡ text_by turns
  pub each : AllByRecursion IsTurn turns
  pub front : (some others : List Turn) → turns ≡ some ++ others → (later : List Fate) → Begins (text_by some) (acts_by some) (from (as_server_state old (fates_of (acts_by some) ++ later)))

-- Each act was an attempt that was requested. If the attempt of an operation had succeeded, the session would
-- have executed this operation next, whatever the fates of later attempts.
pub record AreRequested {D : Type 0} (old : SessionValue D) (from : ServerState → Reply) (acts : List Act) : Type 0 where
  pub attempts : AllByRecursion IsAttempt acts
  pub next : (front following : List Act) (command : Command) (reply : SessionReply) → acts ≡ front ++ Applied command reply ∷ following
      → (later : List Fate) → IsPrefixOf (executed_of front ++ command ∷ []) (from (as_server_state old (fates_of front ++ Done ∷ later))).commands

module _ {D : Type 0} (on : sectors.Ghosts D) where
  -- These acts led the session from `old` to `new`, and this text reports them. Whatever the fates of later
  -- attempts, the reply `from` of the old session is this text, followed by the reply `to` of the new session.
  pub record Leads (old : SessionValue D) (from : ServerState → Reply) (text : List ℕ) (new : SessionValue D) (to : ServerState → Reply) : Type 0 where
    pub acts : List Act
    pub turns : List Turn
    pub run : IsRunOn on old (commands_of acts) (replies_of acts) new
    pub reported : AreReported old from acts text turns
    pub says : (later : List Fate) → from (as_server_state old (fates_of acts ++ later)) ≡ preceded text (executed_of acts) (to (as_server_state new later))
    pub requested : AreRequested old from acts
    pub requests_kept : (later : List Fate) → IsPrefixOf (kept_of acts) (from (as_server_state old (without_failures (fates_of acts) ++ later))).commands
    pub state : new.state ≡ after old.state (executed_of acts)

  -- Like `Leads`, for at most one act and for a text that reports it but may not be written yet.
  pub record Reports (old : SessionValue D) (from : ServerState → Reply) (text : List ℕ) (new : SessionValue D) (to : ServerState → Reply) : Type 0 where
    pub acts : List Act
    pub run : IsRunOn on old (commands_of acts) (replies_of acts) new
    pub says : (later : List Fate) → from (as_server_state old (fates_of acts ++ later)) ≡ preceded text (executed_of acts) (to (as_server_state new later))
    pub requested : AreRequested old from acts
    pub requests_kept : (later : List Fate) → IsPrefixOf (kept_of acts) (from (as_server_state old (without_failures (fates_of acts) ++ later))).commands
    pub state : new.state ≡ after old.state (executed_of acts)
    pub few : length acts ≤ 1

  -- The first turns flushed the answers to the pieces before `following`, and no part of these answers was
  -- still due.
  pub record AreAnswered (reading : Reading) (old : SessionValue D) (pieces following : List Piece) (turns : List Turn) : Type 0 where
    pub mid : SessionValue D
    pub text : List ℕ
    pub leads : Leads old (λ s. pieces_reply reading s pieces) text mid (λ s. pieces_reply reading s following)
    pub rest : List Turn
    pub first : turns ≡ leads.turns ++ rest

  -- These acts led the session from `old` to `new`: their operations and replies are a run. The session's answer
  -- to the input, by the fates of the acts, was written. The operations of this answer are exactly the
  -- acknowledged ones, and the new state is the one after them. Each operation that was attempted, whether done
  -- or not, is the one that the input requested at that point. If the device had not failed, the input would also
  -- have requested the operation during which it failed. The acts were reported turn by turn, each after the
  -- calls of its act had finished. The answers to each prefix of the input's pieces were flushed before the next
  -- piece was begun.
  pub record IsServed (reading : Reading) (old : SessionValue D) (input : List ℕ) (before after_it : Stream) (new : SessionValue D) : Type 0 where
    pub acts : List Act
    pub turns : List Turn
    pub run : IsRunOn on old (commands_of acts) (replies_of acts) new
    pub reported : AreReported old (λ s. pieces_reply reading s (pieces_of input)) acts (pieces_reply reading (as_server_state old (fates_of acts)) (pieces_of input)).text turns
    pub lines : (some following : List Piece) → pieces_of input ≡ some ++ following → AreAnswered reading old (pieces_of input) following turns
    pub written : Extends before after_it (events_by turns) (pieces_reply reading (as_server_state old (fates_of acts)) (pieces_of input)).text
    pub left : (pieces_reply reading (as_server_state old (fates_of acts)) (pieces_of input)).left ≡ as_server_state new []
    pub executed : (pieces_reply reading (as_server_state old (fates_of acts)) (pieces_of input)).commands ≡ executed_of acts
    pub requested : AreRequested old (λ s. pieces_reply reading s (pieces_of input)) acts
    pub requests_kept : IsPrefixOf (kept_of acts) (pieces_reply reading (as_server_state old (without_failures (fates_of acts))) (pieces_of input)).commands
    pub state : new.state ≡ after old.state (pieces_reply reading (as_server_state old (fates_of acts)) (pieces_of input)).commands

  -- Serving was cut short by a fault. The answers before the last one were written and flushed, with success
  -- reported, and led the session from `old` to `reported`. The steps `commands` of a command, if any, and the
  -- pieces `following` were then still to be answered. The answer `last` reports at most one more act, which led
  -- to `new`. When the calls of this act had finished, the answer was written in part, not at all, or whole if no
  -- other may follow it. Next would come the answers to the steps `later_commands` and the pieces
  -- `later_following`.
  pub record IsCutShort (reading : Reading) (old : SessionValue D) (pieces : List Piece) (before after_it : Stream) (new : SessionValue D) : Type 0 where
    pub commands : Option (List Command)
    pub front : List Piece
    pub following : List Piece
    pub split : pieces ≡ front ++ following
    pub reported : SessionValue D
    pub text : List ℕ
    pub answered : Leads old (λ s. pieces_reply reading s pieces) text reported (still reading commands following)
    -- The answer to each piece before the last pieces was flushed before the next piece was begun.
    pub lines : (some others : List Piece) (next : Piece) → front ≡ some ++ next ∷ others → AreAnswered reading old pieces (next ∷ (others ++ following)) answered.turns
    pub later_commands : Option (List Command)
    -- The piece whose answer was begun last, if any.
    pub begun : List Piece
    pub later_following : List Piece
    pub later_split : following ≡ begun ++ later_following
    pub one : length begun ≤ 1
    pub last : List ℕ
    pub reports : Reports reported (still reading commands following) last new (still reading later_commands later_following)
    pub flushed_stream : Stream
    pub written : Extends before flushed_stream (events_by answered.turns) text
    pub part : IsPartlyPut flushed_stream after_it (on.calls new.device) last

  -- The guarantee of serving, for an input whose bytes are known.
  abbrev pub EndsOrIsCut : {T E : Type 0} → Result T E → Reading → SessionValue D → List ℕ → Stream → Stream → SessionValue D → Type 0
  EndsOrIsCut r reading old input before after_it new =
      MatchResult r (λ _. IsServed reading old input before after_it new) (λ _. IsCutShort reading old (pieces_of input) before after_it new)

  -- Like `EndsOrIsCut`, for a writer of which only the bytes before and afterwards are known.
  abbrev pub EndsOrIsCutBetween : {T E : Type 0} → Result T E → Reading → SessionValue D → List ℕ → Option (List ℕ) → Option (List ℕ) → SessionValue D → Type 0
  EndsOrIsCutBetween r reading old input before after_it new =
      (events : List Event) × EndsOrIsCut r reading old input (record { contents = before; events = [] }) (record { contents = after_it; events = events }) new

-- The input that a source had left to read: its bytes, if they were known beforehand; otherwise, of a text that
-- begins with the bytes that the reads returned, the part that was not read before.
abbrev pub IsInputOf : {R : Type 0} → sources.Ghosts R → R → R → List ℕ → Type 0
IsInputOf on old new input = (on.remaining old ≡ Some input) ⊎ ((text : List ℕ) × on.gave new text × (input ≡ on.left old text))

-- These bytes are cut into whole pieces, whatever follows them.
pub record ArePieces (bytes : List ℕ) : Type 0 where
  pub pieces : List Piece
  pub cut : (rest : List ℕ) → pieces_of (bytes ++ rest) ≡ pieces ++ pieces_of rest

-- These bytes end with a line that ends serving, and its line feed. Whole pieces come before it.
pub record AreEnded (bytes : List ℕ) : Type 0 where
  pub before : List ℕ
  pub whole : ArePieces before
  pub line : List ℕ
  pub free : HasNoLineFeed line
  pub ends : is_end (parsed_line (strip_carriage_return line)) false ≡ true
  pub split : bytes ≡ before ++ (line ++ 10 ∷ [])

-- The part of an input that was taken: all of it, or the bytes up to a line that ends serving. It has fewer
-- than `most` bytes.
pub record IsTaken (most : ℕ) (input : List ℕ) : Type 0 where
  pub taken : List ℕ
  pub rest : List ℕ
  pub whole : input ≡ taken ++ rest
  pub less : length taken < most
  pub end : (rest ≡ []) ⊎ AreEnded taken

-- The fault has its cause. `ReadFault`: the reader failed, or the input has 10^12 bytes or more. `WriteFault`:
-- the writer failed.
abbrev pub HasCause : ServeFault → Bool → Bool → ℕ → Type 0
HasCause fault.ReadFault reader_failed writer_failed len = (reader_failed ≡ true) ⊎ (10 ^ 12 ≤ len)
HasCause fault.WriteFault reader_failed writer_failed len = writer_failed ≡ true
