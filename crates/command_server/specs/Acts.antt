-- The acts of serving an input, and the fates of its attempts.
use Rattle.std.specs.Prelude.{◌≡◌, ◌≤◌, ℕ, Bool, true, false, List, [], ◌∷◌, ◌++◌, length, map, flat_map, Result, Ok, Err}
use Rattle.std.specs.List.{AllByRecursion, concat}
use Rattle.command_types.specs.declared.commands.Command.{Command}
use Rattle.command_text.specs.Answering.{Fate, Done, NoMemory, Spent, Failed}
use Rattle.recover.specs.Replies.{kept_commands}
use Rattle.recover.specs.declared.denials.Denial.{Denial}
use Rattle.recover.specs.declared.denials.Denial.TheVariants as denial
use Rattle.recover.specs.declared.replies.Reply.{Reply}
use Rattle.command_server.specs.Streams.{Event, Flushed, Put}

-- An act of serving. Either an operation was passed to the session, which returned this reply. Or memory was
-- requested, for an announced text or for a text to print (for example of `show` or `print`), and was available
-- or not.
pub data Act : Type 0 where
  Applied : Command → Reply → Act
  Text : Bool → Act

-- The operation of an act, as a list; none for a request for memory.
abbrev pub commands_in : Act → List Command
commands_in (Applied command reply) = command ∷ []
commands_in (Text some) = []

-- The reply to the operation of an act, as a list; none for a request for memory.
abbrev pub replies_in : Act → List Reply
replies_in (Applied command reply) = reply ∷ []
replies_in (Text some) = []

-- The operations of these acts, in order.
abbrev pub commands_of : List Act → List Command
commands_of acts = flat_map commands_in acts

-- The replies to the operations of these acts, in order.
abbrev pub replies_of : List Act → List Reply
replies_of acts = flat_map replies_in acts

-- The fate of an attempt, from its answer, as a list. An operation that the session or the state refuses is not
-- an attempt, so it has none.
abbrev pub fates_reported : {T : Type 0} → Result T Denial → List Fate
fates_reported (Ok done) = Done ∷ []
fates_reported (Err denial.OutOfMemory) = NoMemory ∷ []
fates_reported (Err denial.Spent) = Spent ∷ []
fates_reported (Err denial.DeviceFault) = Failed ∷ []
fates_reported (Err denial.Broken) = []
fates_reported (Err (denial.Core refusal)) = []

-- The fate of an act, as a list; none if the act was not an attempt.
abbrev pub fates_in : Act → List Fate
fates_in (Applied command reply) = fates_reported reply.answer
fates_in (Text true) = Done ∷ []
fates_in (Text false) = NoMemory ∷ []

-- The act was an attempt: it has a fate. An operation that the session or the state refuses changes nothing, and
-- is not an attempt.
abbrev pub IsAttempt : Act → Type 0
IsAttempt act = (fate : Fate) × (fates_in act ≡ fate ∷ [])

-- The fates of the attempts, in order.
abbrev pub fates_of : List Act → List Fate
fates_of acts = flat_map fates_in acts

-- The operation, if its answer is Ok.
abbrev pub executed_if : {T : Type 0} → Command → Result T Denial → List Command
executed_if command (Ok done) = command ∷ []
executed_if command (Err denial) = []

-- The operation of an act, if it was executed.
abbrev pub executed_in : Act → List Command
executed_in (Applied command reply) = executed_if command reply.answer
executed_in (Text some) = []

-- The executed operations, in order.
abbrev pub executed_of : List Act → List Command
executed_of acts = flat_map executed_in acts

-- The executed operations, followed by the one during which the device failed, if there is one.
abbrev pub kept_of : List Act → List Command
kept_of acts = kept_commands (commands_of acts) (replies_of acts)

-- The fate that an attempt would have had if the device had not failed.
abbrev pub without_failure : Fate → Fate
without_failure Done = Done
without_failure NoMemory = NoMemory
without_failure Spent = Spent
without_failure Failed = Done

-- The fates that these attempts would have had if the device had not failed.
abbrev pub without_failures : List Fate → List Fate
without_failures fates = map without_failure fates

-- The list `front` is a prefix of the list `all`.
pub record IsPrefixOf {X : Type 0} (front all : List X) : Type 0 where
  pub rest : List X
  pub whole : all ≡ front ++ rest

-- A turn: at most one act, then the texts that report it, then a flush. `calls` is the number of device calls
-- that had finished when the texts were written.
pub record Turn : Type 0 where
  pub acts : List Act
  pub texts : List (List ℕ)
  pub calls : ℕ

-- A turn has at most one act, and reports it only when the last call of its operation has finished.
pub record IsTurn (turn : Turn) : Type 0 where
  pub few : length turn.acts ≤ 1
  pub finished : AllByRecursion (λ (reply : Reply). reply.calls ≡ turn.calls) (replies_of turn.acts)

-- ---- the acts of turns, their texts, and the events at a sink
-- The acts of a turn, in order.
abbrev pub acts_in : Turn → List Act
acts_in turn = turn.acts

-- The texts of a turn, joined.
abbrev pub text_in : Turn → List ℕ
text_in turn = concat turn.texts

-- The events of a turn at a sink: each of its texts is written, and then all is flushed.
abbrev pub events_in : Turn → List Event
events_in turn = map (Put turn.calls) turn.texts ++ Flushed turn.calls ∷ []

-- The acts of these turns, in order.
abbrev pub acts_by : List Turn → List Act
acts_by turns = flat_map acts_in turns

-- The texts of these turns, joined in order.
abbrev pub text_by : List Turn → List ℕ
text_by turns = flat_map text_in turns

-- The events of these turns at a sink, in order.
abbrev pub events_by : List Turn → List Event
events_by turns = flat_map events_in turns
