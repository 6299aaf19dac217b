-- The answers of a session to an input, and the operations that it executes.
use Rattle.std.specs.Prelude.{ℕ, ◌+◌, ◌-◌, ◌/◌, ◌%◌, ◌==◌, nat_le, ◌&&◌, Bool, true, false, if◌then◌else◌, List, [], ◌∷◌, ◌++◌, map, replicate, Option, Some, None, Result, Ok, Err}
use Rattle.plan_types.specs.Instance.{Instance}
use Rattle.plan_types.specs.declared.requests.Kind.{Kind}
use Rattle.plan_types.specs.declared.requests.Kind.TheVariants.{LiLim, Vrp}
use Rattle.route_sched.specs.Cost.{unplanned_count}
use Rattle.instance_read.specs.declared.faults.ReadFault.{ReadFault}
use Rattle.instance_text.specs.Formats.{has_format}
use Rattle.instance_text.specs.Texts.{instance_text}
use Rattle.command_types.specs.Commands.{makes_steps}
use Rattle.command_core.specs.Effects.{effect}
use Rattle.command_types.specs.Job.{JobValue}
use Rattle.command_types.specs.declared.limits.TheConstants.{MAX_REDUCE_STEPS, MAX_SEARCH_STEPS}
use Rattle.command_core.specs.Refusals.{refusal}
use Rattle.command_types.specs.declared.states.State.{State}
use Rattle.command_types.specs.declared.states.State.TheVariants.{Empty, Loaded}
use Rattle.command_types.specs.declared.commands.Command.{Command}
use Rattle.command_types.specs.declared.commands.Command.TheVariants as command
use Rattle.command_types.specs.declared.refusals.Refusal.{Refusal}
use Rattle.command_types.specs.declared.refusals.Refusal.TheVariants.{NoInstance, Range, StepsSpent, OutOfMemory}
use Rattle.plan_types.specs.declared.plans.Plan.{Plan}
use Rattle.vehicle_assignment.specs.declared.faults.AssignmentFault.{AssignmentFault}
use Rattle.plan_types.specs.declared.limits.TheConstants.{MAX_REQUESTED_STEPS, MAX_STEPS}
use Rattle.command_text.specs.Answers.{answer_text, at_text, help_text, line, next_text, pin_text}
use Rattle.command_text.specs.Cutting.{Piece, is_short, pieces_of}
use Rattle.command_text.specs.Freezing.{freeze_commands}
use Rattle.command_text.specs.Questions.{question_refusal, question_text}
use Rattle.command_text.specs.Readings.{Reading}
use Rattle.command_text.specs.Showing.{print_text, show_text}
use Rattle.command_text.specs.Staging.{commands_in_stage, stage_commands}
use Rattle.command_text.specs.declared.answers.Answer.{Answer}
use Rattle.command_text.specs.declared.answers.Answer.TheVariants as answer
use Rattle.command_text.specs.declared.answers.Progress.{Progress}
use Rattle.command_text.specs.declared.answers.Progress.TheVariants as progress
use Rattle.command_text.specs.declared.parsed_command.ParsedCommand.{ParsedCommand}
use Rattle.command_text.specs.declared.parsed_command.Purpose.{Purpose}
use Rattle.command_text.specs.declared.parsed_command.Purpose.TheVariants as purpose
use Rattle.command_text.specs.declared.parsed_command.ParsedCommand.TheVariants.{Nothing, BadLine, BadText, TextRange, Text, Plain, Refused, Steps, Print, PrintInstance, Show, Ask, Next, Help}
use Rattle.command_text.specs.declared.questions.Question.{Question}
use Rattle.command_text.specs.declared.steps.TheConstants.{MAX_ANNEAL_PIECE}
use Rattle.command_text.specs.declared.steps.StepRequest.{StepRequest}
use Rattle.command_text.specs.declared.steps.StepRequest.TheVariants as goal
use Rattle.command_text.specs.declared.steps.StepCursor.{StepCursor}
use Rattle.command_text.specs.declared.steps.StepCursor.TheVariants as makes

-- The outcome of an attempt: it is done, or memory runs out, or the store can't be written any more, or the
-- device fails. An attempt is an operation that the session and the state accept, the reading of an announced
-- text, or a command that prints a text, for example `show`.
pub data Fate : Type 0 where
  Done : Fate
  NoMemory : Fate
  Spent : Fate
  Failed : Fate

-- The fate of the next attempt. After the end of the list every attempt is done.
abbrev pub next_fate : List Fate → Fate
next_fate [] = Done
next_fate (fate ∷ fates) = fate

-- The fates of the attempts after the next one.
abbrev pub later_fates : List Fate → List Fate
later_fates [] = []
later_fates (fate ∷ fates) = fates

-- The state of a session that answers, whether its device has failed, and the fates of its later attempts.
pub record ServerState : Type 0 where
  pub state : State
  pub is_broken : Bool
  pub fates : List Fate

-- A reply: the text that is written, the operations that are executed, and the session after them.
pub record Reply : Type 0 where
  pub text : List ℕ
  pub commands : List Command
  pub left : ServerState

-- The reply that consists of this answer and executes nothing.
abbrev pub answer_reply : ServerState → Answer → Reply
answer_reply s a = record { text = line (answer_text a); commands = []; left = s }

-- The session after an attempt, whose fate is used up.
abbrev pub after_attempt : ServerState → ServerState
after_attempt s = record s { fates = later_fates s.fates }

-- A reply with this text before its own text.
abbrev pub with_text : List ℕ → Reply → Reply
with_text text r = record r { text = text ++ r.text }

-- A reply with this operation before its own operations.
abbrev pub with_command : Command → Reply → Reply
with_command c r = record r { commands = c ∷ r.commands }

-- Two replies, one after the other.
abbrev pub joined_replies : Reply → Reply → Reply
joined_replies r q = record { text = r.text ++ q.text; commands = r.commands ++ q.commands; left = q.left }

-- The reply to an accepted operation, by its fate. `done` returns the reply once the operation is executed.
abbrev pub by_fate : Fate → ServerState → Command → (ServerState → Reply) → Reply
by_fate Done s c done = with_command c (done (record s { state = effect s.state c }))
by_fate NoMemory s c done = answer_reply s (answer.Refused OutOfMemory)
by_fate Spent s c done = answer_reply s answer.Spent
by_fate Failed s c done = answer_reply (record s { is_broken = true }) answer.DeviceFault

-- The reply to an operation that the state refuses for this reason, or else accepts.
abbrev pub unless_refused : Option Refusal → ServerState → Command → (ServerState → Reply) → Reply
unless_refused (Some r) s c done = answer_reply s (answer.Refused r)
unless_refused None s c done = by_fate (next_fate s.fates) (after_attempt s) c done

-- The reply to an operation: `no Broken` after a failed device, otherwise the state's refusal, otherwise the
-- reply by its fate.
unfoldable pub operation_reply : ServerState → Command → (ServerState → Reply) → Reply
operation_reply s c done = if s.is_broken then answer_reply s answer.Broken else unless_refused (refusal s.state c) s c done

-- The reply to a command with one operation.
abbrev pub plain : ServerState → Command → Reply
plain s c = operation_reply s c (λ t. answer_reply t answer.Ok)

-- The line `at STEPS UNPLANNED VEHICLES DISTANCE` of a loaded state.
abbrev pub at_line : State → List ℕ
at_line Empty = []
at_line (Loaded j) = line (at_text j)

-- The kind of line after an operation of a command that takes several: the steps so far, or the pin.
abbrev pub progress_after : Command → Progress
progress_after (command.Pin v k) = progress.Pinned v k
progress_after c = if makes_steps c then progress.Stepped else progress.Nothing

-- The line of this kind, in the state after the operation, or nothing.
abbrev pub progress_text : Progress → State → List ℕ
progress_text progress.Nothing state = []
progress_text progress.Stepped state = at_line state
progress_text (progress.Pinned v k) state = line (pin_text v k)

-- The text that is printed after an operation of a command that takes several, in the state after the operation.
abbrev pub printed_after : Command → State → List ℕ
printed_after c state = progress_text (progress_after c) state

-- The reply to these operations, one after another, and `ok` after the last one.
unfoldable pub operations_reply : ServerState → List Command → Reply
operations_reply s [] = answer_reply s answer.Ok
operations_reply s (c ∷ cs) = operation_reply s c (λ t. with_text (printed_after c t.state) (operations_reply t cs))

-- The step counts of the operations that make n steps: `most` for each operation except the last, which makes
-- the rest.
unfoldable pub counts_of : ℕ → ℕ → List ℕ
counts_of most n = replicate (n / most) most ++ (if n % most == 0 then [] else n % most ∷ [])

-- The operations that make the steps or set the pins that are left, beginning in this state.
abbrev pub commands_of : StepCursor → State → List Command
commands_of (makes.Search n) state = map command.Search (counts_of MAX_SEARCH_STEPS n)
commands_of (makes.Anneal n) state = map command.Anneal (counts_of MAX_ANNEAL_PIECE n)
commands_of (makes.Reduce n) state = map command.Reduce (counts_of MAX_REDUCE_STEPS n)
commands_of (makes.Stages from to) Empty = []
commands_of (makes.Stages from to) (Loaded j) = stage_commands from to j
commands_of (makes.InStage from to) Empty = []
commands_of (makes.InStage from to) (Loaded j) = commands_in_stage from to j
commands_of (makes.Freeze t v) Empty = []
commands_of (makes.Freeze t v) (Loaded j) = freeze_commands t v j

-- These steps, or `StepsSpent` if n more would be above `MAX_STEPS` in all.
abbrev pub unless_spent : JobValue → ℕ → StepCursor → Result StepCursor Answer
unless_spent j n steps = if nat_le (j.steps + n) MAX_STEPS then Ok steps else Err (answer.Refused StepsSpent)

-- `reach N`: the search steps that are left up to step N, if one command may make that many.
abbrev pub steps_to_reach : JobValue → ℕ → Result StepCursor Answer
steps_to_reach j n = if nat_le n (j.steps + MAX_REQUESTED_STEPS) then Ok (makes.Search (n - j.steps)) else Err (answer.Refused Range)

-- `anneal FROM TO`: the steps `from..to` that are left, if the job has reached FROM and one command may make
-- that many.
abbrev pub steps_in_stages : JobValue → ℕ → ℕ → Result StepCursor Answer
steps_in_stages j from to = if nat_le from j.steps && nat_le to (j.steps + MAX_REQUESTED_STEPS) then Ok (makes.Stages from to) else Err (answer.Refused Range)

-- `freeze T`: the pins of all vehicles, or `NoTimes` if the instance has no times.
abbrev pub steps_to_freeze : Kind → ℕ → Result StepCursor Answer
steps_to_freeze LiLim t = Ok (makes.Freeze t 1)
steps_to_freeze Vrp t = Err answer.NoTimes

-- The steps or pins that a command has to make in a job, or its refusal.
abbrev pub steps_from : JobValue → StepRequest → Result StepCursor Answer
steps_from j (goal.Search n) = unless_spent j n (makes.Search n)
steps_from j (goal.Anneal n) = unless_spent j n (makes.Anneal n)
steps_from j (goal.Reduce n) = unless_spent j n (makes.Reduce n)
steps_from j (goal.Reach n) = steps_to_reach j n
steps_from j (goal.Stages from to) = steps_in_stages j from to
steps_from j (goal.Freeze t) = steps_to_freeze j.problem.kind t

-- The steps or pins that a command has to make, or its refusal; `NoInstance` before the first `load`.
abbrev pub steps_to_make : State → StepRequest → Result StepCursor Answer
steps_to_make Empty g = Err (answer.Refused NoInstance)
steps_to_make (Loaded j) g = steps_from j g

-- The reply to a command that makes these steps or pins, or is refused.
abbrev pub steps_or_refusal : ServerState → Result StepCursor Answer → Reply
steps_or_refusal s (Ok steps) = operations_reply s (commands_of steps s.state)
steps_or_refusal s (Err a) = answer_reply s a

-- The reply to a command with a number that its field can't hold: this refusal, or `NoInstance` before the first
-- `load`.
abbrev pub refusal_reply : ServerState → State → Refusal → Reply
refusal_reply s Empty r = answer_reply s (answer.Refused NoInstance)
refusal_reply s (Loaded j) r = answer_reply s (answer.Refused r)

-- A text that needs memory and then `ok`, or `OutOfMemory`, by the fate of the attempt.
abbrev pub text_then_ok : Fate → ServerState → List ℕ → Reply
text_then_ok NoMemory s text = answer_reply s (answer.Refused OutOfMemory)
text_then_ok _ s text = with_text text (answer_reply s answer.Ok)

-- The reply to `show`.
abbrev pub show_reply : ServerState → State → Reply
show_reply s Empty = answer_reply s (answer.Refused NoInstance)
show_reply s (Loaded j) = text_then_ok (next_fate s.fates) (after_attempt s) (show_text j)

-- The reply to `print`: the solution, or `no Unplanned` if a request is in no route.
abbrev pub print_reply : ServerState → State → Reply
print_reply s Empty = answer_reply s (answer.Refused NoInstance)
print_reply s (Loaded j) =
    if unplanned_count j.problem j.plan == 0 then text_then_ok (next_fate s.fates) (after_attempt s) (print_text j) else answer_reply s answer.Unplanned

-- The reply to `instance`: the problem as an instance, or `no NoFormat` if no format can express it.
abbrev pub instance_reply : ServerState → State → Reply
instance_reply s Empty = answer_reply s (answer.Refused NoInstance)
instance_reply s (Loaded j) = if has_format j.problem then text_then_ok (next_fate s.fates) (after_attempt s) (instance_text j.problem) else answer_reply s answer.NoFormat

-- The reply to a question: this refusal, or else the text.
abbrev pub text_unless : Option Refusal → ServerState → List ℕ → Reply
text_unless (Some r) s text = answer_reply s (answer.Refused r)
text_unless None s text = text_then_ok (next_fate s.fates) (after_attempt s) text

-- The reply to `timetable` or `why`.
abbrev pub question_reply : Question → ServerState → State → Reply
question_reply q s Empty = answer_reply s (answer.Refused NoInstance)
question_reply q s (Loaded j) = text_unless (question_refusal j q) s (question_text j q)

-- A line that needs no memory, and then `ok`.
abbrev pub line_then_ok : ServerState → List ℕ → Reply
line_then_ok s text = with_text (line text) (answer_reply s answer.Ok)

-- The reply to `next`.
abbrev pub next_reply : ServerState → State → Reply
next_reply s Empty = answer_reply s (answer.Refused NoInstance)
next_reply s (Loaded j) = line_then_ok s (next_text j)

-- The reply to `load` after its text was read: the operation that loads the problem, or the first fault of the
-- text.
abbrev pub load_text_reply : ServerState → ℕ → Result Instance ReadFault → Reply
load_text_reply s seed (Ok p) = by_fate (next_fate s.fates) (after_attempt s) (command.Load p seed) (λ t. answer_reply t answer.Ok)
load_text_reply s seed (Err fault) = answer_reply (after_attempt s) (answer.Read fault)

-- The reply to `load`, by the fate of reading its text. Out of memory is reported before a fault of the text.
abbrev pub load : Fate → ServerState → ℕ → Result Instance ReadFault → Reply
load NoMemory s seed found = answer_reply (after_attempt s) (answer.Refused OutOfMemory)
load _ s seed found = load_text_reply s seed found

-- The reply to `adopt` with a plan that was read, which the state refuses for this reason or else accepts.
-- Reading the text was an attempt of its own.
abbrev pub adopted_unless : Option Refusal → ServerState → Plan → Reply
adopted_unless (Some r) s plan = answer_reply (after_attempt s) (answer.Refused r)
adopted_unless None s plan = by_fate (next_fate s.fates) (after_attempt s) (command.Adopt plan) (λ t. answer_reply t answer.Ok)

-- The reply to `adopt` after its text was read: the operation that adopts the plan, or the reason why there is
-- no plan.
abbrev pub adopt_text_reply : ServerState → Result Plan AssignmentFault → Reply
adopt_text_reply s (Ok plan) = adopted_unless (refusal s.state (command.Adopt plan)) s plan
adopt_text_reply s (Err why) = answer_reply (after_attempt s) (answer.AssignmentFault why)

-- The reply to `adopt`, by the fate of reading its text. Out of memory is reported before a fault of the text.
abbrev pub adopt : Fate → ServerState → Result Plan AssignmentFault → Reply
adopt NoMemory s found = answer_reply (after_attempt s) (answer.Refused OutOfMemory)
adopt _ s found = adopt_text_reply s found

-- The reply to `adopt` in this state, by what its text contains for the problem and the pins of the state.
abbrev pub adopt_on : Reading → List ℕ → ServerState → State → Reply
adopt_on reading text s Empty = answer_reply s (answer.Refused NoInstance)
adopt_on reading text s (Loaded j) = adopt (next_fate s.fates) s (reading.plan j.problem j.pins text)

-- The reply to a command that announces a text, by its purpose and its text.
abbrev pub text_reply : Reading → Purpose → List ℕ → ServerState → Reply
text_reply reading (purpose.Load format seed) text s = load (next_fate s.fates) s seed (reading.instance format text)
text_reply reading purpose.Adopt text s = adopt_on reading text s s.state

-- This reply, or `no Broken` after a failed device.
abbrev pub unless_broken : ServerState → Reply → Reply
unless_broken s r = if s.is_broken then answer_reply s answer.Broken else r

-- The reply to a parsed line with its text. `short` says whether announced bytes are missing.
abbrev pub command_reply : Reading → ServerState → ParsedCommand → List ℕ → Bool → Reply
command_reply reading s Nothing text short = record { text = []; commands = []; left = s }
command_reply reading s BadLine text short = answer_reply s answer.BadLine
command_reply reading s BadText text short = answer_reply s answer.BadLine
command_reply reading s TextRange text short = answer_reply s (answer.Refused Range)
command_reply reading s (Text purpose len) text short = if short then answer_reply s answer.Truncated else unless_broken s (text_reply reading purpose text s)
command_reply reading s (Plain c) text short = plain s c
command_reply reading s (Refused r) text short = unless_broken s (refusal_reply s s.state r)
command_reply reading s (Steps g) text short = unless_broken s (steps_or_refusal s (steps_to_make s.state g))
command_reply reading s Print text short = unless_broken s (print_reply s s.state)
command_reply reading s PrintInstance text short = unless_broken s (instance_reply s s.state)
command_reply reading s Show text short = unless_broken s (show_reply s s.state)
command_reply reading s (Ask q) text short = unless_broken s (question_reply q s s.state)
command_reply reading s Next text short = unless_broken s (next_reply s s.state)
command_reply reading s Help text short = line_then_ok s help_text

-- The reply to one piece of the input.
unfoldable pub reply : Reading → ServerState → Piece → Reply
reply reading s piece = command_reply reading s piece.requested piece.text (is_short piece)

-- The replies to all pieces, one after another.
unfoldable pub pieces_reply : Reading → ServerState → List Piece → Reply
pieces_reply reading s [] = record { text = []; commands = []; left = s }
pieces_reply reading s (piece ∷ pieces) = let r = reply reading s piece in joined_replies r (pieces_reply reading r.left pieces)

-- A session in this state whose device has not failed.
abbrev pub unbroken_session : State → List Fate → ServerState
unbroken_session state fates = record { state = state; is_broken = false; fates = fates }

-- The text that is written for an input, if its attempts have these fates.
abbrev pub texts : Reading → State → List ℕ → List Fate → List ℕ
texts reading state input fates = (pieces_reply reading (unbroken_session state fates) (pieces_of input)).text

-- The operations that are executed for an input, if its attempts have these fates.
abbrev pub commands : Reading → State → List ℕ → List Fate → List Command
commands reading state input fates = (pieces_reply reading (unbroken_session state fates) (pieces_of input)).commands
