-- The laws about cutting an input into lines, and about the state after its answers.
use Rattle.std.specs.Prelude.{◌≡◌, ℕ, ◌<◌, ◌≤◌, List, [], ◌∷◌, ◌++◌, take, drop, length, if◌then◌else◌}
use Rattle.std.specs.Str.Lines.{strip_carriage_return}
use Rattle.text_lines.specs.Lines.{HasNoLineFeed}
use Rattle.plan_types.specs.Instance.{Instance, IsInstance}
use Rattle.plan_types.specs.declared.limits.TheConstants.{MAX_STEPS}
use Rattle.command_types.specs.Job.{JobValue}
use Rattle.command_core.specs.Runs.{after}
use Rattle.command_types.specs.declared.states.State.{State}
use Rattle.command_types.specs.declared.states.State.TheVariants.{Loaded}
use Rattle.instance_read.specs.declared.formats.Format.{Format}
use Rattle.command_text.specs.Answering.{Fate, ServerState, unbroken_session, commands_of, steps_or_refusal, pieces_reply, steps_to_make}
use Rattle.command_text.specs.Parsing.{parsed_line}
use Rattle.command_text.specs.Cutting.{Piece, announced_len, ends, pieces_of}
use Rattle.command_text.specs.Readings.{IsReading, Reading}
use Rattle.command_text.specs.Staging.{stage_commands}
use Rattle.command_text.specs.declared.parsed_command.ParsedCommand.{ParsedCommand}
use Rattle.command_text.specs.declared.steps.StepRequest.{StepRequest}
use Rattle.command_text.specs.declared.steps.StepRequest.TheVariants as goal
use Rattle.command_text.specs.declared.steps.StepCursor.TheVariants as makes

-- The piece of a parsed line. Its announced bytes are the first ones of `rest`, the input after the line feed.
abbrev pub piece_at : ParsedCommand → List ℕ → Piece
piece_at a rest = record { requested = a; text = take (announced_len a) rest }

-- The piece of a line and the pieces after it, unless the rest of the input is not served.
abbrev pub cut_at : ParsedCommand → List ℕ → List Piece
cut_at a rest = piece_at a rest ∷ (if ends (piece_at a rest) then [] else pieces_of (drop (announced_len a) rest))

-- Law: a line ends at the first line feed, without the one carriage return before it. The bytes that the line
-- announces follow, and then the next line.
abbrev pub PiecesFollow : Type 0
PiecesFollow = (line rest : List ℕ) → HasNoLineFeed line → pieces_of (line ++ 10 ∷ rest) ≡ cut_at (parsed_line (strip_carriage_return line)) rest

-- Law: at the end of the input, bytes without a line feed are a line if there is at least one.
abbrev pub PiecesEnd : Type 0
PiecesEnd = (line : List ℕ) → HasNoLineFeed line → 0 < length line → pieces_of line ≡ piece_at (parsed_line (strip_carriage_return line)) [] ∷ []

-- Law: the session ends in the state after the operations that it has executed.
abbrev pub StatesFollow : Type 0
StatesFollow = (reading : Reading) (s : ServerState) (pieces : List Piece) → (pieces_reply reading s pieces).left.state ≡ after s.state (pieces_reply reading s pieces).commands

-- Law: the operations of `anneal FROM TO` may be cut off after any number of them. If the command is then
-- repeated, it ends in the same state as without the interruption.
abbrev pub StagesMayBeCut : Type 0
StagesMayBeCut = (from to : ℕ) (j : JobValue) (count : ℕ) → let mid = after (Loaded j) (take count (stage_commands from to j)) in
    after mid (commands_of (makes.Stages from to) mid) ≡ after (Loaded j) (stage_commands from to j)

-- The state after a command that makes steps, if its attempts have these fates.
abbrev pub state_after_steps : StepRequest → State → List Fate → State
state_after_steps goal state fates = (steps_or_refusal (unbroken_session state fates) (steps_to_make state goal)).left.state

-- Law: the command `anneal FROM TO` may be cut short, whatever the fates of its attempts are. If it is then
-- repeated and no attempt fails, it ends in the same state as without the interruption.
abbrev pub StagedLinesMayBeCut : Type 0
StagedLinesMayBeCut = (from to : ℕ) (state : State) (fates : List Fate) → to ≤ MAX_STEPS
    → state_after_steps (goal.Stages from to) (state_after_steps (goal.Stages from to) state fates) [] ≡ state_after_steps (goal.Stages from to) state []

-- Law: the command `reach N` may be cut short, whatever the fates of its attempts are. If it is then repeated
-- and no attempt fails, it ends in the same state as without the interruption.
abbrev pub ReachedLinesMayBeCut : Type 0
ReachedLinesMayBeCut = (n : ℕ) (state : State) (fates : List Fate) → n ≤ MAX_STEPS
    → state_after_steps (goal.Reach n) (state_after_steps (goal.Reach n) state fates) [] ≡ state_after_steps (goal.Reach n) state []

-- Law: there is a reading, that is, each text has contents.
abbrev pub SomeReadingExists : Type 0
SomeReadingExists = (reading : Reading) × IsReading reading

-- Two readings return the same contents for each text, if the problem of a solution is valid.
pub record ReadAlike (reading other : Reading) : Type 0 where
  pub instances : (format : Format) (text : List ℕ) → reading.instance format text ≡ other.instance format text
  pub plans : (p : Instance) (pins : List (List ℕ)) (text : List ℕ) → IsInstance p → reading.plan p pins text ≡ other.plan p pins text

-- Law: any two readings return the same contents for each text.
abbrev pub ReadingsAgree : Type 0
ReadingsAgree = (reading other : Reading) → IsReading reading → IsReading other → ReadAlike reading other
