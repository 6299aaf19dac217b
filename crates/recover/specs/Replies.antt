-- The kept commands and the number of acknowledged ones, from the answers.
use Rattle.std.specs.Prelude.{ℕ, nat_le, ◌&&◌, Bool, List, [], ◌∷◌, count_by, Result, Ok, Err, is_ok}
use Rattle.command_types.specs.declared.commands.Command.{Command}
use Rattle.recover.specs.declared.denials.Denial.{Denial}
use Rattle.recover.specs.declared.denials.Denial.TheVariants.{Broken, Core, Spent, OutOfMemory, DeviceFault}
use Rattle.recover.specs.declared.replies.Reply.{Reply}

-- the kept commands from `command` on; `rest` has the kept ones after it. A command that was not kept is left
-- out. After a failure of the device no later command is kept
abbrev pub kept_first : {T : Type 0} → Command → Result T Denial → List Command → List Command
kept_first command (Ok done) rest = command ∷ rest
kept_first command (Err DeviceFault) rest = command ∷ []
kept_first command (Err Broken) rest = rest
kept_first command (Err (Core refusal)) rest = rest
kept_first command (Err Spent) rest = rest
kept_first command (Err OutOfMemory) rest = rest

-- the commands that were answered Ok, in order, followed by the one that was answered DeviceFault, if there is
-- one
abbrev pub kept_commands : List Command → List Reply → List Command
kept_commands [] replies = []
kept_commands (command ∷ commands) [] = []
kept_commands (command ∷ commands) (reply ∷ replies) = kept_first command reply.answer (kept_commands commands replies)

-- the reply is Ok, and was given when at most m calls of the device had finished
abbrev pub is_acknowledged : ℕ → Reply → Bool
is_acknowledged m reply = is_ok reply.answer && nat_le reply.calls m

-- the number of acknowledged commands, which a crash after m finished calls must not lose
abbrev pub acknowledged_count : ℕ → List Reply → ℕ
acknowledged_count m replies = count_by (is_acknowledged m) replies
