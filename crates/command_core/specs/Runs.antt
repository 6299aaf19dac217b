-- Sequences of commands
use Rattle.std.specs.Prelude.{◌≡◌, ℕ, ◌+◌, List, [], ◌∷◌, ◌++◌, None, if◌then◌else◌, ⊤}
use Rattle.std.specs.List.{list_any}
use Rattle.command_types.specs.Job.{JobValue}
use Rattle.command_types.specs.Commands.{IsCommand, assigned_by, is_change}
use Rattle.command_core.specs.Effects.{job_after, effect}
use Rattle.command_core.specs.Refusals.{refusal}
use Rattle.command_types.specs.declared.states.State.{State}
use Rattle.command_types.specs.declared.commands.Command.{Command}

-- The state after these commands, one by one
abbrev pub after : State → List Command → State
after s [] = s
after s (c ∷ cs) = after (effect s c) cs

-- Each command is accepted by the state after the commands before it
abbrev pub AreAccepted : State → List Command → Type 0
AreAccepted s [] = ⊤
AreAccepted s (c ∷ cs) = IsCommand c × (refusal s c ≡ None) × AreAccepted (effect s c) cs

-- The number of commands up to and including the last one that may change the requests or the pins; 0 if there
-- is none
abbrev pub last_change : List Command → ℕ
last_change [] = 0
last_change (c ∷ cs) = if list_any is_change (c ∷ cs) then 1 + last_change cs else 0

-- The stop numbers that these commands assign, one by one
abbrev pub assigned_by_all : JobValue → List Command → List ℕ
assigned_by_all j [] = []
assigned_by_all j (c ∷ cs) = assigned_by j c ++ assigned_by_all (job_after j c) cs
