-- Laws by which the headline composes over restarts of any devices. A link leads from the state in which a run
-- began to the state that the next opening returned (`IsRecovered`). A link mentions no device, so links of
-- different devices compose.
use Rattle.std.specs.Prelude.{◌≡◌, ℕ, List, [], ◌∷◌, ◌++◌, take}
use Rattle.command_types.specs.States.{IsState}
use Rattle.command_types.specs.declared.states.State.{State}
use Rattle.command_types.specs.declared.commands.Command.{Command}
use Rattle.recover.specs.Headline.{IsRecovered}
use Rattle.recover.specs.Folds.{LeadsTo}

-- The commands that a run kept, the number of those acknowledged before the crash, and the state that the next
-- opening returned.
pub record Restart : Type 0 where
  pub commands : List Command
  pub acknowledged : ℕ
  pub given : State

-- Links, each beginning with the state in which the previous one ended. An opening that crashed or was refused
-- adds no link.
abbrev pub AreLinked : State → List Restart → State → Type 0
AreLinked first [] last = last ≡ first
AreLinked first (restart ∷ restarts) last = IsRecovered first restart.commands restart.acknowledged restart.given × AreLinked restart.given restarts last

-- The recovered commands: for each link all acknowledged ones, and at most one more.
abbrev pub recovered_commands_in : (first : State) (restarts : List Restart) (last : State) → AreLinked first restarts last → List Command
recovered_commands_in first [] last linked = []
recovered_commands_in first (restart ∷ restarts) last linked = take linked.0.count restart.commands ++ recovered_commands_in restart.given restarts last linked.1

-- Law: the recovered commands of linked restarts, joined, lead from the first state to the last.
abbrev pub LinksCompose : Type 0
LinksCompose = (first last : State) (restarts : List Restart) → IsState first → (linked : AreLinked first restarts last) → LeadsTo first (recovered_commands_in first restarts last linked) last
