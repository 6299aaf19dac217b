-- The result of rounds as a fold over states. A prefix of the commands of each round is recovered. All these
-- prefixes, joined, are one list of commands.
use Rattle.std.specs.Prelude.{◌≡◌, ℕ, ◌+◌, ◌≤◌, true, List, [], ◌∷◌, ◌++◌, length, take, sum_by, ⊤}
use Rattle.std.specs.List.{list_all}
use Rattle.command_types.specs.Job.{JobValue}
use Rattle.command_core.specs.Effects.{searched, annealed}
use Rattle.command_types.specs.Commands.{is_searching, is_annealing, steps_of}
use Rattle.command_core.specs.Runs.{after, AreAccepted, last_change}
use Rattle.command_core.specs.RunLaws.{IsNoWorse}
use Rattle.command_types.specs.declared.states.State.{State}
use Rattle.command_types.specs.declared.states.State.TheVariants.{Loaded}
use Rattle.command_types.specs.declared.commands.Command.{Command}
use Rattle.recover.specs.declared.replies.Run.{Run}
use Rattle.recover.specs.declared.rounds.Round.{Round}
use Rattle.state_codec.specs.declared.version.Version.TheVariants.{Two}
use Rattle.recover.specs.RecoversTo.{RecoversTo}
use Rattle.recover.specs.Replies.{kept_commands}
use Rattle.recover.specs.Headline.{HasPassingPlan}
use Rattle.recover.specs.Rounds.{count_ok}

-- The number of recovered commands of a round: all acknowledged ones, and at most one more of those kept.
pub record IsCount (round : Round) (run : Run) (count : ℕ) : Type 0 where
  pub all_acknowledged : count_ok run.replies.items ≤ count
  pub one_more : count ≤ count_ok run.replies.items + 1
  pub within : count ≤ length (kept_commands round.commands.items run.replies.items)

-- One number of recovered commands for each round.
abbrev pub AreCounts : List Round → List Run → List ℕ → Type 0
AreCounts [] [] [] = ⊤
AreCounts (round ∷ rounds) (run ∷ runs) (count ∷ counts) = IsCount round run count × AreCounts rounds runs counts
AreCounts _ _ _ = ⊥

-- The recovered commands of all rounds.
abbrev pub recovered_commands : List Round → List Run → List ℕ → List Command
recovered_commands (round ∷ rounds) (run ∷ runs) (count ∷ counts) = take count (kept_commands round.commands.items run.replies.items) ++ recovered_commands rounds runs counts
recovered_commands _ _ _ = []

-- These commands lead from one state to another. The plan passes the auditor, and no incumbent since the last
-- change of requests or pins had a lower cost. Searches at the end, with or without checkpoints between them,
-- have the result of one search with all their steps. The same holds for annealings.
pub record LeadsTo (begun : State) (commands : List Command) (given : State) : Type 0 where
  pub accepted : AreAccepted begun commands
  pub state : given ≡ after begun commands
  pub plan : HasPassingPlan given
  pub cost : (q : ℕ) → last_change commands ≤ q → q ≤ length commands → IsNoWorse (after begun (take q commands)) given
  pub search : (before searches : List Command) (job : JobValue) → before ++ searches ≡ commands → list_all is_searching searches ≡ true
      → after begun before ≡ Loaded job → given ≡ Loaded (searched job (sum_by steps_of searches))
  pub annealing : (before annealings : List Command) (job : JobValue) → before ++ annealings ≡ commands → list_all is_annealing annealings ≡ true
      → after begun before ≡ Loaded job → given ≡ Loaded (annealed job (sum_by steps_of annealings))

-- This image recovers to a state, and the recovered commands lead from that state to the given one.
pub record IsFold (image : List ℕ) (rounds : List Round) (runs : List Run) (given : State) : Type 0 where
  pub begun : State
  pub recovers : RecoversTo Two image begun
  pub counts : List ℕ
  pub one_each : AreCounts rounds runs counts
  pub leads : LeadsTo begun (recovered_commands rounds runs counts) given
