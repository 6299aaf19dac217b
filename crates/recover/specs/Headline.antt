-- The headline. After a crash at any moment of a run, with any image that the device allows, recovery returns
-- the state after a prefix of the commands. The prefix has every acknowledged command, and at most one more.
-- The plan passes the auditor, and costs no more than any incumbent since the last change of requests or pins.
use Rattle.std.specs.Prelude.{◌≡◌, ℕ, ◌+◌, ◌≤◌, false, List, length, take, Result, ⊤}
use Rattle.plan_types.specs.declared.plans.Cost.{Cost}
use Rattle.plan_audit.specs.Verdict.{planned, IsVerdict}
use Rattle.plan_audit.specs.declared.rules.Verdict.TheVariants.{Pass}
use Rattle.command_core.specs.Runs.{after, AreAccepted, last_change}
use Rattle.command_core.specs.RunLaws.{IsNoWorse}
use Rattle.command_types.specs.declared.states.State.{State}
use Rattle.command_types.specs.declared.states.State.TheVariants.{Empty, Loaded}
use Rattle.command_types.specs.declared.commands.Command.{Command}
use Rattle.state_codec.specs.declared.version.Version.TheVariants.{Two}
use Rattle.sector_disk.specs.declared.sectors.Sectors as sectors
use Rattle.checkpoint.specs.declared.faults.StoreFault.{StoreFault}
use Rattle.recover.specs.declared.replies.Reply.{Reply}
use Rattle.recover.specs.Replies.{kept_commands, acknowledged_count}
use Rattle.recover.specs.RecoversTo.{RecoversTo}
use Rattle.recover.specs.Moments.{RecoversToPrefix}
use Rattle.recover.specs.Sessions.{SessionValue}
use Rattle.recover.specs.Opening.{ReturnsUnlessFailed}

-- The incumbent plan with its pins passes the auditor. Before the first Load there is no plan.
abbrev pub HasPassingPlan : State → Type 0
HasPassingPlan Empty = ⊤
HasPassingPlan (Loaded job) = (cost : Cost) × IsVerdict job.problem (planned job.plan job.pins) (Pass cost)

-- The conclusion, which mentions no device. The given state is the one after the first `count` of the kept
-- commands, each accepted in turn: all acknowledged ones, and at most one more. Its plan passes, and no
-- incumbent since the last change among these commands had a lower cost.
pub record IsRecovered (begun : State) (commands : List Command) (acknowledged : ℕ) (given : State) : Type 0 where
  pub count : ℕ
  pub all_acknowledged : acknowledged ≤ count
  pub one_more : count ≤ acknowledged + 1
  pub within : count ≤ length commands
  pub accepted : AreAccepted begun (take count commands)
  pub state : given ≡ after begun (take count commands)
  pub plan : HasPassingPlan given
  pub cost : (q : ℕ) → last_change (take count commands) ≤ q → q ≤ count → IsNoWorse (after begun (take q commands)) given

module _ {D : Type 0} (on : sectors.Ghosts D) where
  -- The guarantee of `run` for each moment since it began, and of `apply` for one command (clause `moments`).
  -- An image that a crash may leave when m calls have finished recovers to the state after a prefix of the kept
  -- commands. The prefix has all commands that were acknowledged by then, and at most one more.
  abbrev pub LeavesPrefix : SessionValue D → List Command → List Reply → SessionValue D → Type 0
  LeavesPrefix old commands replies new = old.is_broken ≡ false → on.honest new.device → (m : ℕ) (image : List ℕ)
      → on.possible_since new.device (on.clock old.device) m image → RecoversToPrefix old.state (kept_commands commands replies) (acknowledged_count m replies) image

  -- The guarantee of `open` (clause `opens`): it returns the state to which the image that reads return
  -- recovers, unless memory runs out or the device fails.
  abbrev pub OpensToImageState : D → Result State StoreFault → D → Type 0
  OpensToImageState device outcome left = on.honest left → (state : State) → RecoversTo Two (on.seen device) state
      → ReturnsUnlessFailed (λ given. given ≡ state) outcome

module _ {D E : Type 0} (on : sectors.Ghosts D) (again : sectors.Ghosts E) where
  abbrev pub Headline : Type 0
  Headline = (old new : SessionValue D) (commands : List Command) (replies : List Reply) (m : ℕ) (image : List ℕ) (device left : E) (outcome : Result State StoreFault)
      -- A run of a session that is not broken, over a device that has answered as the model says.
      → old.is_broken ≡ false → on.honest new.device → LeavesPrefix on old commands replies new
      -- A crash left this image at a moment since the run began, when m calls had finished.
      → on.possible_since new.device (on.clock old.device) m image
      -- A device is opened whose reads return this image, and which has answered as the model says.
      → again.seen device ≡ image → again.honest left → OpensToImageState again device outcome left
      → ReturnsUnlessFailed (IsRecovered old.state (kept_commands commands replies) (acknowledged_count m replies)) outcome
