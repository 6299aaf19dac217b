-- The subcommand `adopt`: it reads a solution and makes it the plan of the store in a file. `reported` is the
-- exit status, or an error if printing the answer failed; everything else holds in both cases. If the program
-- tried to open the store and printing failed, at most a prefix of the answer was written.
use Rattle.std.specs.Prelude.{◌≡◌, ◌≢◌, ◌⊎◌, ℕ, List, ◌∷◌, codes, Option, Some, None, Result, Ok, Err, IfOk, MatchResult}
use Rattle.std.specs.declared.io.ErrorKind.{ErrorKind}
use Rattle.plan_types.specs.declared.plans.Plan.{Plan}
use Rattle.vehicle_assignment.specs.AssignedPlan.{IsFoundOrOutOfMemory}
use Rattle.vehicle_assignment.specs.declared.faults.AssignmentFault.{AssignmentFault}
use Rattle.vehicle_assignment.specs.declared.faults.AssignmentFault.TheVariants as seats
use Rattle.command_types.specs.declared.commands.Command.TheVariants.{Adopt}
use Rattle.command_types.specs.declared.refusals.Refusal.{Refusal}
use Rattle.command_types.specs.declared.refusals.Refusal.TheVariants.{NotAPlan, Dearer}
use Rattle.command_types.specs.declared.states.State.{State}
use Rattle.command_types.specs.declared.states.State.TheVariants.{Empty, Loaded}
use Rattle.command_server.specs.Streams.{Stream}
use Rattle.command_text.specs.Answers.{line, assignment_fault_text}
use Rattle.auditor_cli.specs.Reads.{FileRead}
use Rattle.auditor_cli.specs.Messages.{PrintsReadFailure}
use Rattle.planner_cli.specs.StoreDevices.{IsLeftOnFailure}
use Rattle.planner_cli.specs.Load.{DiskRequests}
use Rattle.planner_cli.specs.Opening.{OpensStore, open_failure_line, open_failure_status}
use Rattle.planner_cli.specs.Messages.{PrintsAnswer, PrintsText, denial_status}
use Rattle.planner_cli.specs.declared.adopt.AdoptRefusal.{AdoptRefusal}
use Rattle.planner_cli.specs.declared.adopt.AdoptRefusal.TheVariants as none
use Rattle.recover.specs.Applying.{IsApplied}
use Rattle.recover.specs.Sessions.{SessionValue}
use Rattle.recover.specs.declared.denials.Denial.{Denial}
use Rattle.recover.specs.declared.denials.Denial.TheVariants as denial
use Rattle.recover.specs.declared.replies.Reply.{Reply}
use Rattle.file_disk.specs.declared.device_files.FileRequest.TheVariants.{OpenExisting}
use Rattle.sector_disk.specs.declared.sectors.Sectors as sectors

-- ---- A solution that is not a plan for the store

-- The result of reading the solution `text` for a state: its plan for the state's problem and pins, or the reason
-- why there is none.
abbrev pub FindsPlan : State → List ℕ → Result Plan AdoptRefusal → Type 0
FindsPlan Empty text found = found ≡ Err none.NoInstance
FindsPlan (Loaded job) text (Ok plan) = IsFoundOrOutOfMemory job.problem job.pins text (Ok plan)
FindsPlan (Loaded job) text (Err (none.AssignmentFault unseated)) = IsFoundOrOutOfMemory job.problem job.pins text (Err unseated)
FindsPlan (Loaded job) text (Err none.NoInstance) = ⊥

-- The exit status if a solution is not a plan: 2 for a malformed file, 1 for a broken rule or for a pin that
-- begins no route, 4 if memory ran out.
abbrev pub assignment_fault_status : AssignmentFault → ℕ
assignment_fault_status (seats.Sol fault) = 2
assignment_fault_status (seats.Broken rule route place stop) = 1
assignment_fault_status (seats.PinWithoutRoute vehicle) = 1
assignment_fault_status seats.OutOfMemory = 4

-- The line that names this reason. The command `adopt` of `run` prints the same line.
abbrev pub adopt_refusal_text : AdoptRefusal → List ℕ
adopt_refusal_text none.NoInstance = line (codes "no NoInstance")
adopt_refusal_text (none.AssignmentFault unseated) = line (assignment_fault_text unseated)

-- The exit status for this reason: 2 if the store holds no instance, and otherwise that of the assignment fault.
abbrev pub adopt_refusal_status : AdoptRefusal → ℕ
adopt_refusal_status none.NoInstance = 2
adopt_refusal_status (none.AssignmentFault unseated) = assignment_fault_status unseated

-- ---- The answer of the store to a plan

-- The exit status if the state refuses the plan: 1 if the plan breaks a rule or costs more than the incumbent,
-- and 2 for every other reason.
abbrev pub refusal_status : Refusal → ℕ
refusal_status NotAPlan = 1
refusal_status Dearer = 1
refusal_status _ = 2

-- The exit status if the session denies `adopt`: that of the refusal if the state refuses, and otherwise that of
-- the denial.
abbrev pub adopt_status : Denial → ℕ
adopt_status (denial.Core refusal) = refusal_status refusal
adopt_status other = denial_status other

module _ {D X : Type 0} (on : sectors.Ghosts D) where
  -- The session answered the command `Adopt`, and all guarantees of `apply` hold, whether or not the answer could
  -- be printed. So after `Ok`, if the device is honest, every crash image recovers to the state with this plan.
  -- `ok` is written after all device calls of the command have finished.
  pub record IsAnswered (old : SessionValue D) (plan : Plan) (before after : Stream) (new : SessionValue D) (reported : Result ℕ X) : Type 0 where
    pub reply : Reply
    pub applied : IsApplied on.len on.calls on.faults on.honest on.clock on.possible_since on.possible old (Adopt plan) reply new
    pub tells : PrintsAnswer adopt_status reply.answer (on.calls new.device) before after reported
    -- The plan passes the audit, so the session does not answer `NotAPlan`. `no NotAPlan` is printed only for a
    -- solution that breaks a rule, after the line about the violation.
    pub is_plan : reply.answer ≢ Err (denial.Core NotAPlan)

  -- Either the solution is a plan and the session answered `Adopt` with it. Or there is no plan, the line with
  -- the reason is printed, and the session stays as it is.
  abbrev pub AdoptsText : SessionValue D → List ℕ → Stream → Stream → SessionValue D → Result ℕ X → Type 0
  AdoptsText old text before after new reported =
      (found : Result Plan AdoptRefusal) × FindsPlan old.state text found
      × MatchResult found (λ plan. IsAnswered old plan before after new reported)
      (λ unadopted. (new ≡ old) × PrintsText (adopt_refusal_text unadopted) (adopt_refusal_status unadopted) before.contents after.contents reported)

  -- Either the store in the file at a path is opened and the solution passed to its session. Or the reason why
  -- the store was not opened is printed. `IsOld` says what is known about the device over the file, and `left` is
  -- the device afterwards.
  abbrev pub AdoptsStore : (List ℕ → D → Type 0) → List ℕ → List ℕ → Stream → Stream → Result ℕ X → Option D → Type 0
  AdoptsStore IsOld path text before after reported left =
      OpensStore on IsOld path (λ opened. (new : SessionValue D) × (left ≡ Some new.device) × AdoptsText opened.session text before after new reported)
      (λ unopened. IsLeftOnFailure on unopened left × PrintsText (open_failure_line path unopened) (open_failure_status unopened) before.contents after.contents reported)

  -- The solution's file is read first. If it can't be read, a line says so and no store is opened.
  abbrev pub AdoptsSolution : (List ℕ → D → Type 0) → DiskRequests → List ℕ → List ℕ → List FileRead → List FileRead → Stream → Stream → Result ℕ X → Option D → Type 0
  AdoptsSolution IsOld disks path solution was now before after reported left =
      ((x : List ℕ) × (now ≡ (solution, Ok x) ∷ was) × (disks.now ≡ (OpenExisting, path) ∷ disks.was) × AdoptsStore IsOld path x before after reported left)
      ⊎ ((error : ErrorKind) × (now ≡ (solution, Err error) ∷ was) × (disks.now ≡ disks.was) × (left ≡ None) × IfOk reported (PrintsReadFailure solution error before.contents after.contents))
