-- The lines of answers, byte by byte. Numbers are in decimal.
use Rattle.std.specs.Prelude.{ℕ, List, ◌++◌, [], ◌∷◌, codes, decimal}
use Rattle.plan_types.specs.declared.plans.Cost.{Cost}
use Rattle.route_sched.specs.Cost.{cost_of}
use Rattle.command_types.specs.Job.{JobValue}
use Rattle.command_types.specs.Names.{refusal_name}
use Rattle.instance_read.specs.Names.{kind_name}
use Rattle.instance_read.specs.declared.faults.ReadFaultKind.{ReadFaultKind}
use Rattle.instance_read.specs.declared.faults.ReadFaultKind.TheVariants.{OutOfMemory}
use Rattle.sol_text.specs.Names.{kind_name as sol_name}
use Rattle.sol_text.specs.declared.faults.SolFaultKind.{SolFaultKind}
use Rattle.sol_text.specs.declared.faults.SolFaultKind.TheVariants as sol
use Rattle.vehicle_assignment.specs.declared.faults.AssignmentFault.{AssignmentFault as SolutionFault}
use Rattle.vehicle_assignment.specs.declared.faults.AssignmentFault.TheVariants as assignment
use Rattle.command_text.specs.declared.help.TheConstants.{HELP}
use Rattle.command_text.specs.declared.answers.Answer.{Answer}
use Rattle.command_text.specs.declared.answers.Answer.TheVariants.{Ok, BadLine, Truncated, Broken, Refused, Read, AssignmentFault, Unplanned, NoTimes, NoFormat, Spent, DeviceFault}

-- A line with its line feed.
abbrev pub line : List ℕ → List ℕ
line text = text ++ 10 ∷ []

-- A refusal: `no NAME`.
abbrev pub no_text : List ℕ → List ℕ
no_text name = codes "no " ++ name

-- The fault of an instance: `no NAME LINE`, with lines counted from 1. Out of memory has no line number.
abbrev pub read_text : ReadFaultKind → ℕ → List ℕ
read_text OutOfMemory number = no_text (codes "OutOfMemory")
read_text kind number = no_text (kind_name kind) ++ codes " " ++ decimal number

-- The fault of a solution: `no NAME LINE`, with lines counted from 1. Out of memory has no line number.
abbrev pub sol_fault_text : SolFaultKind → ℕ → List ℕ
sol_fault_text sol.OutOfMemory number = no_text (codes "OutOfMemory")
sol_fault_text kind number = no_text (sol_name kind) ++ codes " " ++ decimal number

-- The first violation of a solution: `broken RULE route R place P stop S`, with routes and places counted from
-- 1.
abbrev pub broken_text : ℕ → ℕ → ℕ → ℕ → List ℕ
broken_text rule route place stop = codes "broken " ++ decimal rule ++ codes " route " ++ decimal route ++ codes " place " ++ decimal place ++ codes " stop " ++ decimal stop

-- The reason why a solution does not become a plan: its fault, or the auditor's line and `no NotAPlan`, or `no
-- Pinned`. The last one means that no route begins with the pin of some vehicle.
abbrev pub assignment_fault_text : SolutionFault → List ℕ
assignment_fault_text (assignment.Sol fault) = sol_fault_text fault.kind fault.line
assignment_fault_text (assignment.Broken rule route place stop) = line (broken_text rule route place stop) ++ no_text (codes "NotAPlan")
assignment_fault_text (assignment.PinWithoutRoute vehicle) = no_text (codes "Pinned")
assignment_fault_text assignment.OutOfMemory = no_text (codes "OutOfMemory")

-- The line that ends the answer to a command, without its line feed. If a solution breaks a rule, the auditor's
-- line comes before it.
abbrev pub answer_text : Answer → List ℕ
answer_text Ok = codes "ok"
answer_text BadLine = no_text (codes "BadLine")
answer_text Truncated = no_text (codes "Truncated")
answer_text Broken = no_text (codes "Broken")
answer_text (Refused refusal) = no_text (refusal_name refusal)
answer_text (Read fault) = read_text fault.kind fault.line
answer_text (AssignmentFault why) = assignment_fault_text why
answer_text Unplanned = no_text (codes "Unplanned")
answer_text NoTimes = no_text (codes "NoTimes")
answer_text NoFormat = no_text (codes "NoFormat")
answer_text Spent = no_text (codes "Spent")
answer_text DeviceFault = codes "fault device"

-- `U V D`: the unplanned requests, the vehicles and the distance.
abbrev pub cost_text : Cost → List ℕ
cost_text cost = decimal cost.unplanned ++ codes " " ++ decimal cost.vehicles ++ codes " " ++ decimal cost.distance

-- The number that the next request gets, a pair for its pickup: `next N`.
abbrev pub next_text : JobValue → List ℕ
next_text j = codes "next " ++ decimal j.problem.next_number

-- The answer to `help`: the text of the constant `HELP`.
unfoldable pub help_text : List ℕ
help_text = HELP.now

-- A pin that a command has set: `pin V K`, for the first K stops of vehicle V.
abbrev pub pin_text : ℕ → ℕ → List ℕ
pin_text v k = codes "pin " ++ decimal v ++ codes " " ++ decimal k

-- The progress of a command that makes steps: `at STEPS UNPLANNED VEHICLES DISTANCE`.
abbrev pub at_text : JobValue → List ℕ
at_text j = codes "at " ++ decimal j.steps ++ codes " " ++ cost_text (cost_of j.problem j.plan)
