-- Refused states, and the result of decoding
use Rattle.std.specs.Prelude.{◌≡◌, ◌⊎◌, ℕ, true, List, [], ◌∷◌, Option, Some, None, Result, Ok, Err}
use Rattle.std.specs.List.{list_all}
use Rattle.plan_types.specs.Instance.{Instance}
use Rattle.plan_audit.specs.Alone.{IsFeasibleAlone, IsFaultAlone}
use Rattle.plan_audit.specs.Passes.{feasible_alone, passes}
use Rattle.plan_audit.specs.Verdict.{planned, IsVerdict}
use Rattle.plan_audit.specs.declared.rules.Verdict.TheVariants.{Broken}
use Rattle.command_types.specs.Job.{JobValue}
use Rattle.command_types.specs.declared.states.State.{State}
use Rattle.command_types.specs.declared.states.State.TheVariants.{Empty, Loaded}
use Rattle.state_codec.specs.declared.version.Version.{Version}
use Rattle.state_codec.specs.declared.fault.CodecFault.{CodecFault}
use Rattle.state_codec.specs.declared.fault.CodecFault.TheVariants.{Truncated, BadField, PlanRefused, OutOfMemory}
use Rattle.state_codec.specs.Bytes.{state_bytes}
use Rattle.state_codec.specs.Limits.{IsStateOf}
use Rattle.state_codec.specs.Reading.{whole_state_at}

-- The auditor reports this rule as broken by the plan with these pins
abbrev pub IsPlanRefused : Instance → List (List ℕ) → List (List ℕ) → ℕ → Type 0
IsPlanRefused p pins routes rule = (r : ℕ) × (i : ℕ) × (n : ℕ) × IsVerdict p (planned routes pins) (Broken rule r i n)

-- The first pin that is not feasible by itself breaks this rule. It is the first of the rules 3 to 8 that the
-- pin breaks
abbrev pub IsPinRefused : Instance → List (List ℕ) → ℕ → Type 0
IsPinRefused p [] rule = ⊥
IsPinRefused p (pin ∷ pins) rule = IsFaultAlone p pin rule ⊎ (IsFeasibleAlone p pin × IsPinRefused p pins rule)

-- The plan is refused; or it passes and a pin is refused; or it passes, each pin is feasible by itself, and the
-- working plan is refused.
abbrev pub IsRefused : JobValue → ℕ → Type 0
IsRefused j rule =
    IsPlanRefused j.problem j.pins j.plan rule
    ⊎ (((passes j.problem j.pins j.plan ≡ true) × IsPinRefused j.problem j.pins rule)
    ⊎ ((passes j.problem j.pins j.plan ≡ true) × (list_all (feasible_alone j.problem) j.pins ≡ true) × IsPlanRefused j.problem j.pins j.work rule))

-- If a state is decoded, the bytes are its encoding. A fault of the bytes is the first one in reading order. A
-- rule is reported only for bytes that were read completely and are those of a state except for that rule.
abbrev pub Decodes : Version → List ℕ → Result State CodecFault → Type 0
Decodes v bytes (Ok state) = (bytes ≡ state_bytes v state) × IsStateOf v state
Decodes v bytes (Err Truncated) = whole_state_at v bytes ≡ Err Truncated
Decodes v bytes (Err BadField) = whole_state_at v bytes ≡ Err BadField
Decodes v bytes (Err (PlanRefused rule)) = (j : JobValue) × (whole_state_at v bytes ≡ Ok (Some j)) × (bytes ≡ state_bytes v (Loaded j)) × IsStateOf v (Loaded j) × IsRefused j rule
Decodes v bytes (Err OutOfMemory) = Unit {0}

-- The state as it is read: no job, or a job
abbrev pub option_of : State → Option JobValue
option_of Empty = None
option_of (Loaded j) = Some j

-- The result of decoding, in terms of what is read from the bytes
abbrev pub IsDecoded : Version → List ℕ → Result State CodecFault → Type 0
IsDecoded v bytes (Ok state) = whole_state_at v bytes ≡ Ok (option_of state)
IsDecoded v bytes (Err Truncated) = whole_state_at v bytes ≡ Err Truncated
IsDecoded v bytes (Err BadField) = whole_state_at v bytes ≡ Err BadField
IsDecoded v bytes (Err (PlanRefused rule)) = (j : JobValue) × (whole_state_at v bytes ≡ Ok (Some j)) × IsRefused j rule
IsDecoded v bytes (Err OutOfMemory) = Unit {0}

-- The result is this state, unless memory ran out
abbrev pub IsUnlessOutOfMemory : State → Result State CodecFault → Type 0
IsUnlessOutOfMemory state (Ok s) = s ≡ state
IsUnlessOutOfMemory state (Err e) = e ≡ OutOfMemory

-- The fault reports a broken rule, or memory ran out
abbrev pub ReportsRule : (ℕ → Type 0) → CodecFault → Type 0
ReportsRule IsReported Truncated = ⊥
ReportsRule IsReported BadField = ⊥
ReportsRule IsReported (PlanRefused rule) = IsReported rule
ReportsRule IsReported OutOfMemory = Unit {0}
