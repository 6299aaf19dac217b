-- The faults of lines with tasks or customers, line by line.
use Rattle.std.specs.Prelude.{◌≡◌, ℕ, ◌<◌, ◌≤◌, Bool, true, false, ◌⊎◌, List, [], ◌∷◌, length, Option, Some, Result, MatchResult, ℤ, pos, slice_index_or}
use Rattle.text_lines.specs.Words.{words_of}
use Rattle.plan_types.specs.declared.limits.TheConstants.{MAX_DEMAND, MAX_STOP_NUMBER}
use Rattle.instance_read.specs.declared.faults.ReadFault.{ReadFault}
use Rattle.instance_read.specs.declared.faults.ReadFaultKind.{ReadFaultKind}
use Rattle.instance_read.specs.declared.scales.Scale.{Scale}
use Rattle.instance_read.specs.declared.tasks.Task.{Task}
use Rattle.instance_read.specs.Faults.{rank, IsNoLaterPlace, out_of_memory}
use Rattle.instance_read.specs.Lilim.{stop_fault, task_limits}
use Rattle.instance_read.specs.Pairs.{task_of}
use Rattle.instance_read.specs.Rows.{Row}
use Rattle.instance_read.specs.Scales.{coordinate_range, service_range, time_range}

-- the line has this fault, and none of a smaller rank
abbrev pub IsFirstKind : (ReadFaultKind → Bool) → ReadFaultKind → Type 0
IsFirstKind fault kind = (fault kind ≡ true) × ((k : ReadFaultKind) → fault k ≡ true → rank kind ≤ rank k)

abbrev pub HasNoKind : (ReadFaultKind → Bool) → Type 0
HasNoKind fault = (k : ReadFaultKind) → fault k ≡ false

-- if there is no fault, the result is a value for which this is true; otherwise it is the first fault
abbrev pub ReadsValue : {X : Type 0} → (ReadFaultKind → Bool) → (X → Type 0) → Result X ReadFaultKind → Type 0
ReadsValue fault IsSo result = MatchResult result (λ x. HasNoKind fault × IsSo x) (IsFirstKind fault)

-- if there is a fault, the result is the first one
abbrev pub Passes : {X : Type 0} → (ReadFaultKind → Bool) → Result X ReadFaultKind → Type 0
Passes fault result = MatchResult result (λ _. HasNoKind fault) (IsFirstKind fault)

-- the limits of the fields of a line with a stop, in a text with this scale: number, x, y, demand, earliest,
-- latest, service
pub record AreStopLimits (scale : Scale) (limits : List (ℤ × ℤ)) : Type 0 where
  pub seven : 7 ≤ length limits
  pub number : slice_index_or limits 0 (pos 0, pos 0) ≡ (pos 0, pos MAX_STOP_NUMBER)
  pub x : slice_index_or limits 1 (pos 0, pos 0) ≡ coordinate_range scale
  pub y : slice_index_or limits 2 (pos 0, pos 0) ≡ coordinate_range scale
  pub demand : (slice_index_or limits 3 (pos 0, pos 0)).1 ≡ MAX_DEMAND
  pub earliest : slice_index_or limits 4 (pos 0, pos 0) ≡ time_range scale
  pub latest : slice_index_or limits 5 (pos 0, pos 0) ≡ time_range scale
  pub service : slice_index_or limits 6 (pos 0, pos 0) ≡ service_range scale

-- a fault of one of these lines, each with a stop whose fields have these limits; `previous` is the task of the
-- line before them
abbrev pub StopLineFault : List (ℤ × ℤ) → Option Task → List Row → ℕ → ReadFaultKind → Type 0
StopLineFault limits previous [] line kind = ⊥
StopLineFault limits previous (row ∷ rows) line kind =
    ((row.line ≡ line) × (stop_fault limits previous (words_of row.text) kind ≡ true))
    ⊎ StopLineFault limits (Some (task_of row)) rows line kind

abbrev pub HasNoStopFault : List (ℤ × ℤ) → Option Task → List Row → Type 0
HasNoStopFault limits previous rows = (line : ℕ) (kind : ReadFaultKind) → StopLineFault limits previous rows line kind → ⊥

pub record IsFirstStopFault (limits : List (ℤ × ℤ)) (previous : Option Task) (rows : List Row) (f : ReadFault) : Type 0 where
  pub here : StopLineFault limits previous rows f.line f.kind
  pub first : (line : ℕ) (kind : ReadFaultKind) → StopLineFault limits previous rows line kind → IsNoLaterPlace f.line f.kind line kind

-- out of memory, or the first fault of these lines
abbrev pub ReportsStopFault : List (ℤ × ℤ) → Option Task → List Row → ReadFault → Type 0
ReportsStopFault limits previous rows f = (f ≡ out_of_memory) ⊎ IsFirstStopFault limits previous rows f

-- a fault of one of these lines, each with a Li-Lim task
abbrev pub TaskLineFault : Scale → Option Task → List Row → ℕ → ReadFaultKind → Type 0
TaskLineFault scale previous rows line kind = StopLineFault (task_limits scale) previous rows line kind

abbrev pub HasNoTaskFault : Scale → Option Task → List Row → Type 0
HasNoTaskFault scale previous rows = HasNoStopFault (task_limits scale) previous rows

abbrev pub IsFirstTaskFault : Scale → Option Task → List Row → ReadFault → Type 0
IsFirstTaskFault scale previous rows f = IsFirstStopFault (task_limits scale) previous rows f

-- the line numbers are ascending, and greater than n
abbrev pub LinesAbove : ℕ → List Row → Type 0
LinesAbove n [] = Unit {0}
LinesAbove n (row ∷ rows) = (n < row.line) × LinesAbove row.line rows
