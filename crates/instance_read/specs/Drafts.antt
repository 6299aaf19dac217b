-- The draft that the reader of a `.vrp` text makes from the lines read so far, and what one more line adds to
-- it.
use Rattle.std.specs.Prelude.{◌≡◌, ℕ, zero, suc, ◌-◌, ◌<◌, ◌≤◌, Bool, true, false, ◌⊎◌, is_some, All, IfSome, MatchResult, Result, List, length, replicate, set}
use Rattle.std.specs.Prelude.{slice_index_or, unwrap_or, Option, Some, None, ℤ, pos, negsuc}
use Rattle.std.specs.Int.RustNames.{unsigned_abs}
use Rattle.std.specs.Option.{option_or}
use Rattle.text_lines.specs.Words.{words_of}
use Rattle.plan_types.specs.Limits.{IsCapacity, IsCoordinate, IsDemand}
use Rattle.instance_read.specs.declared.faults.ReadFaultKind.{ReadFaultKind}
use Rattle.instance_read.specs.declared.faults.ReadFaultKind.TheVariants.{OutOfMemory}
use Rattle.instance_read.specs.declared.vrp_draft.VrpDraft.{VrpDraft}
use Rattle.instance_read.specs.declared.vrp_lines.Key.{Key}
use Rattle.instance_read.specs.declared.vrp_lines.Key.TheVariants.{Dimension, Capacity, Coordinates, Demands, End}
use Rattle.instance_read.specs.declared.vrp_lines.Section.{Section}
use Rattle.instance_read.specs.declared.vrp_lines.Section.TheVariants.{Outside, CoordinateLine, DemandLine, DepotLine, AfterEnd}
use Rattle.instance_read.specs.Fields.{value_at}
use Rattle.instance_read.specs.Rows.{Row}
use Rattle.instance_read.specs.Scales.{times_ℤ}
use Rattle.instance_read.specs.declared.scales.Scale.{Scale}
use Rattle.instance_read.specs.Vrp.{key_number, key_fault, max_nodes, node_fault, depot_fault, coordinate_limits, demand_limits}
use Rattle.instance_read.specs.VrpLines.{key_of, place_after, value_of}
use Rattle.instance_read.specs.TaskFaults.{HasNoKind, IsFirstKind}

-- the entry of a node; nodes count from 1
abbrev pub entry_at : {T : Type 0} → List (Option T) → ℤ → Option T
entry_at table (pos zero) = None
entry_at table (pos (suc n)) = slice_index_or table n None
entry_at table (negsuc n) = None

abbrev pub is_taken : {T : Type 0} → List (Option T) → ℤ → Bool
is_taken table node = is_some (entry_at table node)

abbrev pub nodes_in : VrpDraft → ℕ
nodes_in draft = unwrap_or draft.nodes 0

abbrev pub has_seen : VrpDraft → Key → Bool
has_seen draft key = slice_index_or draft.seen (key_number key) false

-- the faults of a line in this section
abbrev pub line_fault : VrpDraft → Row → Section → ReadFaultKind → Bool
line_fault draft row Outside kind = key_fault (is_some draft.nodes) (has_seen draft (key_of row)) (value_of row) (key_of row) kind
line_fault draft row (CoordinateLine n) kind = node_fault 3 (coordinate_limits draft.scale (nodes_in draft)) (is_taken draft.coordinates.items) (words_of row.text) kind
line_fault draft row (DemandLine n) kind = node_fault 2 (demand_limits (nodes_in draft)) (is_taken draft.demands.items) (words_of row.text) kind
line_fault draft row (DepotLine seen) kind = depot_fault seen (words_of row.text) kind
line_fault draft row AfterEnd kind = false

-- the draft after a line with this value and key
abbrev pub TakesValue : VrpDraft → ℕ → List ℕ → Key → VrpDraft → Type 0
TakesValue old line value Dimension new = new ≡ record old { nodes = Some (unsigned_abs (value_at (words_of value) 0)) }
TakesValue old line value Capacity new = new ≡ record old { capacity = Some (unsigned_abs (value_at (words_of value) 0)) }
TakesValue old line value Coordinates new = (new ≡ record old { coordinates = new.coordinates }) × (new.coordinates.items ≡ replicate (nodes_in old) None)
TakesValue old line value Demands new = (new ≡ record old { demands = new.demands }) × (new.demands.items ≡ replicate (nodes_in old) None)
TakesValue old line value End new = new ≡ record old { end = option_or old.end (Some line) }
TakesValue old line value _ new = new ≡ old

abbrev pub with_key : VrpDraft → Key → VrpDraft
with_key draft key = record draft { seen = set draft.seen (key_number key) true }

abbrev pub node_index : List (List ℕ) → ℕ
node_index words = unsigned_abs (value_at words 0) - 1

-- the draft after a line in this section
abbrev pub TakesLine : VrpDraft → Row → Section → VrpDraft → Type 0
TakesLine old row Outside new = TakesValue (with_key old (key_of row)) row.line (value_of row) (key_of row) new
TakesLine old row (CoordinateLine n) new =
    let words = words_of row.text in
    (new ≡ record old { coordinates = new.coordinates })
    × (new.coordinates.items ≡ set old.coordinates.items (node_index words) (Some (value_at words 1, value_at words 2)))
TakesLine old row (DemandLine n) new =
    let words = words_of row.text in
    (new ≡ record old { demands = new.demands }) × (new.demands.items ≡ set old.demands.items (node_index words) (Some (value_at words 1)))
TakesLine old row (DepotLine seen) new = new ≡ old
TakesLine old row AfterEnd new = new ≡ old

-- both coordinates times the scale keep their limits
abbrev pub IsPoint : Scale → ℤ × ℤ → Type 0
IsPoint scale point = IsCoordinate (times_ℤ scale point.0) × IsCoordinate (times_ℤ scale point.1)

-- the table of keys has its full length, and every number is within its limits
pub record IsDraft (draft : VrpDraft) : Type 0 where
  pub keys : length draft.seen ≡ 11
  pub nodes : IfSome draft.nodes (λ n. (2 ≤ n) × (n ≤ max_nodes))
  pub capacity : IfSome draft.capacity IsCapacity
  pub coordinates : All (λ entry. IfSome entry (IsPoint draft.scale)) draft.coordinates.items
  pub demands : All (λ entry. IfSome entry IsDemand) draft.demands.items

-- a line without a fault was taken in this section
abbrev pub Takes : VrpDraft → Row → Section → VrpDraft → Type 0
Takes old row place new = HasNoKind (line_fault old row place) × TakesLine old row place new × IsDraft new

-- a line without a fault was taken in this section, and `next` is the section of the next line
abbrev pub TakesTo : VrpDraft → Row → Section → VrpDraft → Section → Type 0
TakesTo old row place new next =
    HasNoKind (line_fault old row place) × TakesLine old row place new × (next ≡ place_after old.nodes row place) × IsDraft new

-- a key's value without a fault was taken; `stands` says whether an earlier line has the same key
abbrev pub TakesKey : VrpDraft → ℕ → List ℕ → Key → Bool → VrpDraft → Type 0
TakesKey old line value key stands new =
    HasNoKind (key_fault (is_some old.nodes) stands value key) × TakesValue old line value key new × IsDraft new

-- a line whose number does not matter
abbrev pub unnumbered : List ℕ → Row
unnumbered text = record { line = 0; text = text }

-- the line of a node was taken in this section, or its first fault is reported
abbrev pub TakesNode : {X : Type 0} → VrpDraft → List ℕ → Section → VrpDraft → Result X ReadFaultKind → Type 0
TakesNode old text place new result = MatchResult result (λ _. Takes old (unnumbered text) place new) (IsFirstKind (line_fault old (unnumbered text) place))

-- the draft has the table that a line in this section needs
abbrev pub FitsSection : Section → VrpDraft → Type 0
FitsSection (CoordinateLine left) draft = (1 ≤ left) × (length draft.coordinates.items ≡ nodes_in draft)
FitsSection (DemandLine left) draft = (1 ≤ left) × (length draft.demands.items ≡ nodes_in draft)
FitsSection (DepotLine seen) draft = seen < 2
FitsSection place draft = Unit {0}

-- out of memory, or the first kind of fault for which `fault` is true
abbrev pub ReportsKind : (ReadFaultKind → Bool) → ReadFaultKind → Type 0
ReportsKind fault kind = (kind ≡ OutOfMemory) ⊎ IsFirstKind fault kind
