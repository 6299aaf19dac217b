-- The draft that belongs to the lines of a text, and the first fault of these lines.
use Rattle.std.specs.Prelude.{◌≡◌, ℕ, ◌-◌, Bool, false, not, ◌&&◌, ◌⊎◌, List, [], ◌∷◌, ◌++◌, map, find, slice_index_or, unwrap_or, None, ℤ, pos}
use Rattle.std.specs.Int.RustNames.{unsigned_abs}
use Rattle.std.specs.List.{range_with_len}
use Rattle.std.specs.Option.{option_map}
use Rattle.text_lines.specs.Words.{words_of}
use Rattle.plan_types.specs.Instance.{Instance}
use Rattle.plan_types.specs.declared.limits.TheConstants.{MAX_TIME}
use Rattle.plan_types.specs.declared.requests.Kind.TheVariants.{Vrp}
use Rattle.plan_types.specs.declared.requests.Request.{Request}
use Rattle.plan_types.specs.declared.requests.Request.TheVariants.{Single}
use Rattle.plan_types.specs.declared.requests.Stop.{Stop}
use Rattle.instance_read.specs.declared.faults.ReadFault.{ReadFault}
use Rattle.instance_read.specs.declared.vrp_draft.VrpDraft.{VrpDraft}
use Rattle.instance_read.specs.declared.vrp_lines.Key.{Key}
use Rattle.instance_read.specs.declared.vrp_lines.Key.TheVariants.{Dimension, Capacity, WeightType, Coordinates, Demands, Depots, End}
use Rattle.instance_read.specs.declared.vrp_lines.Section.TheVariants.{Outside}
use Rattle.instance_read.specs.Drafts.{entry_at, has_seen, nodes_in}
use Rattle.instance_read.specs.Faults.{out_of_memory}
use Rattle.instance_read.specs.Fields.{value_at}
use Rattle.instance_read.specs.Rows.{Row}
use Rattle.instance_read.specs.Scales.{times_ℤ}
use Rattle.instance_read.specs.declared.scales.Scale.{Scale}
use Rattle.instance_read.specs.Vrp.{any_key, first_key, in_coordinates, in_demands, is_node_line, place_fault}
use Rattle.instance_read.specs.VrpLines.{Placed, placed_from, value_words}
use Rattle.instance_read.specs.TaskFaults.{HasNoKind, IsFirstKind}

-- the number in the value of a line with a key
abbrev pub number_in : Row → ℕ
number_in row = unsigned_abs (value_at (value_words row) 0)

abbrev pub point_in : Placed → ℤ × ℤ
point_in p = (value_at (words_of p.row.text) 1, value_at (words_of p.row.text) 2)

abbrev pub demand_in : Placed → ℤ
demand_in p = value_at (words_of p.row.text) 1

-- the draft contains the data of these lines
pub record IsDraftOfLines (before : List Placed) (draft : VrpDraft) : Type 0 where
  pub seen : (key : Key) → has_seen draft key ≡ any_key key before
  pub nodes : draft.nodes ≡ option_map number_in (first_key Dimension before)
  pub capacity : draft.capacity ≡ option_map number_in (first_key Capacity before)
  pub end : draft.end ≡ option_map (λ (row : Row). row.line) (first_key End before)
  pub coordinates : (z : ℤ) → entry_at draft.coordinates.items z ≡ option_map point_in (find (is_node_line in_coordinates z) before)
  pub demands : (z : ℤ) → entry_at draft.demands.items z ≡ option_map demand_in (find (is_node_line in_demands z) before)
  pub no_coordinates : any_key Coordinates before ≡ false → draft.coordinates.items ≡ []
  pub no_demands : any_key Demands before ≡ false → draft.demands.items ≡ []

-- none of these lines has a fault
abbrev pub HasNoLineFault : Scale → List Placed → Type 0
HasNoLineFault scale ps =
    (before : List Placed) (p : Placed) (after : List Placed) → ps ≡ before ++ p ∷ after → HasNoKind (place_fault scale before p.row p.place)

-- the first line that has a fault, with its first fault
pub record IsFirstFaultyLine (scale : Scale) (ps : List Placed) (f : ReadFault) : Type 0 where
  pub before : List Placed
  pub here : Placed
  pub after : List Placed
  pub splits : ps ≡ before ++ here ∷ after
  pub line : f.line ≡ here.row.line
  pub kind : IsFirstKind (place_fault scale before here.row here.place) f.kind
  pub clean : HasNoLineFault scale before

-- the lines with their sections; the first line is outside the sections
abbrev pub placed_rows : List Row → List Placed
placed_rows rows = placed_from None Outside rows

-- out of memory, or the first fault of these lines
abbrev pub ReportsLine : Scale → List Placed → ReadFault → Type 0
ReportsLine scale ps f = (f ≡ out_of_memory) ⊎ IsFirstFaultyLine scale ps f

-- a key or a section that each text must have was not seen
abbrev pub draft_lacks_key : VrpDraft → Bool
draft_lacks_key draft =
    not (has_seen draft Dimension && has_seen draft Capacity && has_seen draft WeightType && has_seen draft Coordinates && has_seen draft Demands && has_seen draft Depots)

abbrev pub point_at : VrpDraft → ℕ → ℤ × ℤ
point_at draft n = unwrap_or (slice_index_or draft.coordinates.items n None) (pos 0, pos 0)

abbrev pub demand_at : VrpDraft → ℕ → ℤ
demand_at draft n = unwrap_or (slice_index_or draft.demands.items n None) (pos 0)

-- node n+1 as stop n, with coordinates times the draft's scale and with this demand
abbrev pub drafted_stop : VrpDraft → ℤ → ℕ → Stop
drafted_stop draft demand n = record {
  number = n;
  x = times_ℤ draft.scale (point_at draft n).0;
  y = times_ℤ draft.scale (point_at draft n).1;
  demand = demand;
  earliest = 0;
  latest = MAX_TIME;
  service = 0;
}

abbrev pub customer_in : VrpDraft → ℕ → ℕ × Request
customer_in draft n = (n, Single (drafted_stop draft (demand_at draft n) n))

-- the first `count` customers, from number 1 on
abbrev pub customers_in : VrpDraft → ℕ → List (ℕ × Request)
customers_in draft count = map (customer_in draft) (range_with_len 1 count)

-- the problem of a draft
abbrev pub drafted_problem : VrpDraft → Instance
drafted_problem draft = record {
  kind = Vrp;
  depot = drafted_stop draft (pos 0) 0;
  capacity = unwrap_or draft.capacity 0;
  fleet = nodes_in draft - 1;
  requests = customers_in draft (nodes_in draft - 1);
  next_number = nodes_in draft;
}
