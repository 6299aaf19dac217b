-- A draft determines the faults of a line, and has the line's data after it was taken.
use Rattle.std.proofs.Common.{◌≡◌, ℕ, false, List, [], ◌∷◌, ◌++◌, set, Option, Some, None, refl, sym, ap, ◌∙◌, arith, ℤ, pos, negsuc}
use Rattle.std.specs.Prelude.{find, is_some, unwrap_or, slice_index_or}
use Rattle.std.specs.Option.{option_map, option_map_or}
use Rattle.text_lines.specs.Words.{words_of}
use Rattle.instance_read.specs.declared.faults.ReadFaultKind.{ReadFaultKind}
use Rattle.instance_read.specs.declared.vrp_draft.VrpDraft.{VrpDraft}
use Rattle.instance_read.specs.declared.vrp_lines.Key.{Key}
use Rattle.instance_read.specs.declared.vrp_lines.Key.TheVariants.{Dimension, Capacity, Coordinates, Demands, End}
use Rattle.instance_read.specs.declared.vrp_lines.Section.{Section}
use Rattle.instance_read.specs.declared.vrp_lines.Section.TheVariants.{Outside, CoordinateLine, DemandLine, DepotLine, AfterEnd}
use Rattle.instance_read.specs.Drafts.{FitsSection, IsDraft, TakesLine, entry_at, is_taken, line_fault, nodes_in, node_index}
use Rattle.instance_read.specs.Scales.{coordinate_range}
use Rattle.instance_read.specs.Rows.{Row}
use Rattle.instance_read.specs.Vrp.{any_key, coordinate_limits, demand_limits, first_key, has_key, has_node, in_coordinates, in_demands, is_node_line, key_fault}
use Rattle.instance_read.specs.Vrp.{key_number, node_fault, nodes_of, place_fault}
use Rattle.instance_read.specs.VrpLines.{Placed, key_of, value_of}
use Rattle.instance_read.specs.DraftLines.{IsDraftOfLines, demand_in, number_in, point_in}
use Rattle.instance_read.specs.TaskFaults.{HasNoKind}
use Rattle.instance_read.proofs.DraftLemmas.{any_is_find, any_same, find_same, knows_key, placed, some_map}
use Rattle.instance_read.proofs.NodeStepLemmas.{entry_more, index_is_node, node_below, node_free, node_of, number_is}

-- the number of nodes that the first DIMENSION line announces, or 0 if there is no such line
pub nodes_map : (o : Option Row) → unwrap_or (option_map number_in o) 0 ≡ option_map_or number_in o 0
nodes_map None = refl
nodes_map (Some row) = refl

-- a draft with the data of the earlier lines determines the faults of a line
module _ (before : List Placed) (draft : VrpDraft) (known : IsDraftOfLines before draft) where
  pub announced_is : any_key Dimension before ≡ is_some draft.nodes
  announced_is =
      any_is_find (has_key Dimension) before
      ∙ sym (some_map (λ (p : Placed). p.row) (find (has_key Dimension) before))
      ∙ sym (some_map number_in (first_key Dimension before))
      ∙ sym (ap is_some known.nodes)

  pub nodes_is : nodes_of before ≡ nodes_in draft
  nodes_is = sym (nodes_map (first_key Dimension before)) ∙ sym (ap (λ o. unwrap_or o 0) known.nodes)

  coordinate_taken : (z : ℤ) → has_node in_coordinates before z ≡ is_taken draft.coordinates.items z
  coordinate_taken z = any_is_find (is_node_line in_coordinates z) before ∙ sym (some_map point_in (find (is_node_line in_coordinates z) before)) ∙ sym (ap is_some (known.coordinates z))

  demand_taken : (z : ℤ) → has_node in_demands before z ≡ is_taken draft.demands.items z
  demand_taken z = any_is_find (is_node_line in_demands z) before ∙ sym (some_map demand_in (find (is_node_line in_demands z) before)) ∙ sym (ap is_some (known.demands z))

  pub same_fault : (row : Row) (place : Section) (kind : ReadFaultKind) → place_fault draft.scale before row place kind ≡ line_fault draft row place kind
  same_fault row Outside kind =
      ap (λ b. key_fault b (any_key (key_of row) before) (value_of row) (key_of row) kind) announced_is
      ∙ ap (λ b. key_fault (is_some draft.nodes) b (value_of row) (key_of row) kind) (sym (known.seen (key_of row)))
  same_fault row (CoordinateLine n) kind =
      ap (λ k. node_fault 3 (coordinate_limits draft.scale k) (has_node in_coordinates before) (words_of row.text) kind) nodes_is
      ∙ ap (λ taken. node_fault 3 (coordinate_limits draft.scale (nodes_in draft)) taken (words_of row.text) kind) (λ i z. coordinate_taken z i)
  same_fault row (DemandLine n) kind =
      ap (λ k. node_fault 2 (demand_limits k) (has_node in_demands before) (words_of row.text) kind) nodes_is
      ∙ ap (λ taken. node_fault 2 (demand_limits (nodes_in draft)) taken (words_of row.text) kind) (λ i z. demand_taken z i)
  same_fault row (DepotLine seen) kind = refl
  same_fault row AfterEnd kind = refl

-- the parts that stay the same after a line of a section
module _ (before : List Placed) (p : Placed) (outside : (key : Key) → has_key key p ≡ false) where
  any_stays : (key : Key) → any_key key (before ++ p ∷ []) ≡ any_key key before
  any_stays key = any_same before p (has_key key) (outside key)

  first_stays : (key : Key) → first_key key (before ++ p ∷ []) ≡ first_key key before
  first_stays key = ap (option_map (λ (q : Placed). q.row)) (find_same before p (has_key key) (outside key))

  module _ (old new : VrpDraft) (known : IsDraftOfLines before old) (seen : new.seen ≡ old.seen) (nodes : new.nodes ≡ old.nodes) (capacity : new.capacity ≡ old.capacity) (end : new.end ≡ old.end) where
    section_knows : ((z : ℤ) → entry_at new.coordinates.items z ≡ option_map point_in (find (is_node_line in_coordinates z) (before ++ p ∷ [])))
        → ((z : ℤ) → entry_at new.demands.items z ≡ option_map demand_in (find (is_node_line in_demands z) (before ++ p ∷ [])))
        → (old.coordinates.items ≡ [] → new.coordinates.items ≡ []) → (old.demands.items ≡ [] → new.demands.items ≡ []) → IsDraftOfLines (before ++ p ∷ []) new
    section_knows coordinates demands no_coordinates no_demands =
        record {
          seen = λ key. ap (λ s. slice_index_or s (key_number key) false) seen ∙ known.seen key ∙ sym (any_stays key);
          nodes = nodes ∙ known.nodes ∙ ap (option_map number_in) (sym (first_stays Dimension));
          capacity = capacity ∙ known.capacity ∙ ap (option_map number_in) (sym (first_stays Capacity));
          end = end ∙ known.end ∙ ap (option_map (λ (r : Row). r.line)) (sym (first_stays End));
          coordinates = coordinates;
          demands = demands;
          no_coordinates = λ e. no_coordinates (known.no_coordinates (sym (any_stays Coordinates) ∙ e));
          no_demands = λ e. no_demands (known.no_demands (sym (any_stays Demands) ∙ e));
        }

set_none : {X : Type 0} (xs : List X) (i : ℕ) (x : X) → xs ≡ [] → set xs i x ≡ []
set_none xs i x e = ap (λ l. set l i x) e

-- a line without data changes nothing in the draft
knows_same : (before : List Placed) (row : Row) (place : Section) (old new : VrpDraft) → ((key : Key) → has_key key (placed row place) ≡ false)
    → ((z : ℤ) → is_node_line in_coordinates z (placed row place) ≡ false) → ((z : ℤ) → is_node_line in_demands z (placed row place) ≡ false)
    → IsDraftOfLines before old → new ≡ old → IsDraftOfLines (before ++ placed row place ∷ []) new
knows_same before row place old new outside no_point no_demand known is =
    let p = placed row place in
    section_knows before p outside old new known (ap (λ (d : VrpDraft). d.seen) is) (ap (λ (d : VrpDraft). d.nodes) is) (ap (λ (d : VrpDraft). d.capacity) is) (ap (λ (d : VrpDraft). d.end) is)
    (λ z. ap (λ (d : VrpDraft). entry_at d.coordinates.items z) is ∙ known.coordinates z ∙ ap (option_map point_in) (sym (find_same before p (is_node_line in_coordinates z) (no_point z))))
    (λ z. ap (λ (d : VrpDraft). entry_at d.demands.items z) is ∙ known.demands z ∙ ap (option_map demand_in) (sym (find_same before p (is_node_line in_demands z) (no_demand z))))
    (λ e. ap (λ (d : VrpDraft). d.coordinates.items) is ∙ e)
    (λ e. ap (λ (d : VrpDraft). d.demands.items) is ∙ e)

pub knows_more : (before : List Placed) (row : Row) (place : Section) (old new : VrpDraft) → IsDraft old → IsDraftOfLines before old → FitsSection place old
    → HasNoKind (line_fault old row place) → TakesLine old row place new → IsDraftOfLines (before ++ placed row place ∷ []) new
knows_more before row Outside old new valid known fits none takes = knows_key before row old new (key_of row) refl valid known none takes
knows_more before row (CoordinateLine n) old new valid known fits none takes =
    let p = placed row (CoordinateLine n) in
    let words = words_of row.text in
    let table = old.coordinates.items in
    let limits = coordinate_range old.scale ∷ coordinate_range old.scale ∷ [] in
    let node = node_of limits (nodes_in old) table words none in
    let is = takes.1 ∙ ap (λ k. set table k (Some (point_in p))) (index_is_node limits (nodes_in old) table words none) in
    section_knows before p (λ key. refl) old new known (ap (λ (d : VrpDraft). d.seen) takes.0) (ap (λ (d : VrpDraft). d.nodes) takes.0)
    (ap (λ (d : VrpDraft). d.capacity) takes.0) (ap (λ (d : VrpDraft). d.end) takes.0)
    (λ z. ap (λ t. entry_at t z) is
    ∙ entry_more in_coordinates point_in before p refl table node.0 (number_is limits (nodes_in old) table words none)
    (omega (arith, fits.1, node_below limits (nodes_in old) table words none)) (node_free limits (nodes_in old) table words none) known.coordinates z)
    (λ z. ap (λ (d : VrpDraft). entry_at d.demands.items z) takes.0 ∙ known.demands z ∙ ap (option_map demand_in) (sym (find_same before p (is_node_line in_demands z) refl)))
    (λ e. takes.1 ∙ set_none table (node_index words) (Some (point_in p)) e)
    (λ e. ap (λ (d : VrpDraft). d.demands.items) takes.0 ∙ e)
knows_more before row (DemandLine n) old new valid known fits none takes =
    let p = placed row (DemandLine n) in
    let words = words_of row.text in
    let table = old.demands.items in
    let limits = (pos 0, pos 1000000) ∷ [] in
    let node = node_of limits (nodes_in old) table words none in
    let is = takes.1 ∙ ap (λ k. set table k (Some (demand_in p))) (index_is_node limits (nodes_in old) table words none) in
    section_knows before p (λ key. refl) old new known (ap (λ (d : VrpDraft). d.seen) takes.0) (ap (λ (d : VrpDraft). d.nodes) takes.0)
    (ap (λ (d : VrpDraft). d.capacity) takes.0) (ap (λ (d : VrpDraft). d.end) takes.0)
    (λ z. ap (λ (d : VrpDraft). entry_at d.coordinates.items z) takes.0 ∙ known.coordinates z ∙ ap (option_map point_in) (sym (find_same before p (is_node_line in_coordinates z) refl)))
    (λ z. ap (λ t. entry_at t z) is
    ∙ entry_more in_demands demand_in before p refl table node.0 (number_is limits (nodes_in old) table words none)
    (omega (arith, fits.1, node_below limits (nodes_in old) table words none)) (node_free limits (nodes_in old) table words none) known.demands z)
    (λ e. ap (λ (d : VrpDraft). d.coordinates.items) takes.0 ∙ e)
    (λ e. takes.1 ∙ set_none table (node_index words) (Some (demand_in p)) e)
knows_more before row (DepotLine seen) old new valid known fits none takes = knows_same before row (DepotLine seen) old new (λ key. refl) (λ z. refl) (λ z. refl) known takes
knows_more before row AfterEnd old new valid known fits none takes = knows_same before row AfterEnd old new (λ key. refl) (λ z. refl) (λ z. refl) known takes
