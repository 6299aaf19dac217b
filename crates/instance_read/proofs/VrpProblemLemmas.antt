-- The problem of a draft that has the data of all lines is that of the text.
use Rattle.std.proofs.Common.{◌≡◌, ℕ, suc, ◌+◌, ◌-◌, Bool, true, false, List, map, Option, Some, None, refl, sym, ap, ◌∙◌, add-one, ℤ, pos}
use Rattle.std.specs.Prelude.{find, is_some, unwrap_or, not, ◌&&◌}
use Rattle.std.specs.List.{range_with_len}
use Rattle.std.specs.Option.{option_map, option_map_or}
use Rattle.std.proofs.lemmas.Bool.{false≢true}
use Rattle.text_lines.specs.Words.{words_of}
use Rattle.plan_types.specs.declared.requests.Kind.TheVariants.{Vrp}
use Rattle.plan_types.specs.declared.requests.Request.TheVariants.{Single}
use Rattle.instance_read.specs.declared.scales.Scale.{Scale}
use Rattle.instance_read.specs.declared.vrp_draft.VrpDraft.{VrpDraft}
use Rattle.instance_read.specs.declared.vrp_lines.Key.TheVariants.{Dimension, Capacity, WeightType, Coordinates, Demands, Depots, End}
use Rattle.instance_read.specs.Drafts.{has_seen, nodes_in}
use Rattle.instance_read.specs.Fields.{value_at}
use Rattle.instance_read.specs.Scales.{times_ℤ}
use Rattle.instance_read.specs.Rows.{Row}
use Rattle.instance_read.specs.Vrp.{first_key, in_coordinates, in_demands, is_node_line, lacks_key, node_stop, node_value, nodes_of, vrp_problem}
use Rattle.instance_read.specs.VrpLines.{Placed}
use Rattle.instance_read.specs.DraftLines.{IsDraftOfLines, customer_in, demand_at, demand_in, draft_lacks_key, drafted_problem, drafted_stop, number_in, point_at, point_in}
use Rattle.instance_read.proofs.LineLemmas.{announced_is, nodes_is, nodes_map}

-- the point of a node, from its entry and from its line
x_of : (o : Option Placed) → (unwrap_or (option_map point_in o) (pos 0, pos 0)).0 ≡ option_map_or (λ (p : Placed). value_at (words_of p.row.text) 1) o (pos 0)
x_of None = refl
x_of (Some p) = refl

y_of : (o : Option Placed) → (unwrap_or (option_map point_in o) (pos 0, pos 0)).1 ≡ option_map_or (λ (p : Placed). value_at (words_of p.row.text) 2) o (pos 0)
y_of None = refl
y_of (Some p) = refl

demand_of : (o : Option Placed) → unwrap_or (option_map demand_in o) (pos 0) ≡ option_map_or (λ (p : Placed). value_at (words_of p.row.text) 1) o (pos 0)
demand_of None = refl
demand_of (Some p) = refl

line_of : (n : ℕ) (o : Option Row) → option_map_or (λ line. line) (option_map (λ (row : Row). row.line) o) n ≡ option_map_or (λ (row : Row). row.line) o n
line_of n None = refl
line_of n (Some row) = refl

first_of_six : (a b c d e f : Bool) → not (a && b && c && d && e && f) ≡ false → a ≡ true
first_of_six true b c d e f h = refl
first_of_six false b c d e f h = absurd (false≢true (sym h))

module _ (ps : List Placed) (draft : VrpDraft) (known : IsDraftOfLines ps draft) where
  pub lacks_is : draft_lacks_key draft ≡ lacks_key ps
  lacks_is = λ i. not (known.seen Dimension i && known.seen Capacity i && known.seen WeightType i && known.seen Coordinates i && known.seen Demands i && known.seen Depots i)

  pub is_announced : draft_lacks_key draft ≡ false → is_some draft.nodes ≡ true
  is_announced e =
      sym (announced_is ps draft known) ∙ sym (known.seen Dimension)
      ∙ first_of_six (has_seen draft Dimension) (has_seen draft Capacity) (has_seen draft WeightType) (has_seen draft Coordinates) (has_seen draft Demands) (has_seen draft Depots) e

  point_is : (n : ℕ) → point_at draft n ≡ unwrap_or (option_map point_in (find (is_node_line in_coordinates (pos (n + 1))) ps)) (pos 0, pos 0)
  point_is n =
      ap (λ o. unwrap_or o (pos 0, pos 0)) (known.coordinates (pos (suc n)))
      ∙ ap (λ k. unwrap_or (option_map point_in (find (is_node_line in_coordinates (pos k)) ps)) (pos 0, pos 0)) (sym (add-one n))

  x_is : (n : ℕ) → (point_at draft n).0 ≡ node_value in_coordinates ps (n + 1) 1
  x_is n = ap (λ (q : ℤ × ℤ). q.0) (point_is n) ∙ x_of (find (is_node_line in_coordinates (pos (n + 1))) ps)

  y_is : (n : ℕ) → (point_at draft n).1 ≡ node_value in_coordinates ps (n + 1) 2
  y_is n = ap (λ (q : ℤ × ℤ). q.1) (point_is n) ∙ y_of (find (is_node_line in_coordinates (pos (n + 1))) ps)

  demand_is : (n : ℕ) → demand_at draft n ≡ node_value in_demands ps (n + 1) 1
  demand_is n =
      ap (λ o. unwrap_or o (pos 0)) (known.demands (pos (suc n)))
      ∙ ap (λ k. unwrap_or (option_map demand_in (find (is_node_line in_demands (pos k)) ps)) (pos 0)) (sym (add-one n))
      ∙ demand_of (find (is_node_line in_demands (pos (n + 1))) ps)

  capacity_is : unwrap_or draft.capacity 0 ≡ option_map_or (λ row. number_in row) (first_key Capacity ps) 0
  capacity_is = ap (λ o. unwrap_or o 0) known.capacity ∙ nodes_map (first_key Capacity ps)

  nodes_same : nodes_in draft ≡ nodes_of ps
  nodes_same = sym (nodes_is ps draft known)

  pub end_is : (n : ℕ) → option_map_or (λ line. line) draft.end n ≡ option_map_or (λ (row : Row). row.line) (first_key End ps) n
  end_is n = ap (λ o. option_map_or (λ line. line) o n) known.end ∙ line_of n (first_key End ps)

  module _ (scale : Scale) (scale_is : draft.scale ≡ scale) where
    stop_is : (demand : ℤ) (n : ℕ) → drafted_stop draft demand n ≡ node_stop scale ps demand n
    stop_is demand n = λ i. record {
      number = n;
      x = times_ℤ (scale_is i) (x_is n i);
      y = times_ℤ (scale_is i) (y_is n i);
      demand = demand;
      earliest = 0;
      latest = 100000000;
      service = 0;
    }

    customer_is : (n : ℕ) → customer_in draft n ≡ (n, Single (node_stop scale ps (node_value in_demands ps (n + 1) 1) n))
    customer_is n = ap (λ s. (n, Single s)) (ap (λ d. drafted_stop draft d n) (demand_is n) ∙ stop_is (node_value in_demands ps (n + 1) 1) n)

    pub problem_is : drafted_problem draft ≡ vrp_problem scale ps
    problem_is = λ i. record {
      kind = Vrp;
      depot = stop_is (pos 0) 0 i;
      capacity = capacity_is i;
      fleet = nodes_same i - 1;
      requests = map (λ n. customer_is n i) (range_with_len 1 (nodes_same i - 1));
      next_number = nodes_same i;
    }
