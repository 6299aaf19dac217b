-- The text of a problem whose requests are customers spells the problem.
use Rattle.std.proofs.Common.{◌≡◌, ℕ, suc, ◌+◌, ◌-◌, ◌<◌, ◌≤◌, ◌^◌, Bool, true, false, ◌&&◌, eqb, List, [], ◌∷◌, ◌++◌, length, map, Some, None, ℤ, pos, negsuc, refl, sym, ap, ap₂, subst}
use Rattle.std.proofs.Common.{◌∙◌, arith, append_assoc, append-nil}
use Rattle.std.specs.Prelude.{nat_lt, unsigned_abs, ◌≤ℤ◌}
use Rattle.std.specs.Fmt.{decimal}
use Rattle.std.specs.List.{AllByRecursion, range_with_len}
use Rattle.std.specs.Option.{option_map_or}
use Rattle.std.proofs.lemmas.Bool.{eqb-true, false≢true, ltb-true, or_from}
use Rattle.std.proofs.lemmas.Int.{ints}
use Rattle.std.proofs.lemmas.List.Folds.{list_any-append}
use Rattle.text_lines.specs.Lines.{lines_of}
use Rattle.text_lines.specs.Words.{words_of}
use Rattle.plan_types.specs.Instance.{Instance, IsInstance, stops_among}
use Rattle.plan_types.specs.Limits.{IsDemand, IsStop, IsVisit}
use Rattle.plan_types.specs.declared.requests.Kind.{Kind}
use Rattle.plan_types.specs.declared.requests.Kind.TheVariants.{Vrp}
use Rattle.plan_types.specs.declared.requests.Request.{Request}
use Rattle.plan_types.specs.declared.requests.Request.TheVariants.{Single}
use Rattle.plan_types.specs.declared.requests.Stop.{Stop}
use Rattle.instance_read.specs.declared.scales.Scale.TheVariants.{One}
use Rattle.instance_read.specs.declared.vrp_lines.Key as key_type
use Rattle.instance_read.specs.declared.vrp_lines.Key.TheVariants as key
use Rattle.instance_read.specs.declared.vrp_lines.Section.{Section}
use Rattle.instance_read.specs.declared.vrp_lines.Section.TheVariants.{Outside, CoordinateLine, DemandLine, DepotLine, AfterEnd}
use Rattle.instance_read.specs.Fields.{value_at}
use Rattle.instance_read.specs.Rows.{Row, rows_from, rows_of}
use Rattle.instance_read.specs.Vrp.{SpellsVrp, any_key, coordinate_limits, demand_limits, first_key, has_key, has_node, in_coordinates, in_demands, is_inside, is_node_line, lacks_key}
use Rattle.instance_read.specs.Vrp.{node_stop, node_value, nodes_of, vrp_problem}
use Rattle.instance_read.specs.VrpLaws.{depot_line, outside, section_lines}
use Rattle.instance_read.specs.VrpLines.{Placed, coordinates_left, demands_left, depots_after, end_from, end_place, placed_from, placed_of, value_words}
use Rattle.instance_read.specs.DraftLines.{HasNoLineFault}
use Rattle.instance_read.proofs.ReadingLemmas.{placed_none}
use Rattle.instance_read.proofs.VrpFaultLemmas.{has_no_fault}
use Rattle.instance_text.specs.Formats.{are_customers, is_open, is_expressible}
use Rattle.instance_text.specs.ReadBack.{read_by}
use Rattle.instance_text.specs.Texts.{end_lines, head_lines, heading_text, lines_text, numbers_text, row_line, row_of, visits, vrp_lines}
use Rattle.instance_text.specs.declared.lines.Heading.TheVariants as heading
use Rattle.instance_text.specs.declared.stops.StopLine.TheVariants as row
use Rattle.instance_text.proofs.CustomerLemmas.{AreNumbered, customers_counted, customers_few, customers_listed, customers_made, customers_numbered, customers_open, customers_valid}
use Rattle.instance_text.proofs.HeadLemmas.{Head, has_capacity, has_coordinates, has_dimension, has_weights, head, head_capacity, head_clean, head_leads, head_nodes, head_rows, no_demands, no_depots}
use Rattle.instance_text.proofs.KeyLemmas.{capacity_key, capacity_row, capacity_words, coordinates_key, coordinates_row, demands_key, demands_row, depots_key, depots_row, dimension_key}
use Rattle.instance_text.proofs.KeyLemmas.{dimension_row, dimension_words, end_key, end_none, end_row, end_words, key_none, name_key, name_row, one_none, one_words, opening_none}
use Rattle.instance_text.proofs.KeyLemmas.{repeated_none, type_key, type_row, type_spelled, weights_key, weights_row, weights_spelled}
use Rattle.instance_text.proofs.LilimLemmas.{not_beyond, small_coordinate, small_pos}
use Rattle.instance_text.proofs.LineLemmas.{AreSmall, IsShown, Printable, decimal_printable, lines_read, numbered, numbers_printable, numbers_shown, printable, printable-append}
use Rattle.instance_text.proofs.LineLemmas.{rows_numbered}
use Rattle.instance_text.proofs.PlacedLemmas.{CleanFrom, Leads, clean_all, clean_join, leads_join, leads_key, leads_one, leads_section}
use Rattle.instance_text.proofs.SectionLemmas.{IsLine, IsSound, find_skip, find_stop, no_key, no_other, placed_at, rows_at, section_clean, stops_found, value_found}

-- ---- lists
numbered-append : (n : ℕ) (xs ys : List (List ℕ)) → numbered n (xs ++ ys) ≡ numbered n xs ++ numbered (n + length xs) ys
numbered-append n [] ys = ap (λ k. numbered k ys) (let e : n ≡ n + 0 = omega arith in e)
numbered-append n (x ∷ xs) ys =
    ap (λ rs. record { line = n; text = x } ∷ rs)
    (numbered-append (n + 1) xs ys ∙ ap (λ k. numbered (n + 1) xs ++ numbered k ys) (let e : n + 1 + length xs ≡ n + suc (length xs) = omega arith in e))

length-numbered : (n : ℕ) (f : Stop → List ℕ) (ss : List Stop) → length (numbered n (map f ss)) ≡ length ss
length-numbered n f [] = refl
length-numbered n f (s ∷ ss) = ap suc (length-numbered (n + 1) f ss)

all-append : (P : List ℕ → Type 0) (xs ys : List (List ℕ)) → AllByRecursion P xs → AllByRecursion P ys → AllByRecursion P (xs ++ ys)
all-append P [] ys a b = b
all-append P (x ∷ xs) ys a b = (a.0, all-append P xs ys a.1 b)

no_lines : HasNoLineFault One []
no_lines b p a e = absurd (empty_split b e)
  where
    empty_split : (b : List Placed) → [] ≡ b ++ p ∷ a → ⊥
    empty_split [] h = cc
    empty_split (q ∷ b) h = cc

three : (a b c : Bool) → (a && b && c) ≡ true → (a ≡ true) × (b ≡ true) × (c ≡ true)
three true true true is = (refl, refl, refl)
three true true false is = absurd (false≢true is)
three true false c is = absurd (false≢true is)
three false b c is = absurd (false≢true is)

-- two stops with equal fields are equal
stop_same : (s : Stop) (n : ℕ) (x y d : ℤ) (e l t : ℕ) → n ≡ s.number → x ≡ s.x → y ≡ s.y → d ≡ s.demand → e ≡ s.earliest → l ≡ s.latest → t ≡ s.service
    → record { number = n; x = x; y = y; demand = d; earliest = e; latest = l; service = t } ≡ s
stop_same s n x y d e l t p0 p1 p2 p3 p4 p5 p6 = rw (p0, p1, p2, p3, p4, p5, p6) refl

-- the limits that a line of a section requires of a stop
record IsFit (nodes : ℕ) (s : Stop) : Type 0 where
  number : s.number + 1 ≤ nodes
  visit : IsVisit s
  demand : IsDemand s.demand
  is_open : is_open s ≡ true

fit_all : (n nodes : ℕ) (ss : List Stop) → AreNumbered n ss → n + length ss ≤ nodes → AllByRecursion (λ s. is_open s ≡ true) ss
    → AllByRecursion (λ s. IsStop s × IsDemand s.demand) ss → AllByRecursion (IsFit nodes) ss
fit_all n nodes [] are few opens valid = tt
fit_all n nodes (s ∷ ss) are few opens valid =
    (record { number = omega (arith, are.0, few); visit = valid.0.0.visit; demand = valid.0.1; is_open = opens.0 }, fit_all (n + 1) nodes ss are.1 (omega (arith, few)) opens.1 valid.1)

abbrev coordinate : ℕ → Section
coordinate k = CoordinateLine k

abbrev demanded : ℕ → Section
demanded k = DemandLine k

module _ (p : Instance) (valid : IsInstance p) (some : 0 < length p.requests) (depot_open : is_open p.depot ≡ true) (customers : are_customers 1 p.requests ≡ true) where
  abbrev pub nodes : ℕ
  nodes = length p.requests + 1

  abbrev ss : List Stop
  ss = p.depot ∷ stops_among p.requests

  nodes_high : nodes ≤ 40001
  nodes_high = omega (arith, customers_few 1 p.next_number p.requests customers valid.above valid.next_number_min, valid.next_number_max)

  nodes_low : 2 ≤ nodes
  nodes_low = omega (arith, some)

  nodes_small : nodes < 2 ^ 64
  nodes_small = omega (arith, nodes_high)

  most_small : p.capacity < 2 ^ 64
  most_small = omega (arith, valid.capacity)

  visits_are : visits p ≡ ss
  visits_are =
      ap (λ l. p.depot ∷ l)
      (customers_listed 1 (p.next_number - 1) p.requests customers
      (omega (arith, customers_few 1 p.next_number p.requests customers valid.above valid.next_number_min)))

  counted : length ss ≡ nodes
  counted = omega (arith, customers_counted 1 p.requests customers)

  are : AreNumbered 0 ss
  are = (valid.depot.number, customers_numbered 1 p.requests customers)

  fit : AllByRecursion (IsFit nodes) ss
  fit = (
    record {
      number = omega (arith, valid.depot.number);
      visit = valid.depot.visit;
      demand = rw valid.depot.demand (grind (arith, ints), grind (arith, ints));
      is_open = depot_open;
    },
    fit_all 1 nodes (stops_among p.requests) (customers_numbered 1 p.requests customers) (omega (arith, customers_counted 1 p.requests customers))
        (customers_open 1 p.requests customers) (customers_valid 1 p.requests customers valid.valid),
  )

  -- ---- the lines of sections
  abbrev points : Stop → List ℤ
  points = row_of p row.Node

  abbrev goods : Stop → List ℤ
  goods = row_of p row.Demand

  node_within : (s : Stop) → IsFit nodes s → pos (s.number + 1) ≤ℤ pos nodes
  node_within s is = let h = is.number in grind (arith, ints, h)

  node_above : (s : Stop) → pos 1 ≤ℤ pos (s.number + 1)
  node_above s = grind (arith, ints)

  points_line : (s : Stop) → IsFit nodes s → IsLine coordinate in_coordinates points (λ k. refl) (λ k. refl) s
  points_line s is = record {
    small = (small_pos 40001 (s.number + 1) (omega (arith, is.number, nodes_high)) (omega arith), (small_coordinate s.x is.visit.x, (small_coordinate s.y is.visit.y, tt)));
    first = refl;
  }

  goods_small : (s : Stop) → IsFit nodes s → unsigned_abs s.demand < 2 ^ 64
  goods_small s is = small_coordinate s.demand (grind (arith, ints, is.demand.0), is.demand.1)

  goods_line : (s : Stop) → IsFit nodes s → IsLine demanded in_demands goods (λ k. refl) (λ k. refl) s
  goods_line s is = record {
    small = (small_pos 40001 (s.number + 1) (omega (arith, is.number, nodes_high)) (omega arith), (goods_small s is, tt));
    first = refl;
  }

  points_sound : (s : Stop) → IsFit nodes s → IsSound coordinate in_coordinates points (λ k. refl) (λ k. refl) 3 (coordinate_limits One) nodes (λ before row k kind. refl) s
  points_sound s is = record {
    is_line = points_line s is;
    counted = refl;
    bounded = (
      not_beyond (pos 1) (pos nodes) (pos (s.number + 1)) (node_above s) (node_within s is),
      (
        not_beyond (negsuc 999999) (pos 1000000) s.x is.visit.x.0 is.visit.x.1,
        (not_beyond (negsuc 999999) (pos 1000000) s.y is.visit.y.0 is.visit.y.1, tt),
      ),
    );
  }

  goods_sound : (s : Stop) → IsFit nodes s → IsSound demanded in_demands goods (λ k. refl) (λ k. refl) 2 demand_limits nodes (λ before row k kind. refl) s
  goods_sound s is = record {
    is_line = goods_line s is;
    counted = refl;
    bounded = (
      not_beyond (pos 1) (pos nodes) (pos (s.number + 1)) (node_above s) (node_within s is),
      (not_beyond (pos 0) (pos 1000000) s.demand is.demand.0 is.demand.1, tt),
    );
  }

  all_so : (P : Stop → Type 0) → ((s : Stop) → IsFit nodes s → P s) → (xs : List Stop) → AllByRecursion (IsFit nodes) xs → AllByRecursion P xs
  all_so P each [] all = tt
  all_so P each (x ∷ xs) all = (each x all.0, all_so P each xs all.1)

  -- ---- the rows
  abbrev at_demands : ℕ
  at_demands = 7 + length (map (row_line p row.Node) ss)

  abbrev at_depots : ℕ
  at_depots = at_demands + 1 + length (map (row_line p row.Demand) ss)

  abbrev crows : List Row
  crows = rows_at coordinate in_coordinates points (λ k. refl) (λ k. refl) 7 ss

  abbrev drows : List Row
  drows = rows_at demanded in_demands goods (λ k. refl) (λ k. refl) (at_demands + 1) ss

  abbrev first_row : Row
  first_row = record { line = at_depots + 1; text = numbers_text (pos 1 ∷ []) }

  abbrev second_row : Row
  second_row = record { line = at_depots + 1 + 1; text = numbers_text (negsuc 0 ∷ []) }

  abbrev tail_rows : List Row
  tail_rows = depots_row at_depots ∷ first_row ∷ second_row ∷ end_row (at_depots + 1 + 1 + 1) ∷ []

  abbrev front : Head nodes p.capacity
  front = record {
    name = name_row 1;
    type = type_row 2;
    dimension = dimension_row 3 nodes nodes_small;
    weights = weights_row 4;
    capacity = capacity_row 5 p.capacity most_small;
    coordinates = coordinates_row 6;
    is_name = name_key 1;
    is_type = type_key 2;
    is_dimension = dimension_key 3 nodes nodes_small;
    is_weights = weights_key 4;
    is_capacity = capacity_key 5 p.capacity most_small;
    is_coordinates = coordinates_key 6;
    typed = type_spelled 2;
    weighed = weights_spelled 4;
    nodes_small = nodes_small;
    most_small = most_small;
    counted = dimension_words 3 nodes nodes_small;
    limited = capacity_words 5 p.capacity most_small;
  }

  abbrev first_rows : List Row
  first_rows = head_rows nodes p.capacity front

  abbrev all_rows : List Row
  all_rows = first_rows ++ (crows ++ (demands_row at_demands ∷ (drows ++ tail_rows)))

  abbrev text : List ℕ
  text = lines_text (vrp_lines p)

  abbrev lines_for : List Stop → List (List ℕ)
  lines_for v = head_lines p ++ ((heading_text heading.Coordinates ∷ map (row_line p row.Node) v) ++ ((heading_text heading.Demands ∷ map (row_line p row.Demand) v) ++ end_lines))

  lines_are : vrp_lines p ≡ lines_for ss
  lines_are = ap lines_for visits_are

  -- each line is printable and not blank
  abbrev IsPlain : List ℕ → Type 0
  IsPlain line = Printable line × IsShown line

  plain_numbers : (z : ℤ) (zs : List ℤ) → AreSmall (z ∷ zs) → IsPlain (numbers_text (z ∷ zs))
  plain_numbers z zs small = (numbers_printable (z ∷ zs) small, numbers_shown z zs small)

  head_plain : AllByRecursion IsPlain (head_lines p)
  unfolding heading_text printable
  head_plain = (
    (refl, refl),
    (
      (refl, refl),
      (
        (printable-append (heading_text heading.Dimension) (decimal nodes) refl (decimal_printable nodes nodes_small), refl),
        (
          (refl, refl),
          ((printable-append (heading_text heading.Capacity) (decimal p.capacity) refl (decimal_printable p.capacity most_small), refl), tt),
        ),
      ),
    ),
  )

  points_plain : (xs : List Stop) → AllByRecursion (IsFit nodes) xs → AllByRecursion IsPlain (map (row_line p row.Node) xs)
  points_plain [] all = tt
  points_plain (x ∷ xs) all = (plain_numbers (pos (x.number + 1)) _ (points_line x all.0).small, points_plain xs all.1)

  goods_plain : (xs : List Stop) → AllByRecursion (IsFit nodes) xs → AllByRecursion IsPlain (map (row_line p row.Demand) xs)
  goods_plain [] all = tt
  goods_plain (x ∷ xs) all = (plain_numbers (pos (x.number + 1)) _ (goods_line x all.0).small, goods_plain xs all.1)

  coordinates_plain : IsPlain (heading_text heading.Coordinates)
  unfolding heading_text printable
  coordinates_plain = (refl, refl)

  demands_plain : IsPlain (heading_text heading.Demands)
  unfolding heading_text printable
  demands_plain = (refl, refl)

  end_plain : AllByRecursion IsPlain end_lines
  unfolding heading_text printable
  end_plain = ((refl, refl), (plain_numbers (pos 1) [] (omega arith, tt), (plain_numbers (negsuc 0) [] (omega arith, tt), ((refl, refl), tt))))

  abbrev lines_after_points : List (List ℕ)
  lines_after_points = (heading_text heading.Demands ∷ map (row_line p row.Demand) ss) ++ end_lines

  all_plain : AllByRecursion IsPlain (lines_for ss)
  all_plain =
      let later : AllByRecursion IsPlain lines_after_points = (demands_plain, all-append IsPlain (map (row_line p row.Demand) ss) end_lines (goods_plain ss fit) end_plain) in
      let middle = all-append IsPlain (map (row_line p row.Node) ss) lines_after_points (points_plain ss fit) later in
      all-append IsPlain (head_lines p) ((heading_text heading.Coordinates ∷ map (row_line p row.Node) ss) ++ lines_after_points) head_plain (coordinates_plain, middle)

  plain_parts : (ls : List (List ℕ)) → AllByRecursion IsPlain ls → AllByRecursion Printable ls × AllByRecursion IsShown ls
  plain_parts [] all = (tt, tt)
  plain_parts (l ∷ ls) all = let rest = plain_parts ls all.1 in ((all.0.0, rest.0), (all.0.1, rest.1))

  rows_are : rows_of text ≡ all_rows
  rows_are =
      ap (λ ls. rows_from 1 (lines_of (lines_text ls))) lines_are
      ∙ ap (λ ls. rows_from 1 ls) (lines_read (lines_for ss) (plain_parts (lines_for ss) all_plain).0)
      ∙ rows_numbered 1 (lines_for ss) (plain_parts (lines_for ss) all_plain).1
      ∙ ap (λ rs. first_rows ++ rs) (numbered-append 7 (map (row_line p row.Node) ss) ((heading_text heading.Demands ∷ map (row_line p row.Demand) ss) ++ end_lines))
      ∙ ap (λ rs. first_rows ++ (crows ++ (demands_row at_demands ∷ rs))) (numbered-append (at_demands + 1) (map (row_line p row.Demand) ss) end_lines)

  -- ---- the sections of the lines
  abbrev coordinate_part : List Placed
  coordinate_part = placed_at coordinate in_coordinates points (λ k. refl) (λ k. refl) 7 ss

  abbrev demand_part : List Placed
  demand_part = placed_at demanded in_demands goods (λ k. refl) (λ k. refl) (at_demands + 1) ss

  abbrev end_part : List Placed
  end_part = outside (depots_row at_depots) ∷ depot_line 0 first_row ∷ depot_line 1 second_row ∷ outside (end_row (at_depots + 1 + 1 + 1)) ∷ []

  abbrev head_part : List Placed
  head_part = head nodes p.capacity front

  abbrev ps : List Placed
  ps = head_part ++ (coordinate_part ++ (outside (demands_row at_demands) ∷ (demand_part ++ end_part)))

  coordinates_lead : Leads (Some nodes) (coordinates_left nodes) crows coordinate_part (Some nodes) Outside
  coordinates_lead =
      subst (λ k. Leads (Some nodes) (coordinates_left k) crows coordinate_part (Some nodes) Outside) counted
      (subst (λ k. Leads (Some nodes) (coordinates_left k) crows (section_lines coordinate k crows) (Some nodes) Outside) (length-numbered 7 (row_line p row.Node) ss)
      (leads_section coordinate (λ n row k. refl) (λ n row k. refl) nodes crows))

  demands_lead : Leads (Some nodes) (demands_left nodes) drows demand_part (Some nodes) Outside
  demands_lead =
      subst (λ k. Leads (Some nodes) (demands_left k) drows demand_part (Some nodes) Outside) counted
      (subst (λ k. Leads (Some nodes) (demands_left k) drows (section_lines demanded k drows) (Some nodes) Outside) (length-numbered (at_demands + 1) (row_line p row.Demand) ss)
      (leads_section demanded (λ n row k. refl) (λ n row k. refl) nodes drows))

  first_lead : Leads (Some nodes) (DepotLine 0) (first_row ∷ []) (depot_line 0 first_row ∷ []) (Some nodes) (DepotLine 1)
  first_lead =
      let to : ℕ → Type 0 = λ k. Leads (Some nodes) (DepotLine 0) (first_row ∷ []) (depot_line 0 first_row ∷ []) (Some nodes) (depots_after (0 + k)) in
      subst to (ap length one_words) (leads_one (Some nodes) (DepotLine 0) first_row)

  second_lead : Leads (Some nodes) (DepotLine 1) (second_row ∷ []) (depot_line 1 second_row ∷ []) (Some nodes) Outside
  second_lead =
      let to : ℕ → Type 0 = λ k. Leads (Some nodes) (DepotLine 1) (second_row ∷ []) (depot_line 1 second_row ∷ []) (Some nodes) (depots_after (1 + k)) in
      subst to (ap length end_words) (leads_one (Some nodes) (DepotLine 1) second_row)

  end_lead : Leads (Some nodes) Outside tail_rows end_part (Some nodes) AfterEnd
  end_lead =
      leads_join (leads_key (Some nodes) (depots_row at_depots) key.Depots (depots_key at_depots))
      (leads_join first_lead
      (leads_join second_lead (leads_key (Some nodes) (end_row (at_depots + 1 + 1 + 1)) key.End (end_key (at_depots + 1 + 1 + 1)))))

  all_lead : Leads None Outside all_rows ps (Some nodes) AfterEnd
  all_lead =
      leads_join (head_leads nodes p.capacity front)
      (leads_join coordinates_lead
      (leads_join (leads_key (Some nodes) (demands_row at_demands) key.Demands (demands_key at_demands)) (leads_join demands_lead end_lead)))

  placed_are : placed_of text ≡ ps
  placed_are =
      ap (placed_from None Outside) (rows_are ∙ sym (append-nil all_rows))
      ∙ all_lead.placed []
      ∙ ap (λ l. ps ++ l) (placed_none (Some nodes) AfterEnd)
      ∙ append-nil ps

  end_is : is_inside (end_place text) ≡ false
  end_is = ap is_inside (ap (end_from None Outside) (rows_are ∙ sym (append-nil all_rows)) ∙ all_lead.ends [])

  -- ---- the values in the first lines, whatever lines follow
  nodes_said : (rest : List Placed) → nodes_of (head_part ++ rest) ≡ nodes
  nodes_said = head_nodes nodes p.capacity front

  later_demands : (rest : List Placed) → any_key key.Demands (head_part ++ rest) ≡ any_key key.Demands rest
  later_demands = no_demands nodes p.capacity front

  later_depots : (rest : List Placed) → any_key key.Depots (head_part ++ rest) ≡ any_key key.Depots rest
  later_depots = no_depots nodes p.capacity front

  -- ---- no line has a fault
  abbrev demands_placed : Placed
  demands_placed = outside (demands_row at_demands)

  no_coordinate_key : (k : key_type.Key) → any_key k coordinate_part ≡ false
  no_coordinate_key k = no_key coordinate in_coordinates points (λ k. refl) (λ k. refl) k (length ss) crows

  no_demand_key : (k : key_type.Key) → any_key k demand_part ≡ false
  no_demand_key k = no_key demanded in_demands goods (λ k. refl) (λ k. refl) k (length ss) drows

  no_demand_node : (z : ℤ) → has_node in_demands coordinate_part z ≡ false
  no_demand_node z = no_other coordinate in_coordinates points (λ k. refl) (λ k. refl) in_demands (λ k. refl) z (length ss) crows

  abbrev before_demands : List Placed
  before_demands = (head_part ++ coordinate_part) ++ demands_placed ∷ []

  joined : (rest : List Placed) → before_demands ++ rest ≡ head_part ++ (coordinate_part ++ demands_placed ∷ rest)
  joined rest = append_assoc (head_part ++ coordinate_part) (demands_placed ∷ []) rest ∙ append_assoc head_part coordinate_part (demands_placed ∷ rest)

  demand_free : (j : ℕ) → 0 < j → has_node in_demands before_demands (pos j) ≡ false
  demand_free j some =
      list_any-append (is_node_line in_demands (pos j)) coordinate_part (demands_placed ∷ [])
      ∙ or_from (has_node in_demands coordinate_part (pos j)) false (no_demand_node (pos j)) refl

  depots_alone : any_key key.Depots (before_demands ++ demand_part) ≡ false
  depots_alone =
      ap (any_key key.Depots) (joined demand_part)
      ∙ later_depots (coordinate_part ++ demands_placed ∷ demand_part)
      ∙ list_any-append (has_key key.Depots) coordinate_part (demands_placed ∷ demand_part)
      ∙ or_from (any_key key.Depots coordinate_part) (any_key key.Depots (demands_placed ∷ demand_part)) (no_coordinate_key key.Depots)
      (rw (demands_key at_demands) (no_demand_key key.Depots))

  end_clean : CleanFrom (before_demands ++ demand_part) end_part
  end_clean =
      let before = before_demands ++ demand_part in
      let last = ((before ++ outside (depots_row at_depots) ∷ []) ++ depot_line 0 first_row ∷ []) ++ depot_line 1 second_row ∷ [] in (
        key_none before (depots_row at_depots) key.Depots (depots_key at_depots) (repeated_none _ depots_alone),
        (one_none, (end_none, (key_none last (end_row (at_depots + 1 + 1 + 1)) key.End (end_key (at_depots + 1 + 1 + 1)) (λ kind. refl), tt))),
      )

  demands_clean : CleanFrom (head_part ++ coordinate_part) (demands_placed ∷ (demand_part ++ end_part))
  demands_clean = (
    key_none (head_part ++ coordinate_part) (demands_row at_demands) key.Demands (demands_key at_demands)
        (opening_none _ _ (has_dimension nodes p.capacity front coordinate_part) (later_demands coordinate_part ∙ no_coordinate_key key.Demands)),
    clean_join before_demands demand_part end_part
        (section_clean demanded in_demands goods (λ k. refl) (λ k. refl) 2 demand_limits nodes (λ before row k kind. refl) 0 (at_demands + 1) before_demands ss are (all_so _ goods_sound ss fit)
        (λ rest. ap nodes_of (joined rest) ∙ nodes_said (coordinate_part ++ demands_placed ∷ rest)) demand_free)
        end_clean,
  )

  clean : HasNoLineFault One ps
  clean =
      clean_all [] ps no_lines
      (clean_join [] head_part (coordinate_part ++ (demands_placed ∷ (demand_part ++ end_part))) (head_clean nodes p.capacity front nodes_low nodes_high valid.capacity)
      (clean_join head_part coordinate_part (demands_placed ∷ (demand_part ++ end_part))
      (section_clean coordinate in_coordinates points (λ k. refl) (λ k. refl) 3 (coordinate_limits One) nodes (λ before row k kind. refl) 0 7 head_part ss are
      (all_so _ points_sound ss fit) nodes_said (λ j some. refl))
      demands_clean))

  -- ---- no key is missing
  abbrev lines_after_head : List Placed
  lines_after_head = coordinate_part ++ (demands_placed ∷ (demand_part ++ end_part))

  has_demands : any_key key.Demands ps ≡ true
  has_demands =
      later_demands lines_after_head
      ∙ list_any-append (has_key key.Demands) coordinate_part (demands_placed ∷ (demand_part ++ end_part))
      ∙ rw (no_coordinate_key key.Demands, demands_key at_demands) refl

  has_depots : any_key key.Depots ps ≡ true
  has_depots =
      later_depots lines_after_head
      ∙ list_any-append (has_key key.Depots) coordinate_part (demands_placed ∷ (demand_part ++ end_part))
      ∙ rw (no_coordinate_key key.Depots, demands_key at_demands)
      (list_any-append (has_key key.Depots) demand_part end_part ∙ rw (no_demand_key key.Depots, depots_key at_depots) refl)

  complete : lacks_key ps ≡ false
  complete =
      rw (
        has_dimension nodes p.capacity front lines_after_head,
        has_capacity nodes p.capacity front lines_after_head,
        has_weights nodes p.capacity front lines_after_head,
        has_coordinates nodes p.capacity front lines_after_head,
        has_demands,
        has_depots,
      )
      refl

  -- ---- the problem
  module _ (s : Stop) (is : IsFit nodes s) (found : find_stop s.number ss ≡ Some s) where
    x_is : node_value in_coordinates ps (s.number + 1) 1 ≡ s.x
    x_is = value_found coordinate in_coordinates points (λ k. refl) (λ k. refl) 1 7 s.number s ss (demands_placed ∷ (demand_part ++ end_part)) (all_so _ points_line ss fit) found

    y_is : node_value in_coordinates ps (s.number + 1) 2 ≡ s.y
    y_is = value_found coordinate in_coordinates points (λ k. refl) (λ k. refl) 2 7 s.number s ss (demands_placed ∷ (demand_part ++ end_part)) (all_so _ points_line ss fit) found

    demand_is : node_value in_demands ps (s.number + 1) 1 ≡ s.demand
    demand_is =
        ap (λ o. option_map_or (λ (q : Placed). value_at (words_of q.row.text) 1) o (pos 0))
        (find_skip (is_node_line in_demands (pos (s.number + 1))) coordinate_part (demands_placed ∷ (demand_part ++ end_part)) (no_demand_node (pos (s.number + 1))))
        ∙ value_found demanded in_demands goods (λ k. refl) (λ k. refl) 1 (at_demands + 1) s.number s ss end_part (all_so _ goods_line ss fit) found

    stop_is : (n : ℕ) (d : ℤ) → n ≡ s.number → d ≡ s.demand → node_stop One ps d n ≡ s
    stop_is n d at asked =
        let opens = three (eqb s.earliest 0) (eqb s.latest 100000000) (eqb s.service 0) is.is_open in
        stop_same s n (node_value in_coordinates ps (n + 1) 1) (node_value in_coordinates ps (n + 1) 2) d 0 100000000 0 at
        (ap (λ k. node_value in_coordinates ps (k + 1) 1) at ∙ x_is) (ap (λ k. node_value in_coordinates ps (k + 1) 2) at ∙ y_is) asked
        (sym (eqb-true s.earliest 0 opens.0)) (sym (eqb-true s.latest 100000000 opens.1)) (sym (eqb-true s.service 0 opens.2))

  abbrev made : ℕ → Stop
  made n = node_stop One ps (node_value in_demands ps (n + 1) 1) n

  made_all : (xs : List Stop) → AllByRecursion (IsFit nodes) xs → AllByRecursion (λ s. find_stop s.number ss ≡ Some s) xs → AllByRecursion (λ s. made s.number ≡ s) xs
  made_all [] fits found = tt
  made_all (x ∷ xs) fits found = (stop_is x fits.0 found.0 x.number (node_value in_demands ps (x.number + 1) 1) refl (demand_is x fits.0 found.0), made_all xs fits.1 found.1)

  requests_are : map (λ n. (n, Single (made n))) (range_with_len 1 (length p.requests)) ≡ p.requests
  requests_are = customers_made made 1 p.requests customers valid.named (made_all (stops_among p.requests) fit.1 (stops_found 0 ss are).1)

  depot_is : node_stop One ps (pos 0) 0 ≡ p.depot
  depot_is = stop_is p.depot fit.0 (stops_found 0 ss are).0 0 (pos 0) (sym valid.depot.number) (sym valid.depot.demand)

  abbrev capacity_in : List Placed → ℕ
  capacity_in placed = option_map_or (λ row. unsigned_abs (value_at (value_words row) 0)) (first_key key.Capacity placed) 0

  abbrev pub problem_with : Stop → ℕ → ℕ → List (ℕ × Request) → ℕ → Instance
  problem_with depot most fleet requests next = record { kind = Vrp; depot = depot; capacity = most; fleet = fleet; requests = requests; next_number = next }

  problem_is : vrp_problem One ps ≡ problem_with p.depot p.capacity (length p.requests) p.requests nodes
  problem_is =
      let fewer : nodes - 1 ≡ length p.requests = omega arith in
      ap (λ n. problem_with (node_stop One ps (pos 0) 0) (capacity_in ps) (n - 1) (map (λ n. (n, Single (made n))) (range_with_len 1 (n - 1))) n) (nodes_said lines_after_head)
      ∙ ap (λ n. problem_with (node_stop One ps (pos 0) 0) (capacity_in ps) n (map (λ n. (n, Single (made n))) (range_with_len 1 n)) nodes) fewer
      ∙ ap (λ rs. problem_with (node_stop One ps (pos 0) 0) (capacity_in ps) (length p.requests) rs nodes) requests_are
      ∙ ap₂ (λ d c. problem_with d c (length p.requests) p.requests nodes) depot_is (head_capacity nodes p.capacity front lines_after_head)

  pub spelled : SpellsVrp One (lines_text (vrp_lines p)) (problem_with p.depot p.capacity (length p.requests) p.requests nodes)
  spelled = (
    has_no_fault One text (subst (HasNoLineFault One) (sym placed_are) clean) end_is (ap lacks_key placed_are ∙ complete),
    sym (ap (vrp_problem One) placed_are ∙ problem_is),
  )

pub vrp_read_back : (p : Instance) → IsInstance p → p.kind ≡ Vrp → is_expressible Vrp p ≡ true → SpellsVrp One (lines_text (vrp_lines p)) (read_by Vrp p)
vrp_read_back p valid kind said =
    let parts = three (nat_lt 0 (length p.requests)) (is_open p.depot) (are_customers 1 p.requests) said in
    let whole : Kind → Instance = λ k. record { kind = k; depot = p.depot; capacity = p.capacity; fleet = length p.requests; requests = p.requests; next_number = length p.requests + 1 } in
    subst (λ k. SpellsVrp One (lines_text (vrp_lines p)) (whole k)) (sym kind) (spelled p valid (ltb-true 0 (length p.requests) parts.0) parts.1 parts.2)
