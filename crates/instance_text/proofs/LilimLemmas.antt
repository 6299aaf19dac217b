-- The text of a problem whose requests are pairs spells the problem.
use Rattle.std.proofs.Common.{◌≡◌, ℕ, zero, suc, ◌+◌, ◌-◌, ◌<◌, ◌≤◌, ◌^◌, Bool, true, false, cond, List, [], ◌∷◌, map, slice_get, Option, Some, None, inl, inr, refl, sym, ap, ap₂, subst}
use Rattle.std.proofs.Common.{◌∙◌, arith, ℤ, pos, negsuc}
use Rattle.std.specs.Prelude.{int_lt, is_some, neg_ℤ, not, unsigned_abs, unwrap_or, ◌≤ℤ◌}
use Rattle.std.specs.Fmt.{signed_decimal}
use Rattle.std.specs.List.{AllByRecursion, cons_option, list_all}
use Rattle.std.proofs.lemmas.Bool.{false_from_ne_true, le-ltb, lt-ltb, or_from}
use Rattle.std.proofs.lemmas.Int.{ints}
use Rattle.text_lines.specs.Words.{words_of}
use Rattle.plan_types.specs.Instance.{Instance, IsInstance, partner_at, pickup_at, stop_at}
use Rattle.plan_types.specs.Limits.{IsCoordinate, IsDemand, IsDepot, IsVisit}
use Rattle.plan_types.specs.declared.requests.Kind.{Kind}
use Rattle.plan_types.specs.declared.requests.Kind.TheVariants.{LiLim}
use Rattle.plan_types.specs.declared.requests.Request.{Request}
use Rattle.plan_types.specs.declared.requests.Stop.{Stop}
use Rattle.plan_types.proofs.LookupLemmas.{none_some, partner-below, pickup-below}
use Rattle.instance_read.specs.declared.faults.ReadFaultKind.TheVariants.{BadNumber, Range, FieldCount, TaskOrder, PairMismatch, EmptyWindow, TooManyStops, MissingKey, Unsupported}
use Rattle.instance_read.specs.declared.faults.ReadFaultKind.TheVariants.{DepotNotFirst, NodeRepeated, Truncated, OutOfMemory}
use Rattle.instance_read.specs.declared.scales.Scale.TheVariants.{One}
use Rattle.instance_read.specs.declared.tasks.Task.{Task}
use Rattle.instance_read.specs.Fields.{exceeds, is_beyond, passes_test, value_at}
use Rattle.instance_read.specs.Lilim.{SpellsLilim, depot_from, header_fault, header_limits, is_out_of_order, problem_from, problem_of, task_fault, task_limits}
use Rattle.instance_read.specs.Pairs.{last_number, pairs_of, task_from, task_of}
use Rattle.instance_read.specs.Rows.{Row, rows_from, rows_of}
use Rattle.instance_read.specs.Tables.{ArePaired}
use Rattle.instance_read.specs.TaskFaults.{HasNoKind, HasNoTaskFault}
use Rattle.instance_read.proofs.LilimLemmas.{has_none}
use Rattle.instance_read.proofs.TaskFaultLemmas.{step_none}
use Rattle.instance_text.specs.Formats.{are_pairs, is_pair}
use Rattle.instance_text.specs.ReadBack.{last_number as last_stop, last_of, read_by}
use Rattle.instance_text.specs.Texts.{header_line, lilim_lines, lines_text, named_delivery, named_pickup, row_line, row_of, stops_from}
use Rattle.instance_text.specs.declared.stops.StopLine.TheVariants as row
use Rattle.instance_text.proofs.LineLemmas.{AreSmall, AreWithin, IsShown, Printable, all_numbers, field_read, lines_read, none_beyond, numbered, numbers_printable, numbers_shown}
use Rattle.instance_text.proofs.LineLemmas.{rows_numbered, value_read, words_read}
use Rattle.instance_text.proofs.LookupLemmas.{Place, place_at}
use Rattle.instance_text.proofs.TaskLemmas.{all_tasks, number_at, paired, pairs_are, task, tasks_from}

-- ---- limits
pub not_beyond : (least most z : ℤ) → least ≤ℤ z → z ≤ℤ most → is_beyond (least, most) z ≡ false
not_beyond least most z low high =
    or_from (int_lt z least) (int_lt most z)
    (false_from_ne_true (int_lt z least) (λ h. grind (arith, ints, low, h)))
    (false_from_ne_true (int_lt most z) (λ h. grind (arith, ints, high, h)))

pub not_above : (most n : ℕ) → n ≤ most → int_lt (pos most) (pos n) ≡ false
not_above most n le = le-ltb most n le

pub not_beyond_zero : (most n : ℕ) → n ≤ most → is_beyond (pos 0, pos most) (pos n) ≡ false
not_beyond_zero most n le = or_from (int_lt (pos n) (pos 0)) (int_lt (pos most) (pos n)) (le-ltb n 0 (omega arith)) (le-ltb most n le)

pub small_pos : (most n : ℕ) → n ≤ most → most < 2 ^ 64 → unsigned_abs (pos n) < 2 ^ 64
small_pos most n le fits = omega (arith, le, fits)

pub small_coordinate : (z : ℤ) → IsCoordinate z → unsigned_abs z < 2 ^ 64
small_coordinate (pos n) is = let h : n ≤ 1000000 = grind (arith, ints, is.1) in omega (arith, h)
small_coordinate (negsuc n) is = let h : n ≤ 999999 = grind (arith, ints, is.0) in omega (arith, h)

-- ---- the values in a stop's line
pub record IsSaid (s : Stop) : Type 0 where
  pub number : s.number ≤ 40000
  pub demand : IsCoordinate s.demand
  pub visit : IsVisit s

some_within : (most : ℕ) (o : Option ℕ) → ((m : ℕ) → o ≡ Some m → m ≤ most) → unwrap_or o 0 ≤ most
some_within most None h = omega arith
some_within most (Some m) h = h m refl

module _ (p : Instance) (valid : IsInstance p) where
  pickup_small : (n : ℕ) → named_pickup p n ≤ 40000
  pickup_small n = some_within 40000 (pickup_at p n) (λ m is. omega (arith, pickup-below p n m valid is, valid.next_number_max))

  delivery_small : (n : ℕ) → named_delivery p n ≤ 40000
  delivery_small n = by (is_some (pickup_at p n))
    where
      by : (b : Bool) → cond b 0 (unwrap_or (partner_at p n) 0) ≤ 40000
      by true = omega arith
      by false = some_within 40000 (partner_at p n) (λ m is. omega (arith, partner-below p n m valid is, valid.next_number_max))

  module _ (s : Stop) (said : IsSaid s) where
    abbrev fields : List ℤ
    fields = row_of p row.Task s

    fields_small : AreSmall fields
    fields_small = (
      small_pos 40000 s.number said.number (omega arith),
      (
        small_coordinate s.x said.visit.x,
        (
          small_coordinate s.y said.visit.y,
          (
            small_coordinate s.demand said.demand,
            (
              small_pos 100000000 s.earliest (omega (arith, said.visit.window, said.visit.latest)) (omega arith),
              (
                small_pos 100000000 s.latest said.visit.latest (omega arith),
                (
                  small_pos 1000000 s.service said.visit.service (omega arith),
                  (
                    small_pos 40000 (named_pickup p s.number) (pickup_small s.number) (omega arith),
                    (
                      small_pos 40000 (named_delivery p s.number) (delivery_small s.number) (omega arith),
                      tt,
                    ),
                  ),
                ),
              ),
            ),
          ),
        ),
      ),
    )

    fields_within : AreWithin (task_limits One) fields
    fields_within = (
      not_beyond_zero 40000 s.number said.number,
      (
        not_beyond (negsuc 999999) (pos 1000000) s.x said.visit.x.0 said.visit.x.1,
        (
          not_beyond (negsuc 999999) (pos 1000000) s.y said.visit.y.0 said.visit.y.1,
          (
            not_beyond (negsuc 999999) (pos 1000000) s.demand said.demand.0 said.demand.1,
            (
              not_beyond_zero 100000000 s.earliest (omega (arith, said.visit.window, said.visit.latest)),
              (
                not_beyond_zero 100000000 s.latest said.visit.latest,
                (
                  not_beyond_zero 1000000 s.service said.visit.service,
                  (
                    not_beyond_zero 40000 (named_pickup p s.number) (pickup_small s.number),
                    (
                      not_beyond_zero 40000 (named_delivery p s.number) (delivery_small s.number),
                      tt,
                    ),
                  ),
                ),
              ),
            ),
          ),
        ),
      ),
    )

    stop_words : words_of (row_line p row.Task s) ≡ map signed_decimal fields
    stop_words = words_read fields fields_small

    module _ (previous : Option Task) (order : is_out_of_order previous (pos s.number) ≡ false) where
      no_fault_among : HasNoKind (task_fault One previous (map signed_decimal fields))
      no_fault_among FieldCount = refl
      no_fault_among BadNumber = all_numbers fields fields_small
      no_fault_among TooManyStops = ap (passes_test (λ z. int_lt (pos 40000) z)) (field_read fields 0 fields_small) ∙ not_above 40000 s.number said.number
      no_fault_among Range = none_beyond (task_limits One) fields fields_small fields_within
      no_fault_among TaskOrder = ap (passes_test (is_out_of_order previous)) (field_read fields 0 fields_small) ∙ order
      no_fault_among EmptyWindow = ap₂ exceeds (field_read fields 4 fields_small) (field_read fields 5 fields_small) ∙ not_above s.latest s.earliest said.visit.window
      no_fault_among PairMismatch = refl
      no_fault_among MissingKey = refl
      no_fault_among Unsupported = refl
      no_fault_among DepotNotFirst = refl
      no_fault_among NodeRepeated = refl
      no_fault_among Truncated = refl
      no_fault_among OutOfMemory = refl

      no_fault : HasNoKind (task_fault One previous (words_of (row_line p row.Task s)))
      no_fault = subst (λ ws. HasNoKind (task_fault One previous ws)) (sym stop_words) no_fault_among

    task_same : (line : ℕ) (f g : ℕ → ℤ) → ((i : ℕ) → f i ≡ g i) → task_from line f ≡ task_from line g
    task_same line f g h = rw (h 0, h 1, h 2, h 3, h 4, h 5, h 6, h 7, h 8) refl

    task_read : (line : ℕ) → task_of (record { line = line; text = row_line p row.Task s }) ≡ task p line s
    unfolding task_of
    task_read line =
        ap (λ ws. task_from line (value_at ws)) stop_words
        ∙ task_same line (value_at (map signed_decimal fields)) (λ i. unwrap_or (slice_get fields i) (pos 0)) (λ i. value_read fields i fields_small)

  -- ---- the lines of the stops after the depot
  depot_said : IsSaid p.depot
  depot_said = record {
    number = omega (arith, valid.depot.number);
    demand = rw valid.depot.demand (grind (arith, ints), grind (arith, ints));
    visit = valid.depot.visit;
  }

  module _ (pairs : list_all (λ e. is_pair e.1) p.requests ≡ true) where
    demand_said : (z : ℤ) → IsDemand z → IsCoordinate z × IsCoordinate (neg_ℤ z)
    demand_said z is = ((grind (arith, ints, is.0), is.1), (grind (arith, ints, is.1), grind (arith, ints, is.0)))

    said_at : (n : ℕ) (s : Stop) → stop_at p n ≡ Some s → Place p n → IsSaid s
    said_at n s is (inl free) = absurd (none_some s (sym free.stop ∙ is))
    said_at n s is (inr (inl at)) =
        let same : at.a ≡ s = (let h : Some at.a ≡ Some s = sym at.pair.pickup ∙ ap (stop_at p) at.here ∙ is in cc) in
        let valid = at.pair.valid in
        subst IsSaid same (record { number = valid.0.to_max; demand = (demand_said at.a.demand valid.3).0; visit = valid.0.visit })
    said_at n s is (inr (inr at)) =
        let same : at.b ≡ s = (let h : Some at.b ≡ Some s = sym at.pair.delivery ∙ ap (stop_at p) at.here ∙ is in cc) in
        let valid = at.pair.valid in
        subst IsSaid same (record { number = valid.1.to_max; demand = subst IsCoordinate (sym valid.4) (demand_said at.a.demand valid.3).1; visit = valid.1.visit })

    said : (n : ℕ) (s : Stop) → stop_at p n ≡ Some s → IsSaid s
    said n s is = said_at n s is (place_at p valid pairs n)

    all_said : (m count : ℕ) → AllByRecursion IsSaid (stops_from p m count)
    all_said m zero = tt
    all_said m (suc count) = by (stop_at p m) refl (all_said (m + 1) count)
      where
        by : (o : Option Stop) → stop_at p m ≡ o → AllByRecursion IsSaid (stops_from p (m + 1) count) → AllByRecursion IsSaid (cons_option o (stops_from p (m + 1) count))
        by None e others = others
        by (Some s) e others = (said m s e, others)

    tasks_read : (line : ℕ) (ss : List Stop) → AllByRecursion IsSaid ss → map task_of (numbered line (map (row_line p row.Task) ss)) ≡ tasks_from p line ss
    tasks_read line [] all = refl
    tasks_read line (s ∷ ss) all = ap₂ (λ t ts. t ∷ ts) (task_read s all.0 line) (tasks_read (line + 1) ss all.1)

    lines_printable : (ss : List Stop) → AllByRecursion IsSaid ss → AllByRecursion Printable (map (row_line p row.Task) ss)
    lines_printable [] all = tt
    lines_printable (s ∷ ss) all = (numbers_printable (fields s all.0) (fields_small s all.0), lines_printable ss all.1)

    lines_shown : (ss : List Stop) → AllByRecursion IsSaid ss → AllByRecursion IsShown (map (row_line p row.Task) ss)
    lines_shown [] all = tt
    lines_shown (s ∷ ss) all = (shown s all.0, lines_shown ss all.1)
      where
        shown : (s : Stop) → IsSaid s → IsShown (row_line p row.Task s)
        shown s is = numbers_shown (pos s.number) _ (fields_small s is)

    tasks_clean : (previous : Task) (line m count : ℕ) → previous.stop.number < m → HasNoTaskFault One (Some previous) (numbered line (map (row_line p row.Task) (stops_from p m count)))
    tasks_clean previous line m zero less = λ line kind f. f
    tasks_clean previous line m (suc count) less = by (stop_at p m) refl (λ before at. tasks_clean before at (m + 1) count)
      where
        by : (o : Option Stop) → stop_at p m ≡ o
            → ((before : Task) (at : ℕ) → before.stop.number < m + 1 → HasNoTaskFault One (Some before) (numbered at (map (row_line p row.Task) (stops_from p (m + 1) count))))
            → HasNoTaskFault One (Some previous) (numbered line (map (row_line p row.Task) (cons_option o (stops_from p (m + 1) count))))
        by None e others = others previous line (omega (arith, less))
        by (Some s) e others =
            let here = number_at p valid m s e in
            let its = said m s e in
            let order : is_out_of_order (Some previous) (pos s.number) ≡ false = ap not (lt-ltb previous.stop.number s.number (omega (arith, less, here))) in
            let after : (task_of (record { line = line; text = row_line p row.Task s })).stop.number < m + 1 = omega (arith, here, ap (λ (t : Task). t.stop.number) (task_read s its line)) in
            step_none One (Some previous) (record { line = line; text = row_line p row.Task s }) _ (no_fault s its (Some previous) order) (others _ (line + 1) after)

    -- ---- the header and the depot
    abbrev head : List ℤ
    head = pos p.fleet ∷ pos p.capacity ∷ pos 1 ∷ []

    head_small : AreSmall head
    head_small = (small_pos 40000 p.fleet valid.fleet.1 (omega arith), (small_pos 1000000 p.capacity valid.capacity (omega arith), (omega arith, tt)))

    head_words : words_of (header_line p) ≡ map signed_decimal head
    head_words = words_read head head_small

    head_fault_among : HasNoKind (header_fault (map signed_decimal head))
    head_fault_among FieldCount = refl
    head_fault_among BadNumber = all_numbers head head_small
    head_fault_among Range =
        none_beyond header_limits head head_small (
          or_from (int_lt (pos p.fleet) (pos 1)) (int_lt (pos 40000) (pos p.fleet)) (le-ltb p.fleet 1 valid.fleet.0) (le-ltb 40000 p.fleet valid.fleet.1),
          (not_beyond_zero 1000000 p.capacity valid.capacity, tt),
        )
    head_fault_among TooManyStops = refl
    head_fault_among TaskOrder = refl
    head_fault_among EmptyWindow = refl
    head_fault_among PairMismatch = refl
    head_fault_among MissingKey = refl
    head_fault_among Unsupported = refl
    head_fault_among DepotNotFirst = refl
    head_fault_among NodeRepeated = refl
    head_fault_among Truncated = refl
    head_fault_among OutOfMemory = refl

    abbrev stops_after_depot : List Stop
    stops_after_depot = stops_from p 1 (p.next_number - 1)

    abbrev text : List ℕ
    text = lines_text (lilim_lines p)

    abbrev header_row : Row
    header_row = record { line = 1; text = header_line p }

    abbrev depot_row : Row
    depot_row = record { line = 2; text = row_line p row.Task p.depot }

    abbrev stop_rows : List Row
    stop_rows = numbered 3 (map (row_line p row.Task) stops_after_depot)

    rows_are : rows_of text ≡ header_row ∷ depot_row ∷ stop_rows
    rows_are =
        let all = all_said 1 (p.next_number - 1) in
        ap (λ ls. rows_from 1 ls)
        (lines_read (lilim_lines p) (numbers_printable head head_small, (numbers_printable (fields p.depot depot_said) (fields_small p.depot depot_said), lines_printable stops_after_depot all)))
        ∙ rows_numbered 1 (lilim_lines p) (numbers_shown (pos p.fleet) _ head_small, (numbers_shown (pos p.depot.number) _ (fields_small p.depot depot_said), lines_shown stops_after_depot all))

    sound : HasNoKind (header_fault (words_of header_row.text))
    sound = subst (λ ws. HasNoKind (header_fault ws)) (sym head_words) head_fault_among

    depot_first : is_out_of_order None (pos p.depot.number) ≡ false
    depot_first = rw valid.depot.number refl

    clean : HasNoTaskFault One None (depot_row ∷ stop_rows)
    clean =
        let after : (task_of depot_row).stop.number < 1 = omega (arith, valid.depot.number, ap (λ (t : Task). t.stop.number) (task_read p.depot depot_said 2)) in
        step_none One None depot_row stop_rows (no_fault p.depot depot_said None depot_first) (tasks_clean (task_of depot_row) 3 1 (p.next_number - 1) after)

    tasks_are : map task_of stop_rows ≡ all_tasks p valid 3
    tasks_are = tasks_read 3 stops_after_depot (all_said 1 (p.next_number - 1))

    -- ---- the problem
    last_is : (line m : ℕ) (s : Stop) (ss : List Stop) → last_number (task p line s) (tasks_from p m ss) ≡ last_of s ss
    last_is line m s [] = refl
    last_is line m s (t ∷ ss) = last_is m (m + 1) t ss

    depot_same : (s : Stop) → IsDepot s → depot_from (task p 2 s) ≡ s
    depot_same s is =
        ap (λ n. record { number = n; x = s.x; y = s.y; demand = pos 0; earliest = s.earliest; latest = s.latest; service = 0 }) (sym is.number)
        ∙ ap (λ z. record { number = s.number; x = s.x; y = s.y; demand = z; earliest = s.earliest; latest = s.latest; service = 0 }) (sym is.demand)
        ∙ ap (λ n. record { number = s.number; x = s.x; y = s.y; demand = s.demand; earliest = s.earliest; latest = s.latest; service = n }) (sym is.service)

    abbrev with_parts : Stop → List (ℕ × Request) → ℕ → Instance
    with_parts depot requests next = record { kind = LiLim; depot = depot; capacity = p.capacity; fleet = p.fleet; requests = requests; next_number = next }

    from_parts : problem_from p.fleet p.capacity (task p 2 p.depot) (all_tasks p valid 3) ≡ with_parts p.depot p.requests (last_of p.depot stops_after_depot + 1)
    from_parts =
        ap (λ d. with_parts d (pairs_of (all_tasks p valid 3)) (last_number (task p 2 p.depot) (all_tasks p valid 3) + 1)) (depot_same p.depot valid.depot)
        ∙ ap₂ (λ rs n. with_parts p.depot rs (n + 1)) (pairs_are p valid 3 pairs) (last_is 2 3 p.depot stops_after_depot)

    problem_is : problem_of One header_row depot_row stop_rows ≡ with_parts p.depot p.requests (last_of p.depot stops_after_depot + 1)
    problem_is =
        ap (λ ws. problem_from (unsigned_abs (value_at ws 0)) (unsigned_abs (value_at ws 1)) (task_of depot_row) (map task_of stop_rows)) head_words
        ∙ ap₂ (λ f c. problem_from (unsigned_abs f) (unsigned_abs c) (task_of depot_row) (map task_of stop_rows)) (value_read head 0 head_small) (value_read head 1 head_small)
        ∙ ap₂ (λ d ts. problem_from p.fleet p.capacity d ts) (task_read p.depot depot_said 2) tasks_are
        ∙ from_parts

    spelled : SpellsLilim One text (with_parts p.depot p.requests (last_of p.depot stops_after_depot + 1))
    spelled = (
      has_none One text header_row depot_row stop_rows rows_are sound clean (subst ArePaired (sym tasks_are) (paired p valid 3 pairs)),
      header_row,
      depot_row,
      stop_rows,
      rows_are,
      sym problem_is,
    )

pub lilim_read_back : (p : Instance) → IsInstance p → p.kind ≡ LiLim → are_pairs p.requests ≡ true → SpellsLilim One (lines_text (lilim_lines p)) (read_by LiLim p)
lilim_read_back p valid kind said =
    let whole : Kind → Instance = λ k. record { kind = k; depot = p.depot; capacity = p.capacity; fleet = p.fleet; requests = p.requests; next_number = last_stop p + 1 } in
    subst (λ k. SpellsLilim One (lines_text (lilim_lines p)) (whole k)) (sym kind) (spelled p valid said)
