-- The text of a problem whose requests have one stop each spells the problem.
use Rattle.std.proofs.Common.{◌≡◌, ℕ, zero, suc, ◌+◌, ◌-◌, ◌<◌, ◌≤◌, ◌^◌, Bool, true, false, cond, drop, eqb, List, [], ◌∷◌, ◌++◌, length, map, nat_eq, slice_get, Option, Some, None, inl, inr, refl}
use Rattle.std.proofs.Common.{sym, ap, ap₂, subst, ◌∙◌, ◌⊎◌, ◌≢◌, arith, ℤ, pos, negsuc}
use Rattle.std.specs.Prelude.{codes, int_lt, nat_lt, not, unsigned_abs, unwrap_or, ◌&&◌}
use Rattle.std.specs.Fmt.{signed_decimal}
use Rattle.std.specs.List.{AllByRecursion, cons_option, filter_map, list_all, range_with_len}
use Rattle.std.specs.Map.{lookup}
use Rattle.std.specs.Option.{option_map, option_or}
use Rattle.std.proofs.lemmas.Bool.{and_parts, eq-eqb, false≢true, le-ltb, lt-ltb, ne_eqb, or_from}
use Rattle.std.proofs.lemmas.Bool.Decides.{eqb_tells}
use Rattle.std.proofs.lemmas.Int.{ints}
use Rattle.text_lines.specs.Lines.{lines_of}
use Rattle.text_lines.specs.Words.{words_of}
use Rattle.text_lines.proofs.WordLemmas.{words_of-front}
use Rattle.plan_types.specs.Instance.{Instance, IsInstance, first_some, stop_at}
use Rattle.plan_types.specs.Limits.{IsCoordinate, IsDemand, IsDepot, IsStop, IsVisit}
use Rattle.plan_types.specs.Request.{IsRequest, request_name, stop_in}
use Rattle.plan_types.specs.declared.requests.Kind.{Kind}
use Rattle.plan_types.specs.declared.requests.Kind.TheVariants.{LiLim}
use Rattle.plan_types.specs.declared.requests.Request.{Request}
use Rattle.plan_types.specs.declared.requests.Request.TheVariants.{Single, Pair}
use Rattle.plan_types.specs.declared.requests.Stop.{Stop}
use Rattle.plan_types.proofs.LookupLemmas.{below-each, first_some-holds, none_some}
use Rattle.instance_read.specs.declared.faults.ReadFaultKind.TheVariants.{BadNumber, Range, FieldCount, TaskOrder, PairMismatch, EmptyWindow, TooManyStops, MissingKey, Unsupported}
use Rattle.instance_read.specs.declared.faults.ReadFaultKind.TheVariants.{DepotNotFirst, NodeRepeated, Truncated, OutOfMemory}
use Rattle.instance_read.specs.declared.scales.Scale.TheVariants.{One}
use Rattle.instance_read.specs.declared.tasks.Task.{Task}
use Rattle.instance_read.specs.Faults.{HasNoFault}
use Rattle.instance_read.specs.Fields.{exceeds, is_beyond, passes_test, value_at}
use Rattle.instance_read.specs.Lilim.{depot_from, header_limits, is_out_of_order}
use Rattle.instance_read.specs.Pairs.{last_number, task_from, task_of}
use Rattle.instance_read.specs.Rows.{Row, rows_from, rows_of}
use Rattle.instance_read.specs.Solomon.{IsProblemOf, LineTest, LinesFault, SolomonFault, SpellsSolomon, begins_with, customer_fault, customer_limits, fleet_fault, heading as due_lines, name_fault, single_of, singles_problem, word_fault}
use Rattle.instance_read.specs.TaskFaults.{HasNoKind, HasNoStopFault}
use Rattle.instance_read.proofs.RowLemmas.{rows_blank, rows_read}
use Rattle.instance_read.proofs.SolomonLemmas.{clean_lines, due_clean}
use Rattle.instance_read.proofs.TaskFaultLemmas.{step_clean}
use Rattle.instance_text.specs.Formats.{are_singles, is_single}
use Rattle.instance_text.specs.ReadBack.{last_number as last_stop, last_of, read_by}
use Rattle.instance_text.specs.Texts.{column_lines, customer_line, customer_row, fleet_line, heading_text, lines_text, row_line, solomon_lines, stops_from, vehicle_lines}
use Rattle.instance_text.specs.declared.lines.Heading.{Heading}
use Rattle.instance_text.specs.declared.lines.Heading.TheVariants as heading
use Rattle.instance_text.specs.declared.stops.StopLine.TheVariants as row
use Rattle.instance_text.proofs.EntryLemmas.{AreNamedWithin, entries_named, entry_named}
use Rattle.instance_text.proofs.LilimLemmas.{not_above, not_beyond, not_beyond_zero, small_coordinate, small_pos}
use Rattle.instance_text.proofs.LineLemmas.{AreSmall, AreWithin, IsShown, Printable, all_numbers, field_read, lines_read, none_beyond, numbered, numbers_printable, numbers_shown, printable}
use Rattle.instance_text.proofs.LineLemmas.{rows_numbered, value_read, words_read}
use Rattle.instance_text.proofs.TaskLemmas.{named_within, number_at}

-- ---- the values in a customer's line
pub record IsSaid (s : Stop) : Type 0 where
  pub number : s.number ≤ 40000
  pub demand : IsDemand s.demand
  pub visit : IsVisit s

within_coordinates : (z : ℤ) → IsDemand z → IsCoordinate z
within_coordinates z is = (grind (arith, ints, is.0), is.1)

-- the customer of a stop, on this line
abbrev customer : ℕ → Stop → Task
customer line s = record { line = line; stop = s; pickup = 0; delivery = 0 }

module _ (s : Stop) (said : IsSaid s) where
  abbrev fields : List ℤ
  fields = customer_row s

  fields_small : AreSmall fields
  fields_small = (
    small_pos 40000 s.number said.number (omega arith),
    (
      small_coordinate s.x said.visit.x,
      (
        small_coordinate s.y said.visit.y,
        (
          small_coordinate s.demand (within_coordinates s.demand said.demand),
          (
            small_pos 100000000 s.earliest (omega (arith, said.visit.window, said.visit.latest)) (omega arith),
            (small_pos 100000000 s.latest said.visit.latest (omega arith), (small_pos 1000000 s.service said.visit.service (omega arith), tt)),
          ),
        ),
      ),
    ),
  )

  fields_within : AreWithin (customer_limits One) fields
  fields_within = (
    not_beyond_zero 40000 s.number said.number,
    (
      not_beyond (negsuc 999999) (pos 1000000) s.x said.visit.x.0 said.visit.x.1,
      (
        not_beyond (negsuc 999999) (pos 1000000) s.y said.visit.y.0 said.visit.y.1,
        (
          not_beyond (pos 0) (pos 1000000) s.demand said.demand.0 said.demand.1,
          (
            not_beyond_zero 100000000 s.earliest (omega (arith, said.visit.window, said.visit.latest)),
            (not_beyond_zero 100000000 s.latest said.visit.latest, (not_beyond_zero 1000000 s.service said.visit.service, tt)),
          ),
        ),
      ),
    ),
  )

  stop_words : words_of (customer_line s) ≡ map signed_decimal fields
  stop_words = words_read fields fields_small

  module _ (previous : Option Task) (order : is_out_of_order previous (pos s.number) ≡ false) where
    no_fault_among : HasNoKind (customer_fault One previous (map signed_decimal fields))
    no_fault_among FieldCount = refl
    no_fault_among BadNumber = all_numbers fields fields_small
    no_fault_among TooManyStops = ap (passes_test (λ z. int_lt (pos 40000) z)) (field_read fields 0 fields_small) ∙ not_above 40000 s.number said.number
    no_fault_among Range = none_beyond (customer_limits One) fields fields_small fields_within
    no_fault_among TaskOrder = ap (passes_test (is_out_of_order previous)) (field_read fields 0 fields_small) ∙ order
    no_fault_among EmptyWindow = ap₂ exceeds (field_read fields 4 fields_small) (field_read fields 5 fields_small) ∙ not_above s.latest s.earliest said.visit.window
    no_fault_among PairMismatch = refl
    no_fault_among MissingKey = refl
    no_fault_among Unsupported = refl
    no_fault_among DepotNotFirst = refl
    no_fault_among NodeRepeated = refl
    no_fault_among Truncated = refl
    no_fault_among OutOfMemory = refl

    no_fault : HasNoKind (customer_fault One previous (words_of (customer_line s)))
    no_fault = subst (λ ws. HasNoKind (customer_fault One previous ws)) (sym stop_words) no_fault_among

  customer_same : (line : ℕ) (f g : ℕ → ℤ) → ((i : ℕ) → f i ≡ g i) → task_from line f ≡ task_from line g
  customer_same line f g h = rw (h 0, h 1, h 2, h 3, h 4, h 5, h 6, h 7, h 8) refl

  customer_read : (line : ℕ) → task_of (record { line = line; text = customer_line s }) ≡ customer line s
  unfolding task_of
  customer_read line =
      ap (λ ws. task_from line (value_at ws)) stop_words
      ∙ customer_same line (value_at (map signed_decimal fields)) (λ i. unwrap_or (slice_get fields i) (pos 0)) (λ i. value_read fields i fields_small)

-- ---- lines of the heading
word_none : (word : List ℕ) (line : List ℕ) → begins_with word (words_of line) ≡ true → HasNoKind (word_fault word (words_of line))
word_none word line begins MissingKey = ap not begins
word_none word line begins FieldCount = refl
word_none word line begins BadNumber = refl
word_none word line begins TooManyStops = refl
word_none word line begins Range = refl
word_none word line begins TaskOrder = refl
word_none word line begins EmptyWindow = refl
word_none word line begins PairMismatch = refl
word_none word line begins Unsupported = refl
word_none word line begins DepotNotFirst = refl
word_none word line begins NodeRepeated = refl
word_none word line begins Truncated = refl
word_none word line begins OutOfMemory = refl

vehicle_begins : begins_with (codes "VEHICLE") (words_of (heading_text heading.Vehicles)) ≡ true
unfolding heading_text
vehicle_begins = ap (begins_with (codes "VEHICLE")) (words_of-front (codes "VEHICLE") [] (omega arith, (refl, (refl, (refl, (refl, (refl, (refl, (refl, tt)))))))) tt)

number_begins : begins_with (codes "NUMBER") (words_of (heading_text heading.Amounts)) ≡ true
unfolding heading_text
number_begins = ap (begins_with (codes "NUMBER")) (words_of-front (codes "NUMBER") (codes " CAPACITY") (omega arith, (refl, (refl, (refl, (refl, (refl, (refl, tt))))))) refl)

customer_begins : begins_with (codes "CUSTOMER") (words_of (heading_text heading.Customers)) ≡ true
unfolding heading_text
customer_begins = ap (begins_with (codes "CUSTOMER")) (words_of-front (codes "CUSTOMER") [] (omega arith, (refl, (refl, (refl, (refl, (refl, (refl, (refl, (refl, tt))))))))) tt)

columns_begin : begins_with (codes "CUST") (words_of (heading_text heading.Columns)) ≡ true
unfolding heading_text
columns_begin =
    ap (begins_with (codes "CUST")) (words_of-front (codes "CUST") (codes " NO. XCOORD. YCOORD. DEMAND READY TIME DUE DATE SERVICE TIME") (omega arith, (refl, (refl, (refl, (refl, tt))))) refl)

-- ---- the stops of a problem whose requests have one stop each
all_single : (es : List (ℕ × Request)) → list_all (λ e. is_single e.1) es ≡ true → AllByRecursion (λ e. IsRequest e.1) es
    → AllByRecursion (λ e. IsRequest e.1 × (is_single e.1 ≡ true)) es
all_single [] is valid = tt
all_single (e ∷ es) is valid = let parts = and_parts (is_single e.1) (list_all (λ e. is_single e.1) es) is in ((valid.0, parts.0), all_single es parts.1 valid.1)

said_stop : (s : Stop) → IsStop s → IsDemand s.demand → IsSaid s
said_stop s stop demand = record { number = stop.to_max; demand = demand; visit = stop.visit }

said_single : (n : ℕ) (r : Request) (s : Stop) → IsRequest r × (is_single r ≡ true) → stop_in n r ≡ Some s → IsSaid s
said_single n (Pair a b) s is found = absurd (false≢true is.1)
said_single n (Single t) s is found = by (eqb t.number n) found
  where
    by : (b : Bool) → cond b (Some t) None ≡ Some s → IsSaid s
    by true h = let same : t ≡ s = cc in subst IsSaid same (said_stop t is.0.0 is.0.1)
    by false h = absurd (none_some s h)

-- a request under its name, by its stop
abbrev entry_of : Stop → ℕ × Request
entry_of s = (s.number, Single s)

entry_found : (n : ℕ) (es : List (ℕ × Request)) → AllByRecursion (λ e. IsRequest e.1 × (is_single e.1 ≡ true)) es → AllByRecursion (λ e. e.0 ≡ request_name e.1) es
    → entry_named es n ≡ option_map entry_of (first_some (stop_in n) es)
entry_found n [] all named = refl
entry_found n ((m, Pair a b) ∷ es) all named = absurd (false≢true all.0.1)
entry_found n ((m, Single s) ∷ es) all named = by (eqb_tells n s.number) (entry_found n es all.1 named.1)
  where
    by : ((eqb n s.number ≡ true) × (n ≡ s.number)) ⊎ ((eqb n s.number ≡ false) × (n ≢ s.number)) → entry_named es n ≡ option_map entry_of (first_some (stop_in n) es)
        → entry_named ((m, Single s) ∷ es) n ≡ option_map entry_of (first_some (stop_in n) ((m, Single s) ∷ es))
    by (inl t) rest =
        let first : eqb n m ≡ true = eq-eqb n m (t.1 ∙ sym named.0) in
        let found : eqb s.number n ≡ true = eq-eqb s.number n (sym t.1) in
        rw (first, found) (ap (λ k. Some (k, Single s)) t.1)
    by (inr t) rest =
        let first : eqb n m ≡ false = ne_eqb n m (λ h. t.1 (h ∙ named.0)) in
        let found : eqb s.number n ≡ false = ne_eqb s.number n (λ h. t.1 (sym h)) in
        rw (first, found) rest

module _ (p : Instance) (valid : IsInstance p) (singles : list_all (λ e. is_single e.1) p.requests ≡ true) where
  abbrev stops : List Stop
  stops = stops_from p 1 (p.next_number - 1)

  each : AllByRecursion (λ e. IsRequest e.1 × (is_single e.1 ≡ true)) p.requests
  each = all_single p.requests singles valid.valid

  said : (n : ℕ) (s : Stop) → stop_at p n ≡ Some s → IsSaid s
  said n s is = first_some-holds (stop_in n) (λ r. IsRequest r × (is_single r ≡ true)) IsSaid (said_single n) p.requests s each is

  all_said : (m count : ℕ) → AllByRecursion IsSaid (stops_from p m count)
  all_said m zero = tt
  all_said m (suc count) = by (stop_at p m) refl (all_said (m + 1) count)
    where
      by : (o : Option Stop) → stop_at p m ≡ o → AllByRecursion IsSaid (stops_from p (m + 1) count) → AllByRecursion IsSaid (cons_option o (stops_from p (m + 1) count))
      by None e others = others
      by (Some s) e others = (said m s e, others)

  -- ---- the requests
  entries_found : (m count : ℕ) → map entry_of (stops_from p m count) ≡ filter_map (entry_named p.requests) (range_with_len m count)
  entries_found m zero = refl
  entries_found m (suc count) = by (stop_at p m) (entry_found m p.requests each valid.named) (entries_found (m + 1) count)
    where
      by : (o : Option Stop) → entry_named p.requests m ≡ option_map entry_of o → map entry_of (stops_from p (m + 1) count) ≡ filter_map (entry_named p.requests) (range_with_len (m + 1) count)
          → map entry_of (cons_option o (stops_from p (m + 1) count)) ≡ cons_option (entry_named p.requests m) (filter_map (entry_named p.requests) (range_with_len (m + 1) count))
      by None e others = others ∙ sym (ap (λ o. cons_option o (filter_map (entry_named p.requests) (range_with_len (m + 1) count))) e)
      by (Some s) e others = ap (λ es. entry_of s ∷ es) others ∙ sym (ap (λ o. cons_option o (filter_map (entry_named p.requests) (range_with_len (m + 1) count))) e)

  requests_are : map entry_of stops ≡ p.requests
  requests_are =
      entries_found 1 (p.next_number - 1)
      ∙ entries_named p.requests 1 (p.next_number - 1) valid.ascending (named_within p.next_number p.requests valid.named valid.valid (below-each p.next_number p.requests valid.above))

  -- ---- the lines of the customers
  depot_said : IsSaid p.depot
  depot_said = record {
    number = omega (arith, valid.depot.number);
    demand = rw valid.depot.demand (grind (arith, ints), grind (arith, ints));
    visit = valid.depot.visit;
  }

  lines_printable : (ss : List Stop) → AllByRecursion IsSaid ss → AllByRecursion Printable (map (row_line p row.Customer) ss)
  lines_printable [] all = tt
  lines_printable (s ∷ ss) all = (numbers_printable (customer_row s) (fields_small s all.0), lines_printable ss all.1)

  lines_shown : (ss : List Stop) → AllByRecursion IsSaid ss → AllByRecursion IsShown (map (row_line p row.Customer) ss)
  lines_shown [] all = tt
  lines_shown (s ∷ ss) all = (numbers_shown (pos s.number) _ (fields_small s all.0), lines_shown ss all.1)

  customers_clean : (previous : Task) (line m count : ℕ) → previous.stop.number < m
      → HasNoStopFault (customer_limits One) (Some previous) (numbered line (map (row_line p row.Customer) (stops_from p m count)))
  customers_clean previous line m zero less = λ line kind f. f
  customers_clean previous line m (suc count) less = by (stop_at p m) refl (λ before at. customers_clean before at (m + 1) count)
    where
      by : (o : Option Stop) → stop_at p m ≡ o
          → ((before : Task) (at : ℕ) → before.stop.number < m + 1 → HasNoStopFault (customer_limits One) (Some before) (numbered at (map (row_line p row.Customer) (stops_from p (m + 1) count))))
          → HasNoStopFault (customer_limits One) (Some previous) (numbered line (map (row_line p row.Customer) (cons_option o (stops_from p (m + 1) count))))
      by None e others = others previous line (omega (arith, less))
      by (Some s) e others =
          let here = number_at p valid m s e in
          let its = said m s e in
          let order : is_out_of_order (Some previous) (pos s.number) ≡ false = ap not (lt-ltb previous.stop.number s.number (omega (arith, less, here))) in
          let after : (task_of (record { line = line; text = customer_line s })).stop.number < m + 1 = omega (arith, here, ap (λ (t : Task). t.stop.number) (customer_read s its line)) in
          step_clean (customer_limits One) (Some previous) (record { line = line; text = customer_line s }) _ (no_fault s its (Some previous) order) (others _ (line + 1) after)

  customers_read : (line : ℕ) (ss : List Stop) → AllByRecursion IsSaid ss → map single_of (map task_of (numbered line (map (row_line p row.Customer) ss))) ≡ map entry_of ss
  customers_read line [] all = refl
  customers_read line (s ∷ ss) all = ap₂ (λ t ts. single_of t ∷ ts) (customer_read s all.0 line) (customers_read (line + 1) ss all.1)

  last_is : (line m : ℕ) (t : Task) (s : Stop) (ss : List Stop) → t.stop.number ≡ s.number → AllByRecursion IsSaid ss
      → last_number t (map task_of (numbered m (map (row_line p row.Customer) ss))) ≡ last_of s ss
  last_is line m t s [] same all = same
  last_is line m t s (u ∷ ss) same all = last_is m (m + 1) _ u ss (ap (λ (t : Task). t.stop.number) (customer_read u all.0 m)) all.1

  -- ---- the line with fleet and capacity
  abbrev amounts : List ℤ
  amounts = pos p.fleet ∷ pos p.capacity ∷ []

  amounts_small : AreSmall amounts
  amounts_small = (small_pos 40000 p.fleet valid.fleet.1 (omega arith), (small_pos 1000000 p.capacity valid.capacity (omega arith), tt))

  fleet_words : words_of (fleet_line p) ≡ map signed_decimal amounts
  fleet_words = words_read amounts amounts_small

  fleet_none_among : HasNoKind (fleet_fault (map signed_decimal amounts))
  fleet_none_among FieldCount = refl
  fleet_none_among BadNumber = all_numbers amounts amounts_small
  fleet_none_among Range =
      none_beyond header_limits amounts amounts_small (
        or_from (int_lt (pos p.fleet) (pos 1)) (int_lt (pos 40000) (pos p.fleet)) (le-ltb p.fleet 1 valid.fleet.0) (le-ltb 40000 p.fleet valid.fleet.1),
        (not_beyond_zero 1000000 p.capacity valid.capacity, tt),
      )
  fleet_none_among TooManyStops = refl
  fleet_none_among TaskOrder = refl
  fleet_none_among EmptyWindow = refl
  fleet_none_among PairMismatch = refl
  fleet_none_among MissingKey = refl
  fleet_none_among Unsupported = refl
  fleet_none_among DepotNotFirst = refl
  fleet_none_among NodeRepeated = refl
  fleet_none_among Truncated = refl
  fleet_none_among OutOfMemory = refl

  fleet_none : HasNoKind (fleet_fault (words_of (fleet_line p)))
  fleet_none = subst (λ ws. HasNoKind (fleet_fault ws)) (sym fleet_words) fleet_none_among

  -- ---- the lines that are read
  abbrev text : List ℕ
  text = lines_text (solomon_lines p)

  abbrev row_at : ℕ → List ℕ → Row
  row_at n t = record { line = n; text = t }

  abbrev depot_row : Row
  depot_row = row_at 10 (row_line p row.Customer p.depot)

  abbrev customer_rows : List Row
  customer_rows = numbered 11 (map (row_line p row.Customer) stops)

  abbrev customer_lines : List (List ℕ)
  customer_lines = map (row_line p row.Customer) (p.depot ∷ stops)

  abbrev head_row : ℕ → Heading → Row
  head_row n h = row_at n (heading_text h)

  abbrev all_rows : List Row
  all_rows =
      head_row 1 heading.Title ∷ head_row 3 heading.Vehicles ∷ head_row 4 heading.Amounts ∷ row_at 5 (fleet_line p)
      ∷ head_row 7 heading.Customers ∷ head_row 8 heading.Columns ∷ depot_row ∷ customer_rows

  head_printable : (rest : List (List ℕ)) → AllByRecursion Printable rest → AllByRecursion Printable (vehicle_lines p ++ (column_lines ++ rest))
  unfolding heading_text printable
  head_printable rest all = (refl, (refl, (refl, (refl, (numbers_printable amounts amounts_small, (refl, (refl, (refl, (refl, all)))))))))

  head_rows : (rest : List (List ℕ)) → rows_from 1 (vehicle_lines p ++ (column_lines ++ rest))
      ≡ head_row 1 heading.Title ∷ head_row 3 heading.Vehicles ∷ head_row 4 heading.Amounts ∷ row_at 5 (fleet_line p)
      ∷ head_row 7 heading.Customers ∷ head_row 8 heading.Columns ∷ rows_from 10 rest
  unfolding heading_text
  head_rows rest =
      let nine = rows_blank 9 (heading_text heading.Blank) rest refl in
      let eight = rows_read 8 (heading_text heading.Columns) (heading_text heading.Blank ∷ rest) refl ∙ ap (λ rs. head_row 8 heading.Columns ∷ rs) nine in
      let seven = rows_read 7 (heading_text heading.Customers) (heading_text heading.Columns ∷ heading_text heading.Blank ∷ rest) refl ∙ ap (λ rs. head_row 7 heading.Customers ∷ rs) eight in
      let six = rows_blank 6 (heading_text heading.Blank) (heading_text heading.Customers ∷ heading_text heading.Columns ∷ heading_text heading.Blank ∷ rest) refl ∙ seven in
      let five = rows_read 5 (fleet_line p) (heading_text heading.Blank ∷ heading_text heading.Customers ∷ heading_text heading.Columns ∷ heading_text heading.Blank ∷ rest)
      (numbers_shown (pos p.fleet) _ amounts_small) ∙ ap (λ rs. row_at 5 (fleet_line p) ∷ rs) six
      in
      let tail5 = heading_text heading.Blank ∷ heading_text heading.Customers ∷ heading_text heading.Columns ∷ heading_text heading.Blank ∷ rest in
      let four = rows_read 4 (heading_text heading.Amounts) (fleet_line p ∷ tail5) refl ∙ ap (λ rs. head_row 4 heading.Amounts ∷ rs) five in
      let three = rows_read 3 (heading_text heading.Vehicles) (heading_text heading.Amounts ∷ fleet_line p ∷ tail5) refl ∙ ap (λ rs. head_row 3 heading.Vehicles ∷ rs) four in
      let two = rows_blank 2 (heading_text heading.Blank) (heading_text heading.Vehicles ∷ heading_text heading.Amounts ∷ fleet_line p ∷ tail5) refl ∙ three in
      rows_read 1 (heading_text heading.Title) (heading_text heading.Blank ∷ heading_text heading.Vehicles ∷ heading_text heading.Amounts ∷ fleet_line p ∷ tail5) refl
      ∙ ap (λ rs. head_row 1 heading.Title ∷ rs) two

  rows_are : rows_of text ≡ all_rows
  rows_are =
      let all = all_said 1 (p.next_number - 1) in
      ap (rows_from 1) (lines_read (solomon_lines p) (head_printable customer_lines
      (numbers_printable (customer_row p.depot) (fields_small p.depot depot_said), lines_printable stops all)))
      ∙ head_rows customer_lines
      ∙ ap (λ rs. head_row 1 heading.Title ∷ head_row 3 heading.Vehicles ∷ head_row 4 heading.Amounts ∷ row_at 5 (fleet_line p)
      ∷ head_row 7 heading.Customers ∷ head_row 8 heading.Columns ∷ rs)
      (rows_numbered 10 customer_lines (numbers_shown (pos p.depot.number) _ (fields_small p.depot depot_said), lines_shown stops all))

  -- ---- none of them has a fault
  abbrev end : ℕ
  end = length (lines_of text) + 1

  depot_first : is_out_of_order None (pos p.depot.number) ≡ false
  depot_first = rw valid.depot.number refl

  stops_clean : HasNoStopFault (customer_limits One) None (depot_row ∷ customer_rows)
  stops_clean =
      let after : (task_of depot_row).stop.number < 1 = omega (arith, valid.depot.number, ap (λ (t : Task). t.stop.number) (customer_read p.depot depot_said 10)) in
      step_clean (customer_limits One) None depot_row customer_rows (no_fault p.depot depot_said None depot_first) (customers_clean (task_of depot_row) 11 1 (p.next_number - 1) after)

  name_none : (words : List (List ℕ)) → HasNoKind (name_fault words)
  name_none words kind = refl

  abbrev rows_after_fleet : List Row
  rows_after_fleet = head_row 7 heading.Customers ∷ head_row 8 heading.Columns ∷ depot_row ∷ customer_rows

  abbrev rows_after_amounts : List Row
  rows_after_amounts = row_at 5 (fleet_line p) ∷ rows_after_fleet

  abbrev rows_after_vehicles : List Row
  rows_after_vehicles = head_row 4 heading.Amounts ∷ rows_after_amounts

  abbrev rows_after_name : List Row
  rows_after_name = head_row 3 heading.Vehicles ∷ rows_after_vehicles

  clean : HasNoFault (LinesFault One end due_lines all_rows)
  clean =
      due_clean One end name_fault (drop 1 due_lines) (head_row 1 heading.Title) rows_after_name (name_none (words_of (heading_text heading.Title)))
      (due_clean One end (word_fault (codes "VEHICLE")) (drop 2 due_lines) (head_row 3 heading.Vehicles) rows_after_vehicles
      (word_none (codes "VEHICLE") (heading_text heading.Vehicles) vehicle_begins)
      (due_clean One end (word_fault (codes "NUMBER")) (drop 3 due_lines) (head_row 4 heading.Amounts) rows_after_amounts
      (word_none (codes "NUMBER") (heading_text heading.Amounts) number_begins)
      (due_clean One end fleet_fault (drop 4 due_lines) (row_at 5 (fleet_line p)) rows_after_fleet fleet_none
      (due_clean One end (word_fault (codes "CUSTOMER")) (drop 5 due_lines) (head_row 7 heading.Customers) (head_row 8 heading.Columns ∷ depot_row ∷ customer_rows)
      (word_none (codes "CUSTOMER") (heading_text heading.Customers) customer_begins)
      (due_clean One end (word_fault (codes "CUST")) [] (head_row 8 heading.Columns) (depot_row ∷ customer_rows)
      (word_none (codes "CUST") (heading_text heading.Columns) columns_begin)
      (clean_lines One end depot_row customer_rows stops_clean))))))

  -- ---- the problem
  depot_same : (s : Stop) → IsDepot s → depot_from (customer 10 s) ≡ s
  depot_same s is =
      ap (λ n. record { number = n; x = s.x; y = s.y; demand = pos 0; earliest = s.earliest; latest = s.latest; service = 0 }) (sym is.number)
      ∙ ap (λ z. record { number = s.number; x = s.x; y = s.y; demand = z; earliest = s.earliest; latest = s.latest; service = 0 }) (sym is.demand)
      ∙ ap (λ n. record { number = s.number; x = s.x; y = s.y; demand = s.demand; earliest = s.earliest; latest = s.latest; service = n }) (sym is.service)

  abbrev with_parts : Stop → List (ℕ × Request) → ℕ → Instance
  with_parts depot requests next = record { kind = LiLim; depot = depot; capacity = p.capacity; fleet = p.fleet; requests = requests; next_number = next }

  parts_are : singles_problem p.fleet p.capacity (task_of depot_row) (map task_of customer_rows) ≡ with_parts p.depot p.requests (last_of p.depot stops + 1)
  parts_are =
      let all = all_said 1 (p.next_number - 1) in
      ap (λ d. with_parts d (map single_of (map task_of customer_rows)) (last_number (task_of depot_row) (map task_of customer_rows) + 1))
      (ap depot_from (customer_read p.depot depot_said 10) ∙ depot_same p.depot valid.depot)
      ∙ ap₂ (λ rs n. with_parts p.depot rs (n + 1)) (customers_read 11 stops all ∙ requests_are)
      (last_is 10 11 (task_of depot_row) p.depot stops (ap (λ (t : Task). t.stop.number) (customer_read p.depot depot_said 10)) all)

  problem_is : IsProblemOf One all_rows (with_parts p.depot p.requests (last_of p.depot stops + 1))
  problem_is =
      sym (ap (λ ws. singles_problem (unsigned_abs (value_at ws 0)) (unsigned_abs (value_at ws 1)) (task_of depot_row) (map task_of customer_rows)) fleet_words
      ∙ ap₂ (λ f c. singles_problem (unsigned_abs f) (unsigned_abs c) (task_of depot_row) (map task_of customer_rows)) (value_read amounts 0 amounts_small) (value_read amounts 1 amounts_small)
      ∙ parts_are)

  spelled : SpellsSolomon One text (with_parts p.depot p.requests (last_of p.depot stops + 1))
  spelled =
      let P : List Row → Type 0 = λ rows. HasNoFault (LinesFault One end due_lines rows) in
      let Q : List Row → Type 0 = λ rows. IsProblemOf One rows (with_parts p.depot p.requests (last_of p.depot stops + 1)) in
      (subst P (sym rows_are) clean, subst Q (sym rows_are) problem_is)

pub solomon_read_back : (p : Instance) → IsInstance p → p.kind ≡ LiLim → are_singles p.requests ≡ true → SpellsSolomon One (lines_text (solomon_lines p)) (read_by LiLim p)
solomon_read_back p valid kind said =
    let whole : Kind → Instance = λ k. record { kind = k; depot = p.depot; capacity = p.capacity; fleet = p.fleet; requests = p.requests; next_number = last_stop p + 1 } in
    let singles = (and_parts (nat_lt 0 (length p.requests)) (list_all (λ e. is_single e.1) p.requests) said).1 in
    subst (λ k. SpellsSolomon One (lines_text (solomon_lines p)) (whole k)) (sym kind) (spelled p valid singles)
