-- A text that is read with a scale spells the problem that it spells with scale 1, times the scale.
use Rattle.std.proofs.Common.{◌≡◌, ℕ, ◌+◌, ◌-◌, Bool, true, false, List, [], ◌∷◌, length, map, Option, Some, None, refl, sym, ap, ◌∙◌, arith, ℤ, pos, negsuc}
use Rattle.std.specs.Prelude.{◌≤ℤ◌, ◌==◌, ◌||◌, ◌*ℤ◌, int_lt, not, if◌then◌else◌}
use Rattle.std.specs.List.{cons_option, filter_map, last_or, range_with_len}
use Rattle.std.specs.Option.{option_map}
use Rattle.std.specs.Int.RustNames.{unsigned_abs}
use Rattle.std.proofs.lemmas.Bool.{false≢true, or_from}
use Rattle.std.proofs.lemmas.Int.{ints}
use Rattle.text_lines.specs.Lines.{lines_of}
use Rattle.text_lines.specs.Numbers.{number_of}
use Rattle.text_lines.specs.Words.{words_of}
use Rattle.plan_types.specs.Instance.{Instance}
use Rattle.plan_types.specs.declared.requests.Kind.TheVariants as kind
use Rattle.plan_types.specs.declared.requests.Request.{Request}
use Rattle.plan_types.specs.declared.requests.Request.TheVariants.{Pair, Single}
use Rattle.instance_read.specs.declared.faults.ReadFaultKind.{ReadFaultKind}
use Rattle.instance_read.specs.declared.faults.ReadFaultKind.TheVariants.{BadNumber, Range, FieldCount, NodeRepeated, TaskOrder, PairMismatch, EmptyWindow, TooManyStops, MissingKey, Truncated}
use Rattle.instance_read.specs.declared.formats.Layout.{Layout}
use Rattle.instance_read.specs.declared.formats.Layout.TheVariants as layout
use Rattle.instance_read.specs.declared.scales.Scale.{Scale}
use Rattle.instance_read.specs.declared.scales.Scale.TheVariants.{One, Ten, Hundred, Thousand}
use Rattle.instance_read.specs.declared.tasks.Task.{Task}
use Rattle.instance_read.specs.declared.vrp_lines.Section.{Section}
use Rattle.instance_read.specs.declared.vrp_lines.Section.TheVariants.{Outside, CoordinateLine, DemandLine, DepotLine, AfterEnd}
use Rattle.instance_read.specs.Faults.{Class, HasNoFault, OfLine, OfText}
use Rattle.instance_read.specs.Fields.{any_beyond, is_beyond, passes_test, value_at}
use Rattle.instance_read.specs.Lilim.{LilimFault, depot_from, problem_of, row_fault, stop_fault, task_limits}
use Rattle.instance_read.specs.Pairs.{find_task, last_number, pair_of, pairs_of, scaled_task, task_in, task_of}
use Rattle.instance_read.specs.Readings.{LayoutFault, SpellsLayout}
use Rattle.instance_read.specs.Rows.{Row, rows_of}
use Rattle.instance_read.specs.ScaleLaws.{FollowsTheScale, RangesFollowTheScale, ScaledTextsSpellScaledProblems, scaled_entry, scaled_problem, scaled_visit}
use Rattle.instance_read.specs.Scales.{coordinate_range, service_range, time_range, times}
use Rattle.instance_read.specs.Solomon.{IsProblemOf, LineTest, LinesFault, customer_limits, heading, line_fault, single_of, singles_problem}
use Rattle.instance_read.specs.Vrp.{VrpFault, coordinate_limits, in_demands, node_fault, node_stop, node_value, nodes_of, place_fault, vrp_problem}
use Rattle.instance_read.specs.VrpLines.{Placed, placed_of}
use Rattle.instance_read.proofs.ScaleLemmas.{find_scaled, within_from}

-- ---- limits
not_beyond : (least most z : ℤ) → least ≤ℤ z → z ≤ℤ most → is_beyond (least, most) z ≡ false
not_beyond least most z low high =
    let below : int_lt z least ≡ false = grind (arith, ints, low) in
    let above : int_lt most z ≡ false = grind (arith, ints, high) in
    or_from (int_lt z least) (int_lt most z) below above

same_test : (a b : Bool) → (a ≡ false → b ≡ false) → (b ≡ false → a ≡ false) → a ≡ b
same_test true true h g = refl
same_test false false h g = refl
same_test true false h g = absurd (false≢true (sym (g refl)))
same_test false true h g = absurd (false≢true (sym (h refl)))

-- z is within the first limits exactly if w is within the second ones
same_beyond : (least most z low high w : ℤ) → (least ≤ℤ z → z ≤ℤ most → (low ≤ℤ w) × (w ≤ℤ high)) → (low ≤ℤ w → w ≤ℤ high → (least ≤ℤ z) × (z ≤ℤ most))
    → is_beyond (least, most) z ≡ is_beyond (low, high) w
same_beyond least most z low high w to from =
    same_test (is_beyond (least, most) z) (is_beyond (low, high) w)
    (λ e. let p = within_from least most z e in let q = to p.0 p.1 in not_beyond low high w q.0 q.1)
    (λ e. let p = within_from low high w e in let q = from p.0 p.1 in not_beyond least most z q.0 q.1)

coordinates_follow : FollowsTheScale coordinate_range
coordinates_follow One z = refl
coordinates_follow Ten z =
    same_beyond (negsuc 99999) (pos 100000) z (negsuc 999999) (pos 1000000) (z *ℤ pos 10) (λ l h. (omega (arith, ints, l), omega (arith, ints, h))) (λ l h. (omega (arith, ints, l), omega (arith, ints, h)))
coordinates_follow Hundred z =
    same_beyond (negsuc 9999) (pos 10000) z (negsuc 999999) (pos 1000000) (z *ℤ pos 100) (λ l h. (omega (arith, ints, l), omega (arith, ints, h))) (λ l h. (omega (arith, ints, l), omega (arith, ints, h)))
coordinates_follow Thousand z =
    same_beyond (negsuc 999) (pos 1000) z (negsuc 999999) (pos 1000000) (z *ℤ pos 1000) (λ l h. (omega (arith, ints, l), omega (arith, ints, h))) (λ l h. (omega (arith, ints, l), omega (arith, ints, h)))

times_follow : FollowsTheScale time_range
times_follow One z = refl
times_follow Ten z =
    same_beyond (pos 0) (pos 10000000) z (pos 0) (pos 100000000) (z *ℤ pos 10) (λ l h. (omega (arith, ints, l), omega (arith, ints, h))) (λ l h. (omega (arith, ints, l), omega (arith, ints, h)))
times_follow Hundred z =
    same_beyond (pos 0) (pos 1000000) z (pos 0) (pos 100000000) (z *ℤ pos 100) (λ l h. (omega (arith, ints, l), omega (arith, ints, h))) (λ l h. (omega (arith, ints, l), omega (arith, ints, h)))
times_follow Thousand z =
    same_beyond (pos 0) (pos 100000) z (pos 0) (pos 100000000) (z *ℤ pos 1000) (λ l h. (omega (arith, ints, l), omega (arith, ints, h))) (λ l h. (omega (arith, ints, l), omega (arith, ints, h)))

services_follow : FollowsTheScale service_range
services_follow One z = refl
services_follow Ten z =
    same_beyond (pos 0) (pos 100000) z (pos 0) (pos 1000000) (z *ℤ pos 10) (λ l h. (omega (arith, ints, l), omega (arith, ints, h))) (λ l h. (omega (arith, ints, l), omega (arith, ints, h)))
services_follow Hundred z =
    same_beyond (pos 0) (pos 10000) z (pos 0) (pos 1000000) (z *ℤ pos 100) (λ l h. (omega (arith, ints, l), omega (arith, ints, h))) (λ l h. (omega (arith, ints, l), omega (arith, ints, h)))
services_follow Thousand z =
    same_beyond (pos 0) (pos 1000) z (pos 0) (pos 1000000) (z *ℤ pos 1000) (λ l h. (omega (arith, ints, l), omega (arith, ints, h))) (λ l h. (omega (arith, ints, l), omega (arith, ints, h)))

pub ranges_follow_the_scale : RangesFollowTheScale
ranges_follow_the_scale = record { coordinate = coordinates_follow; time = times_follow; service = services_follow }

-- ---- a fault with scale 1 is a fault with any scale
-- what is beyond the limits m is beyond the limits l
abbrev IsNarrower : ℤ × ℤ → ℤ × ℤ → Type 0
IsNarrower l m = (z : ℤ) → is_beyond m z ≡ true → is_beyond l z ≡ true

beyond_narrower : (least most low high z : ℤ) → (least ≤ℤ z → low ≤ℤ z) → (z ≤ℤ most → z ≤ℤ high) → is_beyond (low, high) z ≡ true → is_beyond (least, most) z ≡ true
beyond_narrower least most low high z below above e = by (is_beyond (least, most) z) refl
  where
    by : (b : Bool) → is_beyond (least, most) z ≡ b → is_beyond (least, most) z ≡ true
    by true is = is
    by false is = let p = within_from least most z is in absurd (false≢true (sym (not_beyond low high z (below p.0) (above p.1)) ∙ e))

coordinate_narrower : (scale : Scale) → IsNarrower (coordinate_range scale) (coordinate_range One)
coordinate_narrower One z e = e
coordinate_narrower Ten z e = beyond_narrower (negsuc 99999) (pos 100000) (negsuc 999999) (pos 1000000) z (λ l. omega (arith, ints, l)) (λ l. omega (arith, ints, l)) e
coordinate_narrower Hundred z e = beyond_narrower (negsuc 9999) (pos 10000) (negsuc 999999) (pos 1000000) z (λ l. omega (arith, ints, l)) (λ l. omega (arith, ints, l)) e
coordinate_narrower Thousand z e = beyond_narrower (negsuc 999) (pos 1000) (negsuc 999999) (pos 1000000) z (λ l. omega (arith, ints, l)) (λ l. omega (arith, ints, l)) e

time_narrower : (scale : Scale) → IsNarrower (time_range scale) (time_range One)
time_narrower One z e = e
time_narrower Ten z e = beyond_narrower (pos 0) (pos 10000000) (pos 0) (pos 100000000) z (λ l. l) (λ l. omega (arith, ints, l)) e
time_narrower Hundred z e = beyond_narrower (pos 0) (pos 1000000) (pos 0) (pos 100000000) z (λ l. l) (λ l. omega (arith, ints, l)) e
time_narrower Thousand z e = beyond_narrower (pos 0) (pos 100000) (pos 0) (pos 100000000) z (λ l. l) (λ l. omega (arith, ints, l)) e

service_narrower : (scale : Scale) → IsNarrower (service_range scale) (service_range One)
service_narrower One z e = e
service_narrower Ten z e = beyond_narrower (pos 0) (pos 100000) (pos 0) (pos 1000000) z (λ l. l) (λ l. omega (arith, ints, l)) e
service_narrower Hundred z e = beyond_narrower (pos 0) (pos 10000) (pos 0) (pos 1000000) z (λ l. l) (λ l. omega (arith, ints, l)) e
service_narrower Thousand z e = beyond_narrower (pos 0) (pos 1000) (pos 0) (pos 1000000) z (λ l. l) (λ l. omega (arith, ints, l)) e

-- the same of two lists of limits
abbrev AreNarrower : List (ℤ × ℤ) → List (ℤ × ℤ) → Type 0
AreNarrower [] [] = Unit {0}
AreNarrower (l ∷ ls) (m ∷ ms) = IsNarrower l m × AreNarrower ls ms
AreNarrower ls ms = ⊥

one_beyond : (l m : ℤ × ℤ) → IsNarrower l m → (o : Option ℤ) → passes_test (is_beyond m) o ≡ true → passes_test (is_beyond l) o ≡ true
one_beyond l m narrower None e = e
one_beyond l m narrower (Some z) e = narrower z e

or_each : (a b c d : Bool) → (a ≡ true → c ≡ true) → (b ≡ true → d ≡ true) → (a || b) ≡ true → (c || d) ≡ true
or_each a b true d h g e = refl
or_each true b false d h g e = absurd (false≢true (h refl))
or_each false b false d h g e = g e

any_narrower : (ls ms : List (ℤ × ℤ)) (words : List (List ℕ)) → AreNarrower ls ms → any_beyond ms words ≡ true → any_beyond ls words ≡ true
any_narrower [] [] words h e = e
any_narrower [] (m ∷ ms) words h e = absurd h
any_narrower (l ∷ ls) [] words h e = absurd h
any_narrower (l ∷ ls) (m ∷ ms) [] h e = absurd (false≢true e)
any_narrower (l ∷ ls) (m ∷ ms) (w ∷ words) h e =
    or_each (passes_test (is_beyond m) (number_of w)) (any_beyond ms words) (passes_test (is_beyond l) (number_of w)) (any_beyond ls words)
    (one_beyond l m h.0 (number_of w)) (any_narrower ls ms words h.1) e

stop_narrower : (ls ms : List (ℤ × ℤ)) (previous : Option Task) (words : List (List ℕ)) (kind : ReadFaultKind) → length ls ≡ length ms → AreNarrower ls ms
    → stop_fault ms previous words kind ≡ true → stop_fault ls previous words kind ≡ true
stop_narrower ls ms previous words FieldCount same h e = ap (λ n. not (length words == n)) same ∙ e
stop_narrower ls ms previous words BadNumber same h e = e
stop_narrower ls ms previous words TooManyStops same h e = e
stop_narrower ls ms previous words Range same h e = any_narrower ls ms words h e
stop_narrower ls ms previous words TaskOrder same h e = e
stop_narrower ls ms previous words EmptyWindow same h e = e
stop_narrower ls ms previous words _ same h e = e

module _ (scale : Scale) where
  tasks_narrower : AreNarrower (task_limits scale) (task_limits One)
  tasks_narrower = (
    λ z e. e,
    (
      coordinate_narrower scale,
      (
        coordinate_narrower scale,
        (
          λ z e. e,
          (
            time_narrower scale,
            (
              time_narrower scale,
              (service_narrower scale, (λ z e. e, (λ z e. e, tt))),
            ),
          ),
        ),
      ),
    ),
  )

  customers_narrower : AreNarrower (customer_limits scale) (customer_limits One)
  customers_narrower =
      (λ z e. e, (coordinate_narrower scale, (coordinate_narrower scale, (λ z e. e, (time_narrower scale, (time_narrower scale, (service_narrower scale, tt)))))))

  row_scaled : (before : List Row) (row : Row) (kind : ReadFaultKind) → row_fault One before row kind ≡ true → row_fault scale before row kind ≡ true
  row_scaled [] row kind e = e
  row_scaled (header ∷ before) row kind e = stop_narrower (task_limits scale) (task_limits One) (last_or None (map task_of before)) (words_of row.text) kind refl tasks_narrower e

  lilim_scaled : (text : List ℕ) (class : Class) (line : ℕ) (kind : ReadFaultKind) → LilimFault One text class line kind → LilimFault scale text class line kind
  lilim_scaled text OfLine line kind f = (f.0, f.1, f.2, f.3, f.4, row_scaled f.0 f.1 kind f.5)
  lilim_scaled text OfText line PairMismatch f = f
  lilim_scaled text OfText line Truncated f = f
  lilim_scaled text OfText line _ f = f

  line_scaled : (due : List LineTest) (before : List Row) (row : Row) (kind : ReadFaultKind) → line_fault One due before row kind ≡ true → line_fault scale due before row kind ≡ true
  line_scaled [] before row kind e = stop_narrower (customer_limits scale) (customer_limits One) (last_or None (map task_of before)) (words_of row.text) kind refl customers_narrower e
  line_scaled (test ∷ due) [] row kind e = e
  line_scaled (test ∷ due) (b ∷ before) row kind e = line_scaled due before row kind e

  lines_scaled : (end : ℕ) (due : List LineTest) (rows : List Row) (class : Class) (line : ℕ) (kind : ReadFaultKind)
      → LinesFault One end due rows class line kind → LinesFault scale end due rows class line kind
  lines_scaled end due rows OfLine line kind f = (f.0, f.1, f.2, f.3, f.4, line_scaled due f.0 f.1 kind f.5)
  lines_scaled end due rows OfText line Truncated f = f
  lines_scaled end due rows OfText line _ f = f

  point_scaled : (nodes : ℕ) (taken : ℤ → Bool) (words : List (List ℕ)) (kind : ReadFaultKind)
      → node_fault 3 (coordinate_limits One nodes) taken words kind ≡ true → node_fault 3 (coordinate_limits scale nodes) taken words kind ≡ true
  point_scaled nodes taken words FieldCount e = e
  point_scaled nodes taken words BadNumber e = e
  point_scaled nodes taken words Range e =
      any_narrower (coordinate_limits scale nodes) (coordinate_limits One nodes) words (λ z e. e, (coordinate_narrower scale, (coordinate_narrower scale, tt))) e
  point_scaled nodes taken words NodeRepeated e = e
  point_scaled nodes taken words _ e = e

  place_scaled : (before : List Placed) (row : Row) (place : Section) (kind : ReadFaultKind) → place_fault One before row place kind ≡ true → place_fault scale before row place kind ≡ true
  place_scaled before row Outside kind e = e
  place_scaled before row (CoordinateLine n) kind e = point_scaled (nodes_of before) _ (words_of row.text) kind e
  place_scaled before row (DemandLine n) kind e = e
  place_scaled before row (DepotLine seen) kind e = e
  place_scaled before row AfterEnd kind e = e

  vrp_scaled : (text : List ℕ) (class : Class) (line : ℕ) (kind : ReadFaultKind) → VrpFault One text class line kind → VrpFault scale text class line kind
  vrp_scaled text OfLine line kind f = (f.0, f.1, f.2, f.3, f.4, place_scaled f.0 f.1.row f.1.place kind f.5)
  vrp_scaled text OfText line Truncated f = f
  vrp_scaled text OfText line MissingKey f = f
  vrp_scaled text OfText line _ f = f

  -- ---- the problem with the scale is the problem with scale 1, times the scale
  zero_stays : times scale 0 ≡ 0
  zero_stays = by scale
    where
      by : (s : Scale) → times s 0 ≡ 0
      by One = refl
      by Ten = refl
      by Hundred = refl
      by Thousand = refl

  depot_scaled : (row : Row) → depot_from (task_in scale row) ≡ scaled_visit scale kind.LiLim (depot_from (task_in One row))
  depot_scaled row = λ i. record (depot_from (task_in scale row)) { service = sym zero_stays i }

  last_scaled : (row : Row) (rows : List Row) → last_number (task_in scale row) (map (task_in scale) rows) ≡ last_number (task_in One row) (map (task_in One) rows)
  last_scaled row [] = refl
  last_scaled row (next ∷ rows) = last_scaled next rows

  abbrev entry : ℕ × Request → ℕ × Request
  entry = scaled_entry scale kind.LiLim

  partner_scaled : (t : Task) (o : Option Task)
      → option_map (λ (d : Task). ((scaled_task scale t).stop.number, Pair (scaled_task scale t).stop d.stop)) (option_map (scaled_task scale) o)
      ≡ option_map entry (option_map (λ (d : Task). (t.stop.number, Pair t.stop d.stop)) o)
  partner_scaled t None = refl
  partner_scaled t (Some d) = refl

  if_scaled : (b : Bool) (o : Option (ℕ × Request)) → (if b then option_map entry o else None) ≡ option_map entry (if b then o else None)
  if_scaled true o = refl
  if_scaled false o = refl

  pair_scaled : (all : List Task) (t : Task) → pair_of (map (scaled_task scale) all) (scaled_task scale t) ≡ option_map entry (pair_of all t)
  pair_scaled all t =
      let found = find_scaled scale (λ (u : Task). u.stop.number == t.delivery) (λ u. u.stop.number == t.delivery) (λ u. refl) all in
      let pairs = ap (option_map (λ (d : Task). ((scaled_task scale t).stop.number, Pair (scaled_task scale t).stop d.stop))) found ∙ partner_scaled t (find_task t.delivery all) in
      ap (λ o. if t.pickup == 0 then o else None) pairs ∙ if_scaled (t.pickup == 0) (option_map (λ (d : Task). (t.stop.number, Pair t.stop d.stop)) (find_task t.delivery all))

  cons_scaled : (o : Option (ℕ × Request)) (es : List (ℕ × Request)) → cons_option (option_map entry o) (map entry es) ≡ map entry (cons_option o es)
  cons_scaled None es = refl
  cons_scaled (Some e) es = refl

  pairs_among : (all ts : List Task) → filter_map (pair_of (map (scaled_task scale) all)) (map (scaled_task scale) ts) ≡ map entry (filter_map (pair_of all) ts)
  pairs_among all [] = refl
  pairs_among all (t ∷ ts) =
      ap (λ o. cons_option o (filter_map (pair_of (map (scaled_task scale) all)) (map (scaled_task scale) ts))) (pair_scaled all t)
      ∙ ap (cons_option (option_map entry (pair_of all t))) (pairs_among all ts) ∙ cons_scaled (pair_of all t) (filter_map (pair_of all) ts)

  tasks_scaled : (rows : List Row) → map (task_in scale) rows ≡ map (scaled_task scale) (map task_of rows)
  tasks_scaled [] = refl
  tasks_scaled (row ∷ rows) = ap (λ ts. task_in scale row ∷ ts) (tasks_scaled rows)

  pairs_scaled : (rows : List Row) → pairs_of (map (task_in scale) rows) ≡ map entry (pairs_of (map (task_in One) rows))
  pairs_scaled rows = ap pairs_of (tasks_scaled rows) ∙ pairs_among (map task_of rows) (map task_of rows)

  lilim_problem : (header depot : Row) (customers : List Row) → problem_of scale header depot customers ≡ scaled_problem scale (problem_of One header depot customers)
  lilim_problem header depot customers = λ i. record (problem_of scale header depot customers) {
    depot = depot_scaled depot i;
    requests = pairs_scaled customers i;
    next_number = last_scaled depot customers i + 1;
  }

  singles_scaled : (rows : List Row) → map single_of (map (task_in scale) rows) ≡ map entry (map single_of (map (task_in One) rows))
  singles_scaled [] = refl
  singles_scaled (row ∷ rows) = ap (λ es. single_of (task_in scale row) ∷ es) (singles_scaled rows)

  solomon_problem : (fleet capacity : ℕ) (depot : Row) (customers : List Row)
      → singles_problem fleet capacity (task_in scale depot) (map (task_in scale) customers) ≡ scaled_problem scale (singles_problem fleet capacity (task_in One depot) (map (task_in One) customers))
  solomon_problem fleet capacity depot customers = λ i. record (singles_problem fleet capacity (task_in scale depot) (map (task_in scale) customers)) {
    depot = depot_scaled depot i;
    requests = singles_scaled customers i;
    next_number = last_scaled depot customers i + 1;
  }

  map_twice : {X Y Z : Type 0} (g : Y → Z) (f : X → Y) (xs : List X) → map (λ x. g (f x)) xs ≡ map g (map f xs)
  map_twice g f [] = refl
  map_twice g f (x ∷ xs) = ap (λ ys. g (f x) ∷ ys) (map_twice g f xs)

  nodes_scaled : (ps : List Placed) → vrp_problem scale ps ≡ scaled_problem scale (vrp_problem One ps)
  nodes_scaled ps =
      let customer : ℕ → ℕ × Request = λ n. (n, Single (node_stop One ps (node_value in_demands ps (n + 1) 1) n)) in
      ap (λ es. record (vrp_problem scale ps) { requests = es }) (map_twice (scaled_entry scale kind.Vrp) customer (range_with_len 1 (nodes_of ps - 1)))

  -- ---- texts
  abbrev IsScaled : Layout → List ℕ → Instance → Type 0
  IsScaled l text p = HasNoFault (LayoutFault l scale text) × (q : Instance) × SpellsLayout l One text q × (p ≡ scaled_problem scale q)

  fault_scaled : (l : Layout) (text : List ℕ) (class : Class) (line : ℕ) (kind : ReadFaultKind) → LayoutFault l One text class line kind → LayoutFault l scale text class line kind
  fault_scaled layout.LiLim text = lilim_scaled text
  fault_scaled layout.Solomon text = lines_scaled (length (lines_of text) + 1) heading (rows_of text)
  fault_scaled layout.Vrp text = vrp_scaled text

  clean_unscaled : (l : Layout) (text : List ℕ) → HasNoFault (LayoutFault l scale text) → HasNoFault (LayoutFault l One text)
  clean_unscaled l text clean class line kind f = clean class line kind (fault_scaled l text class line kind f)

  singles_to : (rows : List Row) (p : Instance) → IsProblemOf scale rows p → (q : Instance) × IsProblemOf One rows q × (p ≡ scaled_problem scale q)
  singles_to (a ∷ b ∷ c ∷ fleet ∷ e ∷ f ∷ depot ∷ customers) p is =
      let words = words_of fleet.text in
      (_, refl, is ∙ solomon_problem (unsigned_abs (value_at words 0)) (unsigned_abs (value_at words 1)) depot customers)
  singles_to rows p is = absurd is

  singles_from : (rows : List Row) (p q : Instance) → IsProblemOf One rows q → p ≡ scaled_problem scale q → IsProblemOf scale rows p
  singles_from (a ∷ b ∷ c ∷ fleet ∷ e ∷ f ∷ depot ∷ customers) p q is same =
      let words = words_of fleet.text in
      same ∙ ap (scaled_problem scale) is ∙ sym (solomon_problem (unsigned_abs (value_at words 0)) (unsigned_abs (value_at words 1)) depot customers)
  singles_from rows p q is same = absurd is

  spelled_to : (l : Layout) (text : List ℕ) (p : Instance) → SpellsLayout l scale text p → IsScaled l text p
  spelled_to layout.LiLim text p h =
      (h.0, _, (clean_unscaled layout.LiLim text h.0, h.1, h.2, h.3, h.4, refl), h.5 ∙ lilim_problem h.1 h.2 h.3)
  spelled_to layout.Solomon text p h =
      let q = singles_to (rows_of text) p h.1 in
      (h.0, q.0, (clean_unscaled layout.Solomon text h.0, q.1), q.2)
  spelled_to layout.Vrp text p h = (h.0, _, (clean_unscaled layout.Vrp text h.0, refl), h.1 ∙ nodes_scaled (placed_of text))

  spelled_from : (l : Layout) (text : List ℕ) (p : Instance) → IsScaled l text p → SpellsLayout l scale text p
  spelled_from layout.LiLim text p (clean, q, h, is) =
      (clean, h.1, h.2, h.3, h.4, is ∙ ap (scaled_problem scale) h.5 ∙ sym (lilim_problem h.1 h.2 h.3))
  spelled_from layout.Solomon text p (clean, q, h, is) = (clean, singles_from (rows_of text) p q h.1 is)
  spelled_from layout.Vrp text p (clean, q, h, is) = (clean, is ∙ ap (scaled_problem scale) h.1 ∙ sym (nodes_scaled (placed_of text)))

pub scaled_texts_spell_scaled_problems : ScaledTextsSpellScaledProblems
scaled_texts_spell_scaled_problems format text p = (spelled_to format.scale format.layout text p, spelled_from format.scale format.layout text p)
