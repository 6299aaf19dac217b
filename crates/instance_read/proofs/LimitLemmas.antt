-- The limits that the header and the tasks keep in lines without a fault.
use Rattle.std.proofs.Common.{◌≡◌, ℕ, zero, suc, ◌<◌, ◌≤◌, false, List, [], ◌∷◌, length, get_or, map, Option, Some, None, inl, inr, refl, sym, ap, subst, ◌∙◌, arith, ℤ, pos, negsuc}
use Rattle.std.specs.Prelude.{int_lt, ◌≤ℤ◌, is_none, ◌==◌, unwrap_or}
use Rattle.std.specs.Int.RustNames.{unsigned_abs}
use Rattle.std.specs.List.{AllByRecursion}
use Rattle.std.proofs.lemmas.Bool.{or_parts, eqb-true, ltb-true, ltb-false, false≢true, false_from_ne_true, not-false}
use Rattle.text_lines.specs.Numbers.{number_of}
use Rattle.text_lines.specs.Words.{words_of}
use Rattle.plan_types.specs.Limits.{IsVisit}
use Rattle.instance_read.specs.declared.faults.ReadFaultKind.TheVariants.{BadNumber, Range, FieldCount, TaskOrder, EmptyWindow}
use Rattle.instance_read.specs.declared.scales.Scale.{Scale}
use Rattle.instance_read.specs.declared.tasks.FleetLine.{FleetLine}
use Rattle.instance_read.specs.declared.tasks.Task.{Task}
use Rattle.instance_read.specs.Fields.{field, value_at, passes_test, is_beyond, any_beyond, has_no_number, is_no_number, exceeds}
use Rattle.instance_read.specs.FieldValues.{IsValue, numbers_fault}
use Rattle.instance_read.specs.Lilim.{header_fault, header_limits, is_out_of_order, stop_fault, task_limits}
use Rattle.instance_read.specs.Pairs.{task_in, task_of}
use Rattle.instance_read.specs.Rows.{Row}
use Rattle.instance_read.specs.Scales.{coordinate_range, service_range, time_range, unscaled_limit}
use Rattle.instance_read.specs.Solomon.{customer_limits}
use Rattle.instance_read.specs.Tables.{AreLoads, AreTasks, HeaderKeepsLimits, IsCustomer, AscendsFrom, IsHeader}
use Rattle.instance_read.specs.TaskFaults.{AreStopLimits, HasNoKind, HasNoStopFault}
use Rattle.instance_read.proofs.ScaleLemmas.{coordinate_within, magnitude_le, times_ordered, times_within, within_from}
use Rattle.instance_read.proofs.TaskLemmas.{from_zero}

most_from : (most n : ℕ) → int_lt (pos most) (pos n) ≡ false → n ≤ most
most_from most n e = ltb-false most n e

-- each number of a line without a fault keeps its limits
value_here : (limits : ℤ × ℤ) (number : Option ℤ) → is_none number ≡ false → passes_test (is_beyond limits) number ≡ false → IsValue limits number (unwrap_or number (pos 0))
value_here limits None some h = absurd (false≢true (sym some))
value_here limits (Some z) some h = (refl, h)

pub values_of : (limits : List (ℤ × ℤ)) (words : List (List ℕ)) (k : ℕ) → length limits ≤ length words → has_no_number words ≡ false → any_beyond limits words ≡ false
    → k < length limits → IsValue (get_or limits k (pos 0, pos 0)) (field words k) (value_at words k)
values_of [] words k fits numbers h l = absurd (omega arith)
values_of (x ∷ limits) [] k fits numbers h l = absurd (omega arith)
values_of (x ∷ limits) (w ∷ words) zero fits numbers h l =
    value_here x (number_of w) (or_parts (is_no_number w) (has_no_number words) numbers).0 (or_parts (passes_test (is_beyond x) (number_of w)) (any_beyond limits words) h).0
values_of (x ∷ limits) (w ∷ words) (suc k) fits numbers h l =
    values_of limits words k (omega arith) (or_parts (is_no_number w) (has_no_number words) numbers).1 (or_parts (passes_test (is_beyond x) (number_of w)) (any_beyond limits words) h).1 (omega arith)

pub from_one_to : (most : ℕ) (z : ℤ) → is_beyond (pos 1, pos most) z ≡ false → (1 ≤ unsigned_abs z) × (unsigned_abs z ≤ most)
from_one_to most (pos n) e =
    let parts = or_parts (int_lt (pos n) (pos 1)) (int_lt (pos most) (pos n)) e in
    (ltb-false n 1 parts.0, most_from most n parts.1)
from_one_to most (negsuc n) e = absurd (false≢true (sym e))

pub header_limits_of : (words : List (List ℕ)) (header : FleetLine) → HasNoKind (header_fault words) → IsHeader words header → HeaderKeepsLimits header
header_limits_of words header none is =
    let three = eqb-true (length words) 3 (not-false (length words == 3) (none FieldCount)) in
    let fleet = values_of header_limits words 0 (omega (arith, three)) (none BadNumber) (none Range) (omega arith) in
    let capacity = values_of header_limits words 1 (omega (arith, three)) (none BadNumber) (none Range) (omega arith) in
    record {
      fleet = rw is.0 (from_one_to 40000 (value_at words 0) fleet.1);
      capacity = rw is.1 (magnitude_le 1000000 (value_at words 1) capacity.1);
    }

-- the limits that a line with fleet and capacity only keeps
pub two_limits_of : (words : List (List ℕ)) (header : FleetLine) → HasNoKind (numbers_fault 2 header_limits words) → IsHeader words header → HeaderKeepsLimits header
two_limits_of words header none is =
    let two = eqb-true (length words) 2 (not-false (length words == 2) (none FieldCount)) in
    let fleet = values_of header_limits words 0 (omega (arith, two)) (none BadNumber) (none Range) (omega arith) in
    let capacity = values_of header_limits words 1 (omega (arith, two)) (none BadNumber) (none Range) (omega arith) in
    record {
      fleet = rw is.0 (from_one_to 40000 (value_at words 0) fleet.1);
      capacity = rw is.1 (magnitude_le 1000000 (value_at words 1) capacity.1);
    }

-- the time window of a task without a fault is not empty
window_from : (most : ℕ) (e l : ℤ) → is_beyond (pos 0, pos most) e ≡ false → is_beyond (pos 0, pos most) l ≡ false → int_lt l e ≡ false → unsigned_abs e ≤ unsigned_abs l
window_from most (pos a) (pos b) low high h = ltb-false b a h
window_from most (pos a) (negsuc b) low high h = absurd (false≢true (sym high))
window_from most (negsuc a) l low high h = absurd (false≢true (sym low))

exceeds-is : (a b : ℤ) (x y : Option ℤ) → x ≡ Some a → y ≡ Some b → exceeds x y ≡ int_lt b a
exceeds-is a b x y p q = ap (λ o. exceeds o y) p ∙ ap (λ o. exceeds (Some a) o) q

-- the limits of a task's fields, and those of a customer's
pub task_stop_limits : (scale : Scale) → AreStopLimits scale (task_limits scale)
task_stop_limits scale = record { seven = omega arith; number = refl; x = refl; y = refl; demand = refl; earliest = refl; latest = refl; service = refl }

pub customer_stop_limits : (scale : Scale) → AreStopLimits scale (customer_limits scale)
customer_stop_limits scale = record { seven = omega arith; number = refl; x = refl; y = refl; demand = refl; earliest = refl; latest = refl; service = refl }

pub task_limits_are : (scale : Scale) (limits : List (ℤ × ℤ)) → limits ≡ task_limits scale → AreStopLimits scale limits
task_limits_are scale limits is = subst (AreStopLimits scale) (sym is) (task_stop_limits scale)

pub customer_limits_are : (scale : Scale) (limits : List (ℤ × ℤ)) → limits ≡ customer_limits scale → AreStopLimits scale limits
customer_limits_are scale limits is = subst (AreStopLimits scale) (sym is) (customer_stop_limits scale)

module _ (scale : Scale) (limits : List (ℤ × ℤ)) (are : AreStopLimits scale limits) where
  -- the task of a line without a fault, after the task before it
  module _ (previous : Option Task) (row : Row) (none : HasNoKind (stop_fault limits previous (words_of row.text))) where
    counted : length (words_of row.text) ≡ length limits
    counted = eqb-true (length (words_of row.text)) (length limits) (not-false (length (words_of row.text) == length limits) (none FieldCount))

    -- the number of a field with these limits
    value : (k : ℕ) (l : ℤ × ℤ) → k < 7 → get_or limits k (pos 0, pos 0) ≡ l → IsValue l (field (words_of row.text) k) (value_at (words_of row.text) k)
    value k l small is =
        let P : ℤ × ℤ → Type 0 = λ m. IsValue m (field (words_of row.text) k) (value_at (words_of row.text) k) in
        subst P is (values_of limits (words_of row.text) k (omega (arith, counted)) (none BadNumber) (none Range) (omega (arith, are.seven)))

    pub visit_of : IsVisit (task_in scale row).stop
    unfolding task_of
    visit_of =
        let words = words_of row.text in
        let e = value 4 (time_range scale) (omega arith) are.earliest in
        let l = value 5 (time_range scale) (omega arith) are.latest in
        let window = window_from (unscaled_limit scale 100000000) (value_at words 4) (value_at words 5) e.1 l.1
        (sym (exceeds-is (value_at words 4) (value_at words 5) (field words 4) (field words 5) e.0 l.0) ∙ none EmptyWindow) in
        record {
          x = coordinate_within scale (value_at words 1) (value 1 (coordinate_range scale) (omega arith) are.x).1;
          y = coordinate_within scale (value_at words 2) (value 2 (coordinate_range scale) (omega arith) are.y).1;
          window = times_ordered scale (unsigned_abs (value_at words 4)) (unsigned_abs (value_at words 5)) window;
          latest = times_within scale 100000000 (value_at words 5) l.1;
          service = times_within scale 1000000 (value_at words 6) (value 6 (service_range scale) (omega arith) are.service).1;
        }

    number_small : (task_of row).stop.number ≤ 40000
    unfolding task_of
    number_small = magnitude_le 40000 (value_at (words_of row.text) 0) (value 0 (pos 0, pos 40000) (omega arith) are.number).1

    demand_small : (task_of row).stop.demand ≤ℤ pos 1000000
    unfolding task_of
    demand_small =
        let demand = value_at (words_of row.text) 3 in
        let l = get_or limits 3 (pos 0, pos 0) in
        let P : ℤ → Type 0 = λ most. demand ≤ℤ most in
        subst P are.demand (within_from l.0 l.1 demand (value 3 l (omega arith) refl).1).1

    pub customer_of : 0 < (task_of row).stop.number → IsCustomer (task_in scale row)
    customer_of above = record { stop = record { from_one = omega arith; to_max = number_small; visit = visit_of }; demand = demand_small }

    pub in_order : is_out_of_order previous (pos (task_of row).stop.number) ≡ false
    unfolding task_of
    in_order =
        let words = words_of row.text in
        let first = value 0 (pos 0, pos 40000) (omega arith) are.number in
        ap (is_out_of_order previous) (sym (from_zero (pos 40000) (value_at words 0) first.1))
        ∙ sym (ap (passes_test (is_out_of_order previous)) first.0) ∙ none TaskOrder

  none_head : (previous : Option Task) (row : Row) (rows : List Row) → HasNoStopFault limits previous (row ∷ rows) → HasNoKind (stop_fault limits previous (words_of row.text))
  none_head previous row rows h k = false_from_ne_true (stop_fault limits previous (words_of row.text) k) (λ e. h row.line k (inl (refl, e)))

  pub none_tail : (previous : Option Task) (row : Row) (rows : List Row) → HasNoStopFault limits previous (row ∷ rows) → HasNoStopFault limits (Some (task_of row)) rows
  none_tail previous row rows h line kind f = h line kind (inr f)

  rises : (previous : Task) (row : Row) → HasNoKind (stop_fault limits (Some previous) (words_of row.text)) → previous.stop.number < (task_of row).stop.number
  rises previous row none = ltb-true previous.stop.number (task_of row).stop.number (not-false (int_lt (pos previous.stop.number) (pos (task_of row).stop.number)) (in_order (Some previous) row none))

  ascending_tasks : (previous : Task) (rows : List Row) → HasNoStopFault limits (Some previous) rows → AscendsFrom previous.stop.number (map (task_in scale) rows)
  ascending_tasks previous [] h = tt
  ascending_tasks previous (row ∷ rows) h =
      (rises previous row (none_head (Some previous) row rows h), ascending_tasks (task_of row) rows (none_tail (Some previous) row rows h))

  valid_tasks : (previous : Task) (rows : List Row) → HasNoStopFault limits (Some previous) rows → AllByRecursion IsCustomer (map (task_in scale) rows)
  valid_tasks previous [] h = tt
  valid_tasks previous (row ∷ rows) h =
      let none = none_head (Some previous) row rows h in
      (customer_of (Some previous) row none (omega (arith, rises previous row none)), valid_tasks (task_of row) rows (none_tail (Some previous) row rows h))

zero_from : (n : ℕ) → is_beyond (pos 0, pos 0) (pos n) ≡ false → n ≡ 0
zero_from n e = omega (arith, most_from 0 n (or_parts (int_lt (pos n) (pos 0)) (int_lt (pos 0) (pos n)) e).1)

pub are_tasks : (scale : Scale) (limits : List (ℤ × ℤ)) (are : AreStopLimits scale limits) (depot : Row) (customers : List Row) → HasNoStopFault limits None (depot ∷ customers)
    → AreTasks (task_in scale depot) (map (task_in scale) customers)
are_tasks scale limits are depot customers h =
    let none = none_head scale limits are None depot customers h in
    let rest = none_tail scale limits are None depot customers h in
    let first : (task_of depot).stop.number ≡ 0 = zero_from (task_of depot).stop.number (in_order scale limits are None depot none) in
    let P : ℕ → Type 0 = λ n. AscendsFrom n (map (task_in scale) customers) in
    record {
      first = first;
      visit = visit_of scale limits are None depot none;
      valid = valid_tasks scale limits are (task_of depot) customers rest;
      ascending = subst P first (ascending_tasks scale limits are (task_of depot) customers rest);
    }

-- no customer's demand is negative
load_of : (scale : Scale) (previous : Option Task) (row : Row) → HasNoKind (stop_fault (customer_limits scale) previous (words_of row.text)) → pos 0 ≤ℤ (task_of row).stop.demand
unfolding task_of
load_of scale previous row none =
    (within_from (pos 0) (pos 1000000) (value_at (words_of row.text) 3)
    (value scale (customer_limits scale) (customer_stop_limits scale) previous row none 3 (pos 0, pos 1000000) (omega arith) refl).1).0

pub are_loads : (scale : Scale) (previous : Option Task) (rows : List Row) → HasNoStopFault (customer_limits scale) previous rows → AreLoads (map (task_in scale) rows)
are_loads scale previous [] h = tt
are_loads scale previous (row ∷ rows) h =
    let are = customer_stop_limits scale in (
      load_of scale previous row (none_head scale (customer_limits scale) are previous row rows h),
      are_loads scale (Some (task_of row)) rows (none_tail scale (customer_limits scale) are previous row rows h),
    )
