-- The words of a line with a stop, and the task that they make.
use Rattle.std.proofs.Common.{◌≡◌, ℕ, ◌<◌, ◌≤◌, ◌^◌, true, false, List, length, get_or, Option, Some, refl, sym, ap, subst, ⊎_elim, ◌∙◌, arith, ℤ, pos, negsuc}
use Rattle.std.specs.Prelude.{int_lt, not, ◌==◌, option_and_then, unwrap_or}
use Rattle.std.specs.Int.RustNames.{unsigned_abs}
use Rattle.std.proofs.lemmas.Bool.{cases_lt, eq-eqb, or_parts, lt-ltb, le-ltb, not_from_true, false≢true}
use Rattle.std.proofs.lemmas.List.{get_or_past}
use Rattle.std.proofs.lemmas.Option.{slice_get_past}
use Rattle.text_lines.specs.Numbers.{number_of}
use Rattle.instance_read.specs.declared.scales.Scale.{Scale}
use Rattle.instance_read.specs.declared.tasks.Task.{Task}
use Rattle.instance_read.specs.Fields.{field, value_at, passes_test, is_beyond, any_beyond, has_no_number, exceeds}
use Rattle.instance_read.specs.FieldValues.{HasNumbers, IsValue}
use Rattle.instance_read.specs.Lilim.{is_out_of_order, stop_fault}
use Rattle.instance_read.specs.Pairs.{task_from}
use Rattle.instance_read.specs.Scales.{coordinate_range, service_range, time_range, unscaled_limit}
use Rattle.instance_read.specs.Tables.{IsScalable}
use Rattle.instance_read.specs.TaskFaults.{AreStopLimits, HasNoKind, IsFirstKind}
use Rattle.instance_read.specs.declared.faults.ReadFaultKind.TheVariants.{BadNumber, Range, FieldCount, TaskOrder, EmptyWindow, TooManyStops}
use Rattle.instance_read.proofs.KindLemmas.{none_below}
use Rattle.instance_read.proofs.NumberLemmas.{any_beyond-false, numbers_of}
use Rattle.instance_read.proofs.ScaleLemmas.{coordinate_fits, coordinate_within, times_within}

-- a number of 0 or more equals its absolute value
pub from_zero : (most z : ℤ) → is_beyond (pos 0, most) z ≡ false → z ≡ pos (unsigned_abs z)
from_zero most (pos n) e = refl
from_zero most (negsuc n) e = absurd (false≢true (sym e))

-- the task of nine numbers
unfoldable task_by : ℕ → ℤ → ℤ → ℤ → ℤ → ℤ → ℤ → ℤ → ℤ → ℤ → Task
task_by line number x y demand earliest latest service pickup delivery = record {
  line = line;
  stop = record {
    number = unsigned_abs number;
    x = x;
    y = y;
    demand = demand;
    earliest = unsigned_abs earliest;
    latest = unsigned_abs latest;
    service = unsigned_abs service;
  };
  pickup = unsigned_abs pickup;
  delivery = unsigned_abs delivery;
}

same_task : (line : ℕ) (words : List (List ℕ)) (v : ℕ → ℤ) → ((k : ℕ) → k < 9 → value_at words k ≡ v k)
    → task_by line (v 0) (v 1) (v 2) (v 3) (v 4) (v 5) (v 6) (v 7) (v 8) ≡ task_by line (value_at words 0) (value_at words 1) (value_at words 2) (value_at words 3)
    (value_at words 4) (value_at words 5) (value_at words 6) (value_at words 7) (value_at words 8)
same_task line words v h =
    let e0 = h 0 (omega arith) in let e1 = h 1 (omega arith) in let e2 = h 2 (omega arith) in
    let e3 = h 3 (omega arith) in let e4 = h 4 (omega arith) in let e5 = h 5 (omega arith) in
    let e6 = h 6 (omega arith) in let e7 = h 7 (omega arith) in let e8 = h 8 (omega arith) in
    cc

pub counted_by : (limits : List (ℤ × ℤ)) (words : List (List ℕ)) (count : ℕ) → length limits ≡ count → not (length words == length limits) ≡ not (length words == count)
counted_by limits words count sized = ap (λ n. not (length words == n)) sized

-- facts about a line whose numbers keep the limits of a stop
module _ (count : ℕ) (scale : Scale) (limits : List (ℤ × ℤ)) (are : AreStopLimits scale limits) (sized : length limits ≡ count) (words : List (List ℕ)) (values : List ℤ)
    (h : HasNumbers count limits words values) where
  counted : not (length words == length limits) ≡ false
  counted = not_from_true (length words == length limits) (eq-eqb (length words) (length limits) (h.0 ∙ sym sized))

  numbers : has_no_number words ≡ false
  numbers = numbers_of words (λ k. get_or values k (pos 0)) (λ k l. (h.1 k (omega (arith, h.0))).0)

  in_limits : any_beyond limits words ≡ false
  in_limits = any_beyond-false limits words (λ k. get_or values k (pos 0)) (λ k l. h.1 k (omega (arith, sized)))

  -- the number of a field with these limits
  has_value : (k : ℕ) (l : ℤ × ℤ) → k < 7 → get_or limits k (pos 0, pos 0) ≡ l → IsValue l (field words k) (get_or values k (pos 0))
  has_value k l small is =
      let P : ℤ × ℤ → Type 0 = λ m. IsValue m (field words k) (get_or values k (pos 0)) in
      subst P is (h.1 k (omega (arith, sized, are.seven)))

  few_stops : passes_test (λ z. int_lt (pos 40000) z) (field words 0) ≡ false
  few_stops =
      let first = has_value 0 (pos 0, pos 40000) (omega arith) are.number in
      ap (passes_test (λ z. int_lt (pos 40000) z)) first.0 ∙ (or_parts (int_lt (get_or values 0 (pos 0)) (pos 0)) (int_lt (pos 40000) (get_or values 0 (pos 0))) first.1).1

  -- the numbers after the last word are 0
  same_value : length values ≡ count → (k : ℕ) → value_at words k ≡ get_or values k (pos 0)
  same_value long k =
      ⊎_elim
      (λ l. ap (λ o. unwrap_or o (pos 0)) (h.1 k l).0)
      (λ past. ap (λ o. unwrap_or (option_and_then number_of o) (pos 0)) (slice_get_past words k (omega (arith, h.0, past)))
      ∙ sym (get_or_past values k (pos 0) (omega (arith, long, past))))
      (cases_lt k count)

  -- the task of this line, after the previous task
  module _ (previous : Option Task) (line : ℕ) (task : Task) (made : task ≡ task_from line (λ k. get_or values k (pos 0))) where
    pub task_is : length values ≡ count → task ≡ task_from line (value_at words)
    unfolding task_by
    task_is long = made ∙ same_task line words (λ k. get_or values k (pos 0)) (λ k l. same_value long k)

    order_is : passes_test (is_out_of_order previous) (field words 0) ≡ is_out_of_order previous (pos task.stop.number)
    order_is =
        let first = has_value 0 (pos 0, pos 40000) (omega arith) are.number in
        ap (passes_test (is_out_of_order previous)) first.0 ∙ ap (is_out_of_order previous) (from_zero (pos 40000) (get_or values 0 (pos 0)) first.1)
        ∙ sym (ap (λ t. is_out_of_order previous (pos t.stop.number)) made)

    window_is : exceeds (field words 4) (field words 5) ≡ int_lt (pos task.stop.latest) (pos task.stop.earliest)
    window_is =
        let most = pos (unscaled_limit scale 100000000) in
        let earliest = has_value 4 (time_range scale) (omega arith) are.earliest in
        let latest = has_value 5 (time_range scale) (omega arith) are.latest in
        ap (λ o. exceeds o (field words 5)) earliest.0 ∙ ap (λ o. exceeds (Some (get_or values 4 (pos 0))) o) latest.0
        ∙ ap (λ z. int_lt z (get_or values 4 (pos 0))) (from_zero most (get_or values 5 (pos 0)) latest.1)
        ∙ ap (λ z. int_lt (pos (unsigned_abs (get_or values 5 (pos 0)))) z) (from_zero most (get_or values 4 (pos 0)) earliest.1)
        ∙ sym (ap (λ t. int_lt (pos t.stop.latest) (pos t.stop.earliest)) made)

    -- the products with the scale fit their types
    pub scalable : IsScalable scale task.stop
    scalable =
        let P : Task → Type 0 = λ t. IsScalable scale t.stop in
        let v = λ (k : ℕ). get_or values k (pos 0) in
        subst P (sym made) (record {
          x = coordinate_fits _ (coordinate_within scale (v 1) (has_value 1 (coordinate_range scale) (omega arith) are.x).1);
          y = coordinate_fits _ (coordinate_within scale (v 2) (has_value 2 (coordinate_range scale) (omega arith) are.y).1);
          earliest = omega (arith, times_within scale 100000000 (v 4) (has_value 4 (time_range scale) (omega arith) are.earliest).1);
          latest = omega (arith, times_within scale 100000000 (v 5) (has_value 5 (time_range scale) (omega arith) are.latest).1);
          service = omega (arith, times_within scale 1000000 (v 6) (has_value 6 (service_range scale) (omega arith) are.service).1);
        })

    pub order_first : is_out_of_order previous (pos task.stop.number) ≡ true → IsFirstKind (stop_fault limits previous words) TaskOrder
    order_first e =
        (order_is ∙ e, none_below (stop_fault limits previous words) 5 (omega arith) (λ _. counted) (λ _. numbers) (λ _. few_stops) (λ _. in_limits) (λ h. absurd (omega arith)) (λ h. absurd (omega arith)))

    pub window_first : is_out_of_order previous (pos task.stop.number) ≡ false → task.stop.latest < task.stop.earliest → IsFirstKind (stop_fault limits previous words) EmptyWindow
    window_first e l = (
      window_is ∙ lt-ltb _ _ l,
      none_below (stop_fault limits previous words) 6 (omega arith) (λ _. counted) (λ _. numbers) (λ _. few_stops) (λ _. in_limits)
          (λ _. order_is ∙ e) (λ h. absurd (omega arith)),
    )

    pub no_fault : is_out_of_order previous (pos task.stop.number) ≡ false → task.stop.earliest ≤ task.stop.latest → HasNoKind (stop_fault limits previous words)
    no_fault e l FieldCount = counted
    no_fault e l BadNumber = numbers
    no_fault e l TooManyStops = few_stops
    no_fault e l Range = in_limits
    no_fault e l TaskOrder = order_is ∙ e
    no_fault e l EmptyWindow = window_is ∙ le-ltb _ _ l
    no_fault e l _ = refl
