-- The tasks of a Li-Lim text, and the pairs that they form.
use Rattle.std.specs.Prelude.{ℕ, Bool, true, not, ◌||◌, ◌==◌, if◌then◌else◌, List, [], ◌∷◌, Option, None, find, ℤ, pos, ◌+ℤ◌, int_lt}
use Rattle.std.specs.Int.RustNames.{unsigned_abs}
use Rattle.std.specs.List.{filter_map}
use Rattle.std.specs.Option.{option_map, option_map_or}
use Rattle.std.specs.Ordering.{int_eq}
use Rattle.text_lines.specs.Words.{words_of}
use Rattle.plan_types.specs.declared.requests.Request.{Request}
use Rattle.plan_types.specs.declared.requests.Request.TheVariants.{Pair}
use Rattle.instance_read.specs.declared.scales.Scale.{Scale}
use Rattle.instance_read.specs.declared.tasks.Task.{Task}
use Rattle.instance_read.specs.Fields.{value_at}
use Rattle.instance_read.specs.Rows.{Row}
use Rattle.instance_read.specs.Scales.{scaled_stop}

-- the task with this line number and these fields: its number, coordinates, demand, time window and service,
-- and the numbers of its pickup and of its delivery
abbrev pub task_from : ℕ → (ℕ → ℤ) → Task
task_from line value = record {
  line = line;
  stop = record {
    number = unsigned_abs (value 0);
    x = value 1;
    y = value 2;
    demand = value 3;
    earliest = unsigned_abs (value 4);
    latest = unsigned_abs (value 5);
    service = unsigned_abs (value 6);
  };
  pickup = unsigned_abs (value 7);
  delivery = unsigned_abs (value 8);
}

-- the task of a line, in the unit of the text
unfoldable pub task_of : Row → Task
task_of row = task_from row.line (value_at (words_of row.text))

-- the task with its stop times the scale
abbrev pub scaled_task : Scale → Task → Task
scaled_task scale t = record t { stop = scaled_stop scale t.stop }

-- the task of a line in a text with this scale
abbrev pub task_in : Scale → Row → Task
task_in scale row = scaled_task scale (task_of row)

-- the task with this number
abbrev pub find_task : ℕ → List Task → Option Task
find_task n tasks = find (λ t. t.stop.number == n) tasks

-- the demands of the two tasks do not cancel out
abbrev pub is_uneven : Task → Task → Bool
is_uneven a b = not (int_eq (a.stop.demand +ℤ b.stop.demand) (pos 0))

-- d is not a delivery for the pickup p: it does not name p as its pickup, the sum of their demands is not 0, or
-- the demand of p is negative
abbrev pub is_wrong_delivery : Task → Task → Bool
is_wrong_delivery p d = not (d.pickup == p.stop.number) || is_uneven p d || int_lt p.stop.demand (pos 0)

-- p is not a pickup for the delivery d: it does not name d as its delivery, or the sum of their demands is not
-- 0
abbrev pub is_wrong_pickup : Task → Task → Bool
is_wrong_pickup d p = not (p.delivery == d.stop.number) || is_uneven d p

-- the task is not half of a pair: it names neither a pickup nor a delivery, or both, or one that does not exist
-- or does not match
abbrev pub is_mismatched : List Task → Task → Bool
is_mismatched tasks t =
    if t.pickup == 0
    then (if t.delivery == 0 then true else option_map_or (is_wrong_delivery t) (find_task t.delivery tasks) true)
    else (if t.delivery == 0 then option_map_or (is_wrong_pickup t) (find_task t.pickup tasks) true else true)

-- the request of a pickup and the delivery that it names, under the pickup's number
abbrev pub pair_of : List Task → Task → Option (ℕ × Request)
pair_of tasks t = if t.pickup == 0 then option_map (λ d. (t.stop.number, Pair t.stop d.stop)) (find_task t.delivery tasks) else None

-- the requests of the tasks, in the order of their pickups
abbrev pub pairs_of : List Task → List (ℕ × Request)
pairs_of tasks = filter_map (pair_of tasks) tasks

-- the number of the last task
abbrev pub last_number : Task → List Task → ℕ
last_number t [] = t.stop.number
last_number t (u ∷ more) = last_number u more
