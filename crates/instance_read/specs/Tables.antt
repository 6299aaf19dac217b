-- The facts about the tasks of a text whose lines have no fault.
use Rattle.std.specs.Prelude.{◌≡◌, ℕ, ◌<◌, ◌^◌, ◌⊎◌, false, List, [], ◌∷◌, Option, Some, None, find, slice_index_or, ◌==◌, ◌≤ℤ◌, pos, FitsSigned}
use Rattle.std.specs.Int.{w32}
use Rattle.std.specs.Int.RustNames.{unsigned_abs}
use Rattle.std.specs.List.{AllByRecursion, position_from}
use Rattle.plan_types.specs.Limits.{IsCapacity, IsFleet, IsStop, IsVisit}
use Rattle.plan_types.specs.declared.limits.TheConstants.{MAX_DEMAND}
use Rattle.plan_types.specs.declared.requests.Stop.{Stop}
use Rattle.instance_read.specs.declared.faults.ReadFault.{ReadFault}
use Rattle.instance_read.specs.declared.faults.ReadFaultKind.TheVariants.{PairMismatch}
use Rattle.instance_read.specs.declared.scales.Scale.{Scale}
use Rattle.instance_read.specs.declared.tasks.FleetLine.{FleetLine}
use Rattle.instance_read.specs.declared.tasks.Task.{Task}
use Rattle.instance_read.specs.Faults.{out_of_memory}
use Rattle.instance_read.specs.Fields.{value_at}
use Rattle.instance_read.specs.Pairs.{is_mismatched}
use Rattle.instance_read.specs.Scales.{times, times_ℤ}

-- the place of the task with this number, from 0
abbrev pub place_of : ℕ → List Task → Option ℕ
place_of n tasks = position_from (λ t. t.stop.number == n) 0 tasks

-- the table has the place of each task at its number
abbrev pub IsTable : List Task → List (Option ℕ) → Type 0
IsTable tasks table = (n : ℕ) → slice_index_or table n None ≡ place_of n tasks

-- the coordinates, the time window and the service time of a stop, times the scale, fit their types
pub record IsScalable (scale : Scale) (s : Stop) : Type 0 where
  pub x : FitsSigned w32 (times_ℤ scale s.x)
  pub y : FitsSigned w32 (times_ℤ scale s.y)
  pub earliest : times scale s.earliest < 2 ^ 32
  pub latest : times scale s.latest < 2 ^ 32
  pub service : times scale s.service < 2 ^ 32

-- a customer's task within its limits
pub record IsCustomer (t : Task) : Type 0 where
  pub stop : IsStop t.stop
  pub demand : t.stop.demand ≤ℤ MAX_DEMAND

-- each task has a greater number than the one before it
abbrev pub AscendsFrom : ℕ → List Task → Type 0
AscendsFrom n [] = Unit {0}
AscendsFrom n (t ∷ ts) = (n < t.stop.number) × AscendsFrom t.stop.number ts

pub record AreTasks (depot : Task) (customers : List Task) : Type 0 where
  pub first : depot.stop.number ≡ 0
  pub visit : IsVisit depot.stop
  pub valid : AllByRecursion IsCustomer customers
  pub ascending : AscendsFrom 0 customers

-- the header has the first two of these numbers
abbrev pub IsHeader : List (List ℕ) → FleetLine → Type 0
IsHeader words header = (header.fleet ≡ unsigned_abs (value_at words 0)) × (header.capacity ≡ unsigned_abs (value_at words 1))

pub record HeaderKeepsLimits (header : FleetLine) : Type 0 where
  pub fleet : IsFleet header.fleet
  pub capacity : IsCapacity header.capacity

-- no demand is negative
abbrev pub AreLoads : List Task → Type 0
AreLoads customers = AllByRecursion (λ t. pos 0 ≤ℤ t.stop.demand) customers

-- no task is mismatched
abbrev pub ArePaired : List Task → Type 0
ArePaired customers = AllByRecursion (λ t. is_mismatched customers t ≡ false) customers

-- out of memory, or the first task that is not half of a pair
abbrev pub ReportsMismatch : List Task → ReadFault → Type 0
ReportsMismatch customers f =
    (f ≡ out_of_memory)
    ⊎ ((t : Task) × (find (is_mismatched customers) customers ≡ Some t) × (f ≡ record { line = t.line; kind = PairMismatch }))
