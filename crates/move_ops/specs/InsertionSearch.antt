-- The best insertion so far, during the search over the vehicles.
use Rattle.std.specs.Prelude.{◌≡◌, ◌⊎◌, ℕ, ◌≤◌, ◌<◌, ℤ, pos, ◌+ℤ◌, ◌-ℤ◌, ◌≤ℤ◌, ◌<ℤ◌, nat_lt, ◌==◌, Bool}
use Rattle.std.specs.Prelude.{true, false, not, ◌&&◌, List, length, slice_get, Option, Some, None, nat_eq, IfSome, MatchOption, if◌then◌else◌}
use Rattle.std.specs.List.{Contains}
use Rattle.std.specs.Map.{lookup}
use Rattle.std.specs.Option.{option_map, option_or}
use Rattle.plan_types.specs.Instance.{Instance, IsInstance}
use Rattle.plan_types.specs.Cost.{CostBelowIsCorrect, CostAtMostIsCorrect, CostsAreTotal, CostsAreTransitive, BelowThenAtMost, AtMostThenBelow, BelowIsAtMost}
use Rattle.plan_types.specs.Laws.{NamedRequestsAreFound, RequestsAreStoredByName}
use Rattle.plan_types.specs.Request.{request_name, IsRequest}
use Rattle.plan_types.specs.declared.requests.Request.{Request}
use Rattle.plan_types.specs.declared.requests.Kind.{Kind}
use Rattle.plan_types.specs.declared.requests.Kind.TheVariants.{LiLim, Vrp}
use Rattle.route_sched.specs.Cost.{is_planned}
use Rattle.route_sched.specs.Schedule.{route_length}
use Rattle.plan_audit.specs.Locality.{PassingIsLocal, FeasibleAloneDecidesFeasibility}
use Rattle.plan_audit.specs.Passes.{passes}
use Rattle.slack_tables.specs.Best.{IsBestAddition}
use Rattle.slack_tables.specs.Course.{Course, IsCourseIn}
use Rattle.slack_tables.specs.Insertion.{inserted, IsAdded}
use Rattle.slack_tables.specs.RequestFloors.{AreDistances}
use Rattle.slack_tables.specs.declared.request.RequestDistances.{RequestDistances}
use Rattle.slack_tables.specs.declared.scan.PricedInsertion.{PricedInsertion}
use Rattle.move_ops.specs.Insertion.{Insertion, request_named, route_of, insertions_of, is_no_worse, best_insertion}
use Rattle.move_ops.specs.Laws.{BestInsertionsAreLeast, BestInsertionsAreUnique}
use Rattle.move_ops.specs.FreshTables.{AreWithin}
use Rattle.move_ops.specs.MaxDemands.{AreMaxDemands}
use Rattle.move_ops.specs.Tables.{plan_of, AreTablesIn}
use Rattle.move_ops.specs.declared.tables.Candidate.{Candidate}
use Rattle.move_ops.specs.declared.tables.Limit.{Limit}

-- a request inserted into this route opens a vehicle, in problems where vehicles count
abbrev pub opens : Kind → List ℕ → Bool
opens LiLim route = length route == 0
opens Vrp route = false

abbrev pub candidate_place : Candidate → Insertion
candidate_place f = (f.vehicle, f.addition.pickup, f.addition.delivery)

abbrev pub found_at : ℕ → Bool → PricedInsertion → Candidate
found_at v o a = record { vehicle = v; opens = o; addition = a }

-- the distance that inserting the request at this place adds
abbrev pub added_distance : Instance → List (List ℕ) → Request → Insertion → ℤ
added_distance p routes r x = pos (route_length p (inserted r x.1 x.2 (route_of routes x.0))) -ℤ pos (route_length p (route_of routes x.0))

-- an insertion that adds the distance d, and opens a vehicle exactly if o is true, costs less than the limit
abbrev pub IsWithin : Limit → Bool → ℤ → Type 0
IsWithin l o d = ((o ≡ false) × (l.opens ≡ true)) ⊎ ((o ≡ l.opens) × (d <ℤ l.below))

abbrev pub IsAllowed : Instance → List (List ℕ) → Request → Limit → Insertion → Type 0
IsAllowed p routes r l x = IsWithin l (opens p.kind (route_of routes x.0)) (added_distance p routes r x)

-- the best insertion if it is allowed, or `None` if no insertion is
abbrev pub IsBestWithin : Instance → List (List ℕ) → List (List ℕ) → Request → Limit → Option Insertion → Type 0
IsBestWithin p pins routes r l answer = MatchOption answer ((y : Insertion) → Contains (insertions_of p pins routes r) y → IsAllowed p routes r l y → ⊥)
    (λ x. (best_insertion p pins routes (request_name r) ≡ Some x) × IsAllowed p routes r l x)

-- the laws that compare insertions
pub record InsertionLaws : Type 0 where
  pub found : NamedRequestsAreFound
  pub stored : RequestsAreStoredByName
  pub local : PassingIsLocal
  pub says : FeasibleAloneDecidesFeasibility
  pub below_is_correct : CostBelowIsCorrect
  pub at_most_is_correct : CostAtMostIsCorrect
  pub total : CostsAreTotal
  pub transitive : CostsAreTransitive
  pub below_then_at_most : BelowThenAtMost
  pub at_most_then_below : AtMostThenBelow
  pub below_is_at_most : BelowIsAtMost
  pub least : BestInsertionsAreLeast
  pub unique : BestInsertionsAreUnique

-- the tables are those of a plan that passes, and the request is current and unplanned
pub record IsQuery (p : Instance) (pins : List (List ℕ)) (courses : List Course) (r : Request) : Type 0 where
  pub valid : IsInstance p
  pub tables : AreTablesIn p courses
  pub good : passes p pins (plan_of courses) ≡ true
  pub named : lookup (nat_eq (request_name r)) p.requests ≡ Some r
  pub free : is_planned (plan_of courses) r ≡ false

-- one of the first k vehicles has no stops
abbrev pub HasIdle : List (List ℕ) → ℕ → Type 0
HasIdle routes k = (u : ℕ) × (1 ≤ u) × (u ≤ k) × (u ≤ length routes) × (length (route_of routes u) ≡ 0)

-- no vehicle after the first `end` has stops; and if there are such vehicles, one of the first `end` has none
-- either
abbrev pub IsScanLen : List (List ℕ) → ℕ → Type 0
IsScanLen routes end = (v : ℕ) → end < v → v ≤ length routes → HasIdle routes end × (length (route_of routes v) ≡ 0)

-- the requirements of `IsQuery`, and those on the last vehicle to look at, the entries to look at first, and
-- the greatest demands
pub record IsQueryOver (p : Instance) (pins : List (List ℕ)) (courses : List Course) (most : List ℤ) (last : ℕ)
    (entries : List (ℕ × Course)) (r : Request) : Type 0 where
  pub query : IsQuery p pins courses r
  pub within : last ≤ length courses
  pub max_demands : AreMaxDemands courses most
  pub reach : IsScanLen (plan_of courses) last
  pub first : AreWithin (length courses) entries

-- the table is one of the problem, the request is current and has these distances, and the vehicle's pin is no
-- longer than the route
pub record IsScannable (p : Instance) (pins : List (List ℕ)) (r : Request) (w : RequestDistances) (v : ℕ) (c : Course) : Type 0 where
  pub problem : IsInstance p
  pub course : IsCourseIn p c
  pub request : request_named p (request_name r) ≡ Some r
  pub valid : IsRequest r
  pub ways : AreDistances p.depot r w
  pub pin : length (route_of pins v) ≤ length c.stops

-- the insertion found is an allowed one at one of these vehicles, and no worse than any other allowed insertion
-- at them
pub record IsBestAmong (p : Instance) (pins routes : List (List ℕ)) (r : Request) (l : Limit) (These : ℕ → Type 0) (f : Candidate) : Type 0 where
  pub among : Contains (insertions_of p pins routes r) (candidate_place f)
  pub seen : These f.vehicle
  pub allowed : IsWithin l f.opens f.addition.distance
  pub opens : opens p.kind (route_of routes f.vehicle) ≡ f.opens
  pub added : IsAdded p (route_of routes f.vehicle) (inserted r f.addition.pickup f.addition.delivery (route_of routes f.vehicle))
      (Some f.addition.distance)
  pub least : (y : Insertion) → Contains (insertions_of p pins routes r) y → These y.0 → IsAllowed p routes r l y
      → is_no_worse p routes r (candidate_place f) y ≡ true

-- the best insertion found among these vehicles, or `None` if they have no allowed one
abbrev pub IsBestAmongThese : Instance → List (List ℕ) → List (List ℕ) → Request → Limit → (ℕ → Type 0) → Option Candidate → Type 0
IsBestAmongThese p pins routes r l These answer =
    MatchOption answer ((y : Insertion) → Contains (insertions_of p pins routes r) y → These y.0 → IsAllowed p routes r l y → ⊥)
    (IsBestAmong p pins routes r l These)

-- an entry of the list has this vehicle
abbrev pub IsEntryOf : List (ℕ × Course) → ℕ → Type 0
IsEntryOf entries v = (k : ℕ) × (e : ℕ × Course) × (slice_get entries k ≡ Some e) × (e.0 ≡ v)

-- a vehicle with stops that is in one of the first n entries
pub record IsEntryWithStops (routes : List (List ℕ)) (entries : List (ℕ × Course)) (n v : ℕ) : Type 0 where
  pub place : ℕ
  pub entry : ℕ × Course
  pub below : place < n
  pub at : slice_get entries place ≡ Some entry
  pub same : entry.0 ≡ v
  pub some : 1 ≤ length (route_of routes v)

-- one of the first k vehicles, or a vehicle with stops that is in an entry
abbrev pub IsEntryOrUpTo : List (List ℕ) → List (ℕ × Course) → ℕ → ℕ → Type 0
IsEntryOrUpTo routes entries k v = ((1 ≤ v) × (v ≤ k)) ⊎ IsEntryWithStops routes entries (length entries) v

-- the bound below which the added distance of an insertion at vehicle v has to be, for the insertion to be
-- better than f, if both open equally many vehicles: if both add the same distance, the one at the lower
-- vehicle is better
abbrev pub bound_against : ℕ → Candidate → ℤ
bound_against v f = if nat_lt v f.vehicle then f.addition.distance +ℤ pos 1 else f.addition.distance

-- the bound below which the added distance of an insertion has to be, for the insertion to be better than a
-- rival that adds d (each may open a vehicle), or `None` if it can't be better
abbrev pub bound_over : Bool → ℤ → Bool → Option ℤ
bound_over rival d o = if rival && not o then Some (pos 9223372036854775807) else if o && not rival then None else Some d

-- the bound below which the added distance of an insertion at vehicle v has to be, for the insertion to be
-- better than the best so far, or than the limit
abbrev pub bound_of : ℕ → Bool → Limit → Option Candidate → Option ℤ
bound_of v o l None = bound_over l.opens l.below o
bound_of v o l (Some f) = bound_over f.opens (bound_against v f) o

-- no used vehicle from v on has a greater bound
abbrev pub IsLooseBound : ℕ → Limit → Option Candidate → ℤ → Type 0
IsLooseBound v l best below = (u : ℕ) → v ≤ u → (b : ℤ) → bound_of u false l best ≡ Some b → b ≤ℤ below

-- the insertion found adds less than the greatest number
abbrev pub IsBelowMaximum : Option Candidate → Type 0
IsBelowMaximum best = IfSome best (λ f. f.addition.distance <ℤ pos 9223372036854775807)

-- `result` is the insertion at the best places of vehicle v below this bound, or `best` if there are none
abbrev pub IsBetterBelow : Instance → List ℕ → Request → ℕ → ℕ → Bool → Option Candidate → Option Candidate → Option ℤ → Type 0
IsBetterBelow p route r kept v o best result None = result ≡ best
IsBetterBelow p route r kept v o best result (Some below) =
    (answer : Option PricedInsertion) × IsBestAddition p route r kept below answer × (result ≡ option_or (option_map (found_at v o) answer) best)

-- `result` is the best so far after vehicle v was searched, too
abbrev pub IsBetter : Instance → List ℕ → Request → ℕ → ℕ → Limit → Option Candidate → Option Candidate → Type 0
IsBetter p route r kept v l best result = IsBetterBelow p route r kept v (opens p.kind route) best result (bound_of v (opens p.kind route) l best)

-- the vehicle was searched, or it has stops and is in an entry, so it was searched before
abbrev pub IsScanned : Instance → List ℕ → Request → ℕ → List (ℕ × Course) → ℕ → Limit → Option Candidate → Option Candidate → Type 0
IsScanned p route r kept entries v l best result = IsBetter p route r kept v l best result ⊎ ((1 ≤ length route) × IsEntryOf entries v × (result ≡ best))
