-- Reading the parts of a state: each definition is the inverse of one in `Bytes`. Each field is checked by its
-- own rule.
use Rattle.std.specs.Prelude.{
  ℕ,
  zero,
  suc,
  ◌+◌,
  ℤ,
  pos,
  length,
  Bool,
  not,
  ◌&&◌,
  ◌==◌,
  nat_lt,
  nat_le,
  List,
  [],
  ◌∷◌,
  ◌++◌,
  take,
  Option,
  Some,
  None,
  Result,
  Ok,
  Err,
  is_some,
  if◌then◌else◌,
  neg_ℤ,
}
use Rattle.std.specs.Borrow.{Bor}
use Rattle.std.specs.List.{list_all}
use Rattle.plan_types.specs.Instance.{Instance, first_some}
use Rattle.plan_types.specs.Request.{request_name, stop_in}
use Rattle.plan_types.specs.declared.requests.Stop.{Stop}
use Rattle.plan_types.specs.declared.requests.Request.{Request}
use Rattle.plan_types.specs.declared.requests.Request.TheVariants.{Single, Pair}
use Rattle.plan_types.specs.declared.requests.Kind.{Kind}
use Rattle.plan_types.specs.declared.requests.Kind.TheVariants.{LiLim, Vrp}
use Rattle.plan_types.specs.declared.limits.TheConstants.{MAX_CAPACITY, MAX_DEVIATION, MAX_STEPS}
use Rattle.command_types.specs.Job.{JobValue}
use Rattle.state_codec.specs.declared.version.Version.{Version}
use Rattle.state_codec.specs.declared.version.Version.TheVariants.{One, Two}
use Rattle.state_codec.specs.declared.fault.CodecFault.{CodecFault}
use Rattle.state_codec.specs.declared.head.Head.{Head}
use Rattle.state_codec.specs.declared.fault.CodecFault.TheVariants.{BadField}
use Rattle.state_codec.specs.Bytes.{width}
use Rattle.state_codec.specs.Limits.{most}
use Rattle.state_codec.specs.Fields.{◌>>=◌, Field, Gives, only, byte_at, number_at, signed_at, point_at, window_at, is_demand, is_service, int_eq}

-- No request so far has a stop with this number
abbrev pub is_free : List (ℕ × Request) → ℕ → Bool
is_free before n = not (is_some (first_some (stop_in n) before))

-- A valid name of a request: below `next_number`, above each name so far, and not yet the number of a stop
abbrev pub is_name : ℕ → List (ℕ × Request) → ℕ → Bool
is_name next before n = nat_le 1 n && (nat_lt n next && (list_all (λ e. nat_lt e.0 n) before && is_free before n))

-- A valid number for the delivery of a pair
abbrev pub is_delivery : ℕ → List (ℕ × Request) → ℕ → ℕ → Bool
is_delivery next before pickup n = nat_le 1 n && (nat_lt n next && (not (n == pickup) && is_free before n))

-- A valid demand. For a delivery it must be the given one; otherwise any demand of a pickup or a single is
-- valid
abbrev pub is_expected_demand : Option ℤ → ℤ → Bool
is_expected_demand None q = is_demand q
is_expected_demand (Some wanted) q = int_eq q wanted

-- The fields after the number of a stop
unfoldable pub visit_at : ℕ → Option ℤ → List ℕ → Field Stop
visit_at number wanted bytes = do
  point ← point_at bytes
  demand ← only (is_expected_demand wanted) (signed_at point.1)
  window ← window_at demand.1
  service ← only is_service (number_at 4 window.1)
  Ok (record { number = number; x = point.0.0; y = point.0.1; demand = demand.0; earliest = window.0.0; latest = window.0.1; service = service.0 }, service.1)

-- The stop that names a request
unfoldable pub first_at : Version → ℕ → List (ℕ × Request) → List ℕ → Field Stop
first_at v next before bytes = do
  number ← only (is_name next before) (number_at (width v) bytes)
  visit_at number.0 None number.1

-- The delivery that belongs to this pickup
unfoldable pub delivery_at : Version → ℕ → List (ℕ × Request) → Stop → List ℕ → Field Stop
delivery_at v next before pickup bytes = do
  number ← only (is_delivery next before pickup.number) (number_at (width v) bytes)
  visit_at number.0 (Some (neg_ℤ pickup.demand)) number.1

unfoldable pub single_at : Version → ℕ → List (ℕ × Request) → List ℕ → Field Request
single_at v next before bytes = do
  stop ← first_at v next before bytes
  Ok (Single stop.0, stop.1)

unfoldable pub pair_at : Version → ℕ → List (ℕ × Request) → List ℕ → Field Request
pair_at v next before bytes = do
  pickup ← first_at v next before bytes
  delivery ← delivery_at v next before pickup.0 pickup.1
  Ok (Pair pickup.0 delivery.0, delivery.1)

-- The form, and one stop or two
unfoldable pub request_at : Version → ℕ → List (ℕ × Request) → List ℕ → Field Request
request_at v next before bytes = do
  form ← byte_at bytes
  if form.0 == 1 then single_at v next before form.1 else if form.0 == 2 then pair_at v next before form.1 else Err BadField

-- Reading n items, each added to those read before
unfoldable pub times : {A : Type 0} → (A → List ℕ → Field A) → ℕ → A → List ℕ → Field A
times more zero before bytes = Ok (before, bytes)
times more (suc count) before bytes = do
  one ← more before bytes
  times more count one.0 one.1

-- The result of a function is what `more` reads, unless memory ran out
abbrev pub ReadsMore : {A : Type 0} → (A → Bor (List ℕ) → Result (A × Bor (List ℕ)) CodecFault → Type 0) → (A → List ℕ → Field A) → Type 0
ReadsMore {A} answers more = (before : A) (bytes : Bor (List ℕ)) (read : Result (A × Bor (List ℕ)) CodecFault) → answers before bytes read → Gives (λ x. (x.0, x.1.now)) read (more before bytes.now)

-- Reading one more request
abbrev pub next_request : Version → ℕ → List (ℕ × Request) → List ℕ → Field (List (ℕ × Request))
next_request v next before bytes = do
  request ← request_at v next before bytes
  Ok (before ++ (request_name request.0, request.0) ∷ [], request.1)

-- Reading one more stop number
abbrev pub next_stop : Version → List ℕ → List ℕ → Field (List ℕ)
next_stop v before bytes = do
  stop ← number_at (width v) bytes
  Ok (before ++ stop.0 ∷ [], stop.1)

-- The pin and the route of a vehicle: the length of the pin, the length of the route, and the stops of the
-- route, with which the pin begins
unfoldable pub vehicle_at : Version → List ℕ → Field (List ℕ × List ℕ)
vehicle_at v bytes = do
  pin ← number_at (width v) bytes
  len ← only (nat_le pin.0) (number_at (width v) pin.1)
  route ← times (next_stop v) len.0 [] len.1
  Ok ((take pin.0 route.0, route.0), route.1)

-- Reading one more vehicle: its pin and its route
abbrev pub next_vehicle : Version → List (List ℕ) × List (List ℕ) → List ℕ → Field (List (List ℕ) × List (List ℕ))
next_vehicle v before bytes = do
  vehicle ← vehicle_at v bytes
  Ok ((before.0 ++ vehicle.0.0 ∷ [], before.1 ++ vehicle.0.1 ∷ []), vehicle.1)

-- A route without a pin
unfoldable pub route_at : Version → List ℕ → Field (List ℕ)
route_at v bytes = do
  len ← number_at (width v) bytes
  times (next_stop v) len.0 [] len.1

-- Reading one more route
abbrev pub next_route : Version → List (List ℕ) → List ℕ → Field (List (List ℕ))
next_route v before bytes = do
  route ← route_at v bytes
  Ok (before ++ route.0 ∷ [], route.1)

-- The working routes. Version 1 has none; the routes of the plan take their place.
abbrev pub work_at : Version → ℕ → List (List ℕ) → List ℕ → Field (List (List ℕ))
work_at One fleet plan bytes = Ok (plan, bytes)
work_at Two fleet plan bytes = times (next_route Two) fleet [] bytes

-- ---- the part before the requests

abbrev pub kind_at : List ℕ → Field Kind
kind_at bytes = byte_at bytes >>= λ b. if b.0 == 1 then Ok (LiLim, b.1) else if b.0 == 2 then Ok (Vrp, b.1) else Err BadField

abbrev pub is_steps : ℕ → Bool
is_steps n = nat_le n MAX_STEPS

abbrev pub is_capacity : ℕ → Bool
is_capacity n = nat_le n MAX_CAPACITY

abbrev pub is_fleet : Version → ℕ → Bool
is_fleet v n = nat_le 1 n && nat_le n (most v)

abbrev pub is_next : Version → ℕ → Bool
is_next v n = nat_le 1 n && nat_le n (most v + 1)

abbrev pub is_deviation : ℕ → Bool
is_deviation d = nat_le d MAX_DEVIATION

unfoldable pub depot_at : List ℕ → Field Stop
depot_at bytes = do
  point ← point_at bytes
  window ← window_at point.1
  Ok (record { number = 0; x = point.0.0; y = point.0.1; demand = pos 0; earliest = window.0.0; latest = window.0.1; service = 0 }, window.1)

-- The deviation. Version 1 has none, so it is 0
abbrev pub job_deviation_at : Version → List ℕ → Field ℕ
job_deviation_at One bytes = Ok (0, bytes)
job_deviation_at Two bytes = only is_deviation (number_at 4 bytes)

unfoldable pub head_at : Version → List ℕ → Field Head
head_at v bytes = do
  kind ← kind_at bytes
  seed ← number_at 8 kind.1
  steps ← only is_steps (number_at 8 seed.1)
  capacity ← only is_capacity (number_at 4 steps.1)
  fleet ← only (is_fleet v) (number_at (width v) capacity.1)
  next ← only (is_next v) (number_at (width v) fleet.1)
  depot ← depot_at next.1
  deviation ← job_deviation_at v depot.1
  Ok (record { kind = kind.0; seed = seed.0; steps = steps.0; capacity = capacity.0; fleet = fleet.0; next_number = next.0; depot = depot.0; deviation = deviation.0 }, deviation.1)

-- ---- a whole state

abbrev pub problem_from : Head → List (ℕ × Request) → Instance
problem_from h requests = record { kind = h.kind; depot = h.depot; capacity = h.capacity; fleet = h.fleet; requests = requests; next_number = h.next_number }

-- The requests after their count
unfoldable pub problem_at : Version → Head → List ℕ → Field Instance
problem_at v head bytes = do
  count ← number_at (width v) bytes
  requests ← times (next_request v head.next_number) count.0 [] count.1
  Ok (problem_from head requests.0, requests.1)

unfoldable pub job_at : Version → List ℕ → Field JobValue
job_at v bytes = do
  head ← head_at v bytes
  problem ← problem_at v head.0 head.1
  vehicles ← times (next_vehicle v) head.0.fleet ([], []) problem.1
  work ← work_at v head.0.fleet vehicles.0.1 vehicles.1
  Ok (record { problem = problem.0; pins = vehicles.0.0; plan = vehicles.0.1; work = work.0; deviation = head.0.deviation; seed = head.0.seed; steps = head.0.steps }, work.1)

-- A byte that says whether a job follows, and then the job
unfoldable pub state_at : Version → List ℕ → Field (Option JobValue)
state_at v bytes = do
  loaded ← byte_at bytes
  if loaded.0 == 0 then Ok (None, loaded.1) else if loaded.0 == 1 then (job_at v loaded.1 >>= λ job. Ok (Some job.0, job.1)) else Err BadField

-- The state, and nothing after it
unfoldable pub whole_state_at : Version → List ℕ → Result (Option JobValue) CodecFault
whole_state_at v bytes = do
  state ← state_at v bytes
  if length state.1 == 0 then Ok state.0 else Err BadField
