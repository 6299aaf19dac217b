-- The bytes of a state and of a record, field by field. Numbers are big endian, signed ones in two's complement.
use Rattle.std.specs.Prelude.{ℕ, ◌-◌, ℤ, List, [], ◌∷◌, ◌++◌, length, replicate}
use Rattle.std.specs.List.{flat_map}
use Rattle.std.specs.Int.{w32, cast_unsigned}
use Rattle.byteorder.specs.Endian.{big_bytes}
use Rattle.plan_types.specs.declared.requests.Stop.{Stop}
use Rattle.plan_types.specs.declared.requests.Kind.{Kind}
use Rattle.plan_types.specs.declared.requests.Kind.TheVariants.{LiLim, Vrp}
use Rattle.plan_types.specs.declared.requests.Request.{Request}
use Rattle.plan_types.specs.declared.requests.Request.TheVariants.{Single, Pair}
use Rattle.command_types.specs.Job.{JobValue}
use Rattle.command_types.specs.declared.states.State.{State}
use Rattle.command_types.specs.declared.states.State.TheVariants.{Empty, Loaded}
use Rattle.command_types.specs.declared.commands.Spot.{Spot}
use Rattle.command_types.specs.declared.commands.Command.{Command}
use Rattle.command_types.specs.declared.commands.Command.TheVariants.{Add, Add1, Withdraw, Pin, Unpin, Build, Search, Deviation}
use Rattle.state_codec.specs.declared.version.Version.{Version}
use Rattle.state_codec.specs.declared.version.Version.TheVariants.{One, Two}

-- A number in this many bytes
unfoldable pub number_bytes : ℕ → ℕ → List ℕ
number_bytes size n = big_bytes size n

-- A signed number in four bytes
unfoldable pub signed_bytes : ℤ → List ℕ
signed_bytes z = big_bytes 4 (cast_unsigned w32 z)

-- The width of a stop number, of a count, of a length and of the fleet, in bytes
abbrev pub width : Version → ℕ
width One = 2
width Two = 4

-- A stop number, a count, a length or the fleet
abbrev pub count_bytes : Version → ℕ → List ℕ
count_bytes v n = number_bytes (width v) n

-- ---- a state

abbrev pub kind_code : Kind → ℕ
kind_code LiLim = 1
kind_code Vrp = 2

-- x, y, demand, earliest, latest, service
abbrev pub visit_bytes : Stop → List ℕ
visit_bytes s = signed_bytes s.x ++ (signed_bytes s.y ++ (signed_bytes s.demand ++ (number_bytes 4 s.earliest ++ (number_bytes 4 s.latest ++ number_bytes 4 s.service))))

-- The number of a stop, and then its other fields
abbrev pub stop_bytes : Version → Stop → List ℕ
stop_bytes v s = count_bytes v s.number ++ visit_bytes s

-- The form, 1 or 2, then that many stops
abbrev pub request_bytes : Version → Request → List ℕ
request_bytes v (Single stop) = 1 ∷ stop_bytes v stop
request_bytes v (Pair pickup delivery) = 2 ∷ stop_bytes v pickup ++ stop_bytes v delivery

abbrev pub requests_bytes : Version → List (ℕ × Request) → List ℕ
requests_bytes v requests = flat_map (λ e. request_bytes v e.1) requests

-- Stop numbers, without their count
abbrev pub stops_bytes : Version → List ℕ → List ℕ
stops_bytes v stops = flat_map (count_bytes v) stops

-- For each vehicle: the length of the pin, the length of the route, the stops of the route
abbrev pub vehicles_bytes : Version → List (List ℕ) → List (List ℕ) → List ℕ
vehicles_bytes v (pin ∷ pins) (route ∷ routes) = (count_bytes v (length pin) ++ (count_bytes v (length route) ++ stops_bytes v route)) ++ vehicles_bytes v pins routes
vehicles_bytes v [] routes = []
vehicles_bytes v (pin ∷ pins) [] = []

-- For each vehicle: the length of the working route and its stops
abbrev pub routes_bytes : Version → List (List ℕ) → List ℕ
routes_bytes v routes = flat_map (λ route. count_bytes v (length route) ++ stops_bytes v route) routes

-- The deviation. Version 1 has neither a deviation nor working routes
abbrev pub deviation_bytes : Version → ℕ → List ℕ
deviation_bytes One d = []
deviation_bytes Two d = number_bytes 4 d

abbrev pub work_bytes : Version → List (List ℕ) → List ℕ
work_bytes One work = []
work_bytes Two work = routes_bytes Two work

-- The depot: x, y, earliest, latest
abbrev pub depot_bytes : Stop → List ℕ
depot_bytes s = signed_bytes s.x ++ (signed_bytes s.y ++ (number_bytes 4 s.earliest ++ number_bytes 4 s.latest))

-- The part before the requests: kind, seed, steps, capacity, fleet, next number, depot, deviation
abbrev pub head_bytes : Version → JobValue → List ℕ
head_bytes v j = kind_code j.problem.kind ∷ number_bytes 8 j.seed
    ++ (number_bytes 8 j.steps ++ (number_bytes 4 j.problem.capacity
    ++ (count_bytes v j.problem.fleet ++ (count_bytes v j.problem.next_number ++ (depot_bytes j.problem.depot ++ deviation_bytes v j.deviation)))))

-- The head, then the number of requests, the requests in ascending order of name, the vehicles, the working
-- routes
abbrev pub job_bytes : Version → JobValue → List ℕ
job_bytes v j = head_bytes v j ++ (count_bytes v (length j.problem.requests) ++ (requests_bytes v j.problem.requests ++ (vehicles_bytes v j.pins j.plan ++ work_bytes v j.work)))

abbrev pub state_bytes : Version → State → List ℕ
state_bytes v Empty = 0 ∷ []
state_bytes v (Loaded j) = 1 ∷ job_bytes v j

-- ---- a record

-- x, y, earliest, latest, service
abbrev pub spot_bytes : Spot → List ℕ
spot_bytes s = signed_bytes s.x ++ (signed_bytes s.y ++ (number_bytes 4 s.earliest ++ (number_bytes 4 s.latest ++ number_bytes 4 s.service)))

-- The kind and the fields of a command; a command without a record has none
abbrev pub command_bytes : Version → Command → List ℕ
command_bytes v (Add demand pickup delivery) = 1 ∷ number_bytes 4 demand ++ (spot_bytes pickup ++ spot_bytes delivery)
command_bytes v (Add1 demand spot) = 2 ∷ number_bytes 4 demand ++ spot_bytes spot
command_bytes v (Withdraw name) = 3 ∷ count_bytes v name
command_bytes v (Pin vehicle k) = 4 ∷ count_bytes v vehicle ++ count_bytes v k
command_bytes v (Unpin vehicle) = 5 ∷ count_bytes v vehicle
command_bytes v Build = 6 ∷ []
command_bytes v (Search count) = 7 ∷ number_bytes 2 count
command_bytes v (Deviation deviation) = 8 ∷ number_bytes 4 deviation
command_bytes v _ = []

-- Sequence, index, kind and fields
abbrev pub fields_bytes : Version → ℕ → ℕ → Command → List ℕ
fields_bytes v sequence index c = number_bytes 8 sequence ++ (number_bytes 4 index ++ command_bytes v c)

-- Zeros to the end of a sector
abbrev pub padded : List ℕ → List ℕ
padded bytes = bytes ++ replicate (512 - length bytes) 0

abbrev pub record_bytes : Version → ℕ → ℕ → Command → List ℕ
record_bytes v sequence index c = padded (fields_bytes v sequence index c)
