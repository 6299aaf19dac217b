-- Why a request is where it is, or in no route, as text. Vehicles and places count from 1.
use Rattle.std.specs.Prelude.{ℕ, ◌+◌, ◌==◌, if◌then◌else◌, Bool, List, [], ◌∷◌, ◌++◌, map, filter, length, is_some, Option, Some, None}
use Rattle.std.specs.List.{flat_map}
use Rattle.plan_types.specs.Instance.{Instance, request_with}
use Rattle.plan_types.specs.Request.{stop_in, stops_of}
use Rattle.plan_types.specs.declared.requests.Kind.{Kind}
use Rattle.plan_types.specs.declared.requests.Kind.TheVariants.{LiLim, Vrp}
use Rattle.plan_types.specs.declared.requests.Request.{Request}
use Rattle.route_sched.specs.Cost.{is_planned, used_count}
use Rattle.text_lines.specs.Lines.{with_line_feed}
use Rattle.std.specs.Option.{option_map}
use Rattle.move_ops.specs.Insertion.{route_of, request_named}
use Rattle.plan_explain.specs.Tables.{rows_of}
use Rattle.plan_explain.specs.declared.rows.Row.{Row}
use Rattle.request_explanation.specs.LinePrefixes.{line_prefix_text}
use Rattle.request_explanation.specs.LimitViolations.{excess, violation_of}
use Rattle.request_explanation.specs.Trials.{best_trial}
use Rattle.request_explanation.specs.Words.{word_and_number, word}
use Rattle.request_explanation.specs.declared.line_prefixes.LinePrefix.{LinePrefix}
use Rattle.request_explanation.specs.declared.limit_violations.Limit.{Limit}
use Rattle.request_explanation.specs.declared.limit_violations.Limit.TheVariants.{Capacity, Start, Return}
use Rattle.request_explanation.specs.declared.limit_violations.LimitViolation.{LimitViolation}
use Rattle.request_explanation.specs.declared.trials.Trial.{Trial}
use Rattle.request_explanation.specs.declared.words.Word.TheVariants.{AloneStop, AloneBack, AloneFits, Needs, VehicleTakes, StartsAt, WouldStartAt, Latest, Vehicle, Stop, WouldStart, Back}
use Rattle.request_explanation.specs.declared.words.Word.TheVariants.{Late, AfterStop, WouldCarry, TooMuch, FitsAtPlace, FitsAtPlaces, And, AtPlace, Fleet, Of, VehiclesUsed}

-- the route of a vehicle that serves only the request
abbrev pub alone_route : Request → List ℕ
alone_route r = map (λ s. s.number) (stops_of r)

-- the first limit that a vehicle exceeds if it serves only this request, with its values
abbrev pub alone_by : Limit → LimitViolation → List ℕ
alone_by Capacity m = word_and_number AloneStop m.stop ++ word_and_number Needs m.actual ++ word_and_number VehicleTakes m.allowed
alone_by Start m = word_and_number AloneStop m.stop ++ word_and_number WouldStartAt m.actual ++ word_and_number Latest m.allowed
alone_by Return m = word_and_number AloneBack m.actual ++ word_and_number Latest m.allowed

-- the line about a request alone, with its prefix
abbrev pub alone_text : List ℕ → LimitViolation → List ℕ
alone_text lead m = lead ++ with_line_feed (alone_by m.limit m)

-- by how much the first limit would be exceeded
abbrev pub excess_text : Limit → LimitViolation → List ℕ
excess_text Capacity m = word_and_number AfterStop m.stop ++ word_and_number WouldCarry (excess m) ++ word TooMuch
excess_text Start m = word_and_number Stop m.stop ++ word_and_number WouldStart (excess m) ++ word Late
excess_text Return m = word_and_number Back (excess m) ++ word Late

-- the places where a request fits: one for a single
abbrev pub places_text : ℕ → ℕ → List ℕ
places_text i j = if i == j then word_and_number FitsAtPlace i else word_and_number FitsAtPlaces i ++ word_and_number And j

abbrev pub outcome_text : Option LimitViolation → Trial → List ℕ
outcome_text None t = places_text t.pickup t.delivery
outcome_text (Some m) t = excess_text m.limit m

-- the outcome of the best trial with a vehicle; there is no trial if all places are pinned
abbrev pub trial_text : List ℕ → ℕ → Option Trial → List ℕ
trial_text lead v None = []
trial_text lead v (Some t) = lead ++ word_and_number Vehicle v ++ with_line_feed (outcome_text t.violation t)

-- the best trial with a vehicle, or none if the vehicle is not used; its pin has `kept` stops
abbrev pub used_trial : Instance → Request → ℕ → List ℕ → Option Trial
used_trial p r kept route = if length route == 0 then None else best_trial p route r kept

-- the lines of vehicles; the first of them has number v
abbrev pub vehicles_from : List ℕ → Instance → List (List ℕ) → Request → ℕ → List (List ℕ) → List ℕ
vehicles_from lead p pins r v [] = []
vehicles_from lead p pins r v (route ∷ routes) = trial_text lead v (used_trial p r (length (route_of pins v)) route) ++ vehicles_from lead p pins r (v + 1) routes

-- how many of the vehicles are used
abbrev pub fleet_text : List ℕ → Instance → List (List ℕ) → List ℕ
fleet_text lead p routes = lead ++ word_and_number Fleet (used_count routes) ++ word_and_number Of p.fleet ++ with_line_feed (word VehiclesUsed)

-- a request that a vehicle could serve alone: its outcome with each used vehicle, and how many vehicles are
-- used
abbrev pub all_outcomes_text : List ℕ → Instance → List (List ℕ) → List (List ℕ) → Request → List ℕ
all_outcomes_text lead p pins routes r = lead ++ word AloneFits ++ vehicles_from lead p pins r 1 routes ++ fleet_text lead p routes

-- any unplanned request: the first limit that a vehicle exceeds if it serves only this request, or else the
-- outcome with each used vehicle
abbrev pub unplanned_by : Option LimitViolation → List ℕ → Instance → List (List ℕ) → List (List ℕ) → Request → List ℕ
unplanned_by (Some m) lead p pins routes r = alone_text lead m
unplanned_by None lead p pins routes r = all_outcomes_text lead p pins routes r

abbrev pub unplanned_text : List ℕ → Instance → List (List ℕ) → List (List ℕ) → Request → List ℕ
unplanned_text lead p pins routes r = unplanned_by (violation_of p (alone_route r)) lead p pins routes r

-- The lines for one of several requests, by its name. There is no line if a route has a stop of the request, or
-- no current request has the name.
abbrev pub reason_of : Option Request → LinePrefix → Instance → List (List ℕ) → List (List ℕ) → ℕ → List ℕ
reason_of None lead p pins routes name = []
reason_of (Some r) lead p pins routes name = if is_planned routes r then [] else unplanned_text (line_prefix_text lead name) p pins routes r

abbrev pub reason_text : LinePrefix → Instance → List (List ℕ) → List (List ℕ) → ℕ → List ℕ
reason_text lead p pins routes name = reason_of (request_named p name) lead p pins routes name

-- the row has a stop of the request
abbrev pub is_stop_of : Request → Row → Bool
is_stop_of r row = is_some (stop_in row.stop r)

-- when a vehicle serves the stop of this row; a problem of kind `Vrp` has no times
abbrev pub start_text : Kind → Row → List ℕ
start_text LiLim row = word_and_number StartsAt row.start
start_text Vrp row = []

abbrev pub service_text : Kind → ℕ → Row → List ℕ
service_text kind v row = word_and_number Vehicle v ++ word_and_number Stop row.stop ++ word_and_number AtPlace row.place ++ with_line_feed (start_text kind row)

-- each service of the request among these rows of a vehicle's route
abbrev pub services_in : Kind → Request → ℕ → List Row → List ℕ
services_in kind r v rows = flat_map (service_text kind v) (filter (is_stop_of r) rows)

abbrev pub services_text : Instance → Request → ℕ → List ℕ → List ℕ
services_text p r v route = services_in p.kind r v (rows_of p route)

-- the services by all of these vehicles; the first has number v
abbrev pub services_from : Instance → Request → ℕ → List (List ℕ) → List ℕ
services_from p r v [] = []
services_from p r v (route ∷ routes) = services_text p r v route ++ services_from p r (v + 1) routes

-- the whole answer: the services of a planned request, or the reason why it is unplanned
abbrev pub why_text : Instance → List (List ℕ) → List (List ℕ) → Request → List ℕ
why_text p pins routes r = if is_planned routes r then services_from p r 1 routes else unplanned_text [] p pins routes r

-- the answer for the request that has this stop
abbrev pub why_at : Instance → List (List ℕ) → List (List ℕ) → ℕ → Option (List ℕ)
why_at p pins routes n = option_map (why_text p pins routes) (request_with p n)
