-- The sentence on a broken rule, with its values. Routes and places count from 1.
use Rattle.std.specs.Prelude.{ℕ, ◌+◌, ◌-◌, ◌==◌, ◌||◌, nat_lt, not, Bool, true, is_none, if◌then◌else◌, List, [], ◌∷◌, ◌++◌, length, Option, Some, None, unwrap_or, slice_get, decimal, codes}
use Rattle.std.specs.Fmt.{signed_decimal}
use Rattle.std.specs.List.{list_any}
use Rattle.plan_types.specs.Instance.{Instance, partner_at, pickup_at, stop_at}
use Rattle.route_sched.specs.Schedule.{start}
use Rattle.route_sched.specs.Cost.{total_length, used_count}
use Rattle.plan_audit.specs.Rules.{item_at}
use Rattle.plan_audit.specs.declared.rules.Rule.{Rule}
use Rattle.plan_audit.specs.declared.rules.Rule.TheVariants as rules
use Rattle.rule_violations.specs.Positions.{first_position}
use Rattle.plan_explain.specs.Templates.{demand_text, form, position_text, text_if}
use Rattle.plan_explain.specs.Tables.{rows_of}
use Rattle.plan_explain.specs.declared.rows.Row.{Row}
use Rattle.plan_explain.specs.declared.sentences.Shift.{Shift}
use Rattle.plan_explain.specs.declared.sentences.Shift.TheVariants.{TooHigh, TooLow}
use Rattle.plan_explain.specs.declared.verdicts.Fault.{Fault}

-- the stops of route r, with routes counted from 1; empty if there is no such route
abbrev pub reported_route : List (List ℕ) → ℕ → List ℕ
reported_route routes r = unwrap_or (item_at routes r) []

-- a template with the number of a stop and its first position
abbrev pub stop_sentence : List ℕ → List (List ℕ) → ℕ → List ℕ
stop_sentence phrase routes n = form phrase (decimal n ∷ position_text (first_position routes n) ∷ [])

-- a template with another stop and its first position, or nothing if there is no other stop
abbrev pub second_stop_text : List ℕ → List (List ℕ) → Option ℕ → List ℕ
second_stop_text phrase routes None = []
second_stop_text phrase routes (Some m) = stop_sentence phrase routes m

-- the stop is still unknown after its number is corrected by one: lowered for `TooHigh`, raised for `TooLow`
abbrev pub is_unknown_shifted : Instance → Shift → ℕ → Bool
is_unknown_shifted p TooHigh n = is_none (stop_at p (n - 1))
is_unknown_shifted p TooLow n = not (nat_lt n p.next_number) || is_none (stop_at p (n + 1))

-- some stop of the routes is still unknown after its number is corrected by one
abbrev pub any_unknown_shifted : Instance → Shift → List (List ℕ) → Bool
any_unknown_shifted p shift routes = list_any (list_any (is_unknown_shifted p shift)) routes

-- a hint if all stop numbers seem to be one too high, or else one too low; otherwise nothing
abbrev pub shift_text : Instance → List (List ℕ) → List ℕ
shift_text p routes =
    if not (any_unknown_shifted p TooHigh routes) then codes ". Each stop less 1 is one of the instance: are the numbers one too high?"
    else text_if (codes ". Each stop and 1 more is one of the instance: are the numbers one too low?") (not (any_unknown_shifted p TooLow routes))

-- rule 1, an unknown stop: the stop is the depot, or no request has it
abbrev pub unknown_text : Instance → ℕ → List ℕ
unknown_text p n =
    if n == 0 then codes "unknown stop: stop 0 is the depot, which no route line has"
    else form (codes "unknown stop: no request has stop @, the numbers of the instance are below @") (decimal n ∷ decimal p.next_number ∷ [])

-- rule 1: the unknown stop, and the hint if all numbers seem to be one too high or too low
abbrev pub unknown_sentence : Instance → List (List ℕ) → ℕ → List ℕ
unknown_sentence p routes n = unknown_text p n ++ shift_text p routes

-- rules 3 and 4, a missing stop or a split pair: a stop, and the other stop of its pair
abbrev pub pair_sentence : List ℕ → Instance → List (List ℕ) → ℕ → List ℕ
pair_sentence phrase p routes n = stop_sentence phrase routes n ++ second_stop_text (codes "; the other stop of its pair, stop @, is @") routes (partner_at p n)

-- rule 5, an early delivery: the delivery, and its pickup
abbrev pub delivery_first_sentence : List ℕ → Instance → List (List ℕ) → ℕ → List ℕ
delivery_first_sentence phrase p routes n =
    stop_sentence phrase routes n ++ second_stop_text (codes "; its pickup, stop @, is @") routes (pickup_at p n)

-- a template with the stop of this row, its demand, the load after it, and the capacity
unfoldable pub load_text : List ℕ → Instance → Row → List ℕ
load_text phrase p row = form phrase (decimal row.stop ∷ demand_text (stop_at p row.stop) ∷ signed_decimal row.load ∷ decimal p.capacity ∷ [])

-- rule 6, an overload: the load after the stop of this row, and the capacity; nothing without a row
abbrev pub load_sentence : Instance → Option Row → List ℕ
load_sentence p None = []
load_sentence p (Some row) = load_text (codes "overload: after stop @@, the load is @, the capacity @") p row

-- a template with a stop, a time, the latest time allowed, and the difference, at least 0
abbrev pub late_text : List ℕ → ℕ → ℕ → ℕ → List ℕ
late_text phrase n start latest = form phrase (decimal n ∷ decimal start ∷ decimal latest ∷ decimal (start - latest) ∷ [])

-- rule 7, late service: the start of service at this row, and the latest start allowed; nothing without a row
abbrev pub late_sentence : Option Row → List ℕ
late_sentence None = []
late_sentence (Some row) = late_text (codes "late service: stop @ starts at @, latest @: late by @") row.stop row.start row.latest

-- the last stop of a route, or 0 if the route is empty
abbrev pub last_stop : List ℕ → ℕ
last_stop route = unwrap_or (slice_get route (length route - 1)) 0

-- rule 8, a late return: the last stop, the time when the vehicle is back, and the depot's latest time
unfoldable pub return_sentence : Instance → List ℕ → List ℕ
return_sentence p route = late_text (codes "late return: after stop @ the vehicle is back at @, latest @: late by @") (last_stop route) (start p route (length route + 1)) p.depot.latest

-- the row at place i of a route, with places counted from 1
abbrev pub reported_row : Instance → List ℕ → ℕ → Option Row
reported_row p route i = item_at (rows_of p route) i

-- rule 9, too many vehicles: the number of used routes, and the number of vehicles
abbrev pub fleet_sentence : Instance → List (List ℕ) → List ℕ
fleet_sentence p routes = form (codes "too many vehicles: @ are used, the fleet has @") (decimal (used_count routes) ∷ decimal p.fleet ∷ [])

-- rule 11, a wrong cost: the printed cost, and the distance of the routes
abbrev pub cost_sentence : Instance → List (List ℕ) → ℕ → List ℕ
cost_sentence p routes printed = form (codes "wrong cost: @ is printed, the distance driven is @") (decimal printed ∷ decimal (total_length p routes) ∷ [])

-- the sentence on this rule with the values of the violation; empty for pins, which a printed solution does not
-- have
abbrev pub rule_sentence : Instance → List (List ℕ) → Fault → Rule → List ℕ
rule_sentence p routes f rules.UnknownStop = unknown_sentence p routes f.stop
rule_sentence p routes f rules.VisitedTwice = stop_sentence (codes "visited twice: stop @ is @ already") routes f.stop
rule_sentence p routes f rules.MissingStop = pair_sentence (codes "missing stop: stop @ is @") p routes f.stop
rule_sentence p routes f rules.SplitPair = pair_sentence (codes "split pair: stop @ is @") p routes f.stop
rule_sentence p routes f rules.EarlyDelivery = delivery_first_sentence (codes "early delivery: stop @ is @") p routes f.stop
rule_sentence p routes f rules.Load = load_sentence p (reported_row p (reported_route routes f.route) f.place)
rule_sentence p routes f rules.Late = late_sentence (reported_row p (reported_route routes f.route) f.place)
rule_sentence p routes f rules.LateReturn = return_sentence p (reported_route routes f.route)
rule_sentence p routes f rules.Fleet = fleet_sentence p routes
rule_sentence p routes f rules.Pin = []
rule_sentence p routes f rules.PrintedCost = cost_sentence p routes f.printed

-- the sentence on a violation
abbrev pub sentence : Instance → List (List ℕ) → Fault → List ℕ
sentence p routes f = rule_sentence p routes f f.rule
