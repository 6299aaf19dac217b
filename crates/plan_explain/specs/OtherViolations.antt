-- The number of places that break a rule, a list of them, and how often each later rule is broken. Routes and
-- places count from 1.
use Rattle.plan_audit.specs.Verdict.{is_stop_rule, rule_number}
use Rattle.plan_audit.specs.declared.rules.Rule.TheVariants.{MissingStop, Fleet, Pin, PrintedCost, VisitedTwice, SplitPair, EarlyDelivery, Load, Late, LateReturn}
use Rattle.plan_audit.specs.declared.rules.Rule.{Rule}
use Rattle.plan_explain.specs.Templates.{form}
use Rattle.plan_types.specs.Instance.{Instance}
use Rattle.route_sched.specs.Cost.{used_count}
use Rattle.rule_violations.specs.Violations.{violations_of, missing_stops}
use Rattle.rule_violations.specs.KnownSchedule.{schedule_is_known}
use Rattle.rule_violations.specs.declared.violations.Violation.{Violation}
use Rattle.std.specs.List.{flat_map}
use Rattle.std.specs.Prelude.{ℕ, List, [], ◌∷◌, ◌++◌, decimal, drop, length, take, codes, ◌-◌, ◌==◌, ◌&&◌, ◌||◌, nat_lt, if◌then◌else◌, Bool}

-- the line of a violation: its route, place and stop
abbrev pub place_text : Violation → List ℕ
place_text b = form (codes "  route @ place @ stop @\n") (decimal b.route ∷ decimal b.place ∷ decimal b.stop ∷ [])

-- the number of violations, and a line for each of at most 20 after the first
unfoldable pub places_text : List ℕ → List Violation → List ℕ
places_text words found = form words (decimal (length found) ∷ []) ++ flat_map place_text (take 20 (drop 1 found))

-- the line of a stop in no route
abbrev pub missing_stop_text : ℕ → List ℕ
missing_stop_text n = form (codes "  stop @\n") (decimal n ∷ [])

-- the number of these stops, and a line for each of the first 20
unfoldable pub missing_text : List ℕ → List ℕ → List ℕ
missing_text words stops = form words (decimal (length stops) ∷ []) ++ flat_map missing_stop_text (take 20 stops)

-- The number of places that break the rule, and a list of them. For rules 9 and 11 the sentence already has the
-- numbers. A printed solution has no pins, so it can't break rule 10.
abbrev pub other_violations_text : Instance → List (List ℕ) → Rule → List ℕ
other_violations_text p routes MissingStop = missing_text (codes "stops in no route: @\n") (missing_stops p routes)
other_violations_text p routes Fleet = []
other_violations_text p routes Pin = []
other_violations_text p routes PrintedCost = []
other_violations_text p routes rule = places_text (codes "places that break this rule: @\n") (violations_of p routes rule)

-- the number of places that break the rule; for rule 3 the stops in no route, for rule 9 the used routes beyond
-- the number of vehicles
abbrev pub count_of : Instance → List (List ℕ) → Rule → ℕ
count_of p routes MissingStop = length (missing_stops p routes)
count_of p routes Fleet = used_count routes - p.fleet
count_of p routes rule = length (violations_of p routes rule)

-- the line with the number of places that break a rule; nothing if there is none
abbrev pub count_text : Rule → ℕ → List ℕ
count_text rule n = if n == 0 then [] else form (codes "places that break rule @: @\n") (decimal (rule_number rule) ∷ decimal n ∷ [])

-- The rule is counted if it comes after the reported rule. Rules 6 to 9 are counted only if the schedule is
-- known.
abbrev pub is_counted : Rule → Rule → Bool
is_counted reported rule = nat_lt (rule_number reported) (rule_number rule) && (is_stop_rule rule || schedule_is_known reported)

-- the line for one rule after the rule `reported`, or nothing if it is not counted
abbrev pub later_rule_text : Instance → List (List ℕ) → Rule → Rule → List ℕ
later_rule_text p routes reported rule = if is_counted reported rule then count_text rule (count_of p routes rule) else []

-- the rules that are counted if they come after the reported rule: all except unknown stops, pins and the
-- printed cost
abbrev pub counted_rules : List Rule
counted_rules = VisitedTwice ∷ MissingStop ∷ SplitPair ∷ EarlyDelivery ∷ Load ∷ Late ∷ LateReturn ∷ Fleet ∷ []

-- The lines for all rules after the reported one. The printed cost is not counted: it is the cost of these
-- routes, which have to change anyway.
abbrev pub later_rules_text : Instance → List (List ℕ) → Rule → List ℕ
later_rules_text p routes reported = flat_map (later_rule_text p routes reported) counted_rules
