-- The text above the map: the cost, or the broken rule in words with its values, and the number of unserved
-- stops.
use Rattle.std.specs.Prelude.{ℕ, ◌==◌, if◌then◌else◌, List, [], ◌++◌, length, Option, None, Some}
use Rattle.std.specs.Fmt.{signed_decimal}
use Rattle.std.specs.Option.{option_and_then, option_map_or}
use Rattle.plan_types.specs.Instance.{Instance, partner_at}
use Rattle.plan_types.specs.declared.plans.Cost.{Cost}
use Rattle.plan_types.specs.declared.requests.Kind.{Kind}
use Rattle.plan_types.specs.declared.requests.Kind.TheVariants.{LiLim, Vrp}
use Rattle.route_sched.specs.Cost.{total_length, used_count}
use Rattle.route_sched.specs.declared.visits.Visit.{Visit}
use Rattle.plan_audit.specs.Rules.{item_at}
use Rattle.plan_audit.specs.Verdict.{rule_name, rule_number, rule_of}
use Rattle.plan_audit.specs.declared.rules.Rule.{Rule}
use Rattle.plan_audit.specs.declared.rules.Rule.TheVariants.{MissingStop, SplitPair, EarlyDelivery, Load, Late, LateReturn, Fleet, PrintedCost}
use Rattle.plan_audit.specs.declared.rules.Verdict.{Verdict}
use Rattle.plan_audit.specs.declared.rules.Verdict.TheVariants.{Broken, Pass}
use Rattle.plan_picture.specs.DrawnStops.{visits_of}
use Rattle.plan_picture.specs.Svg.{attribute, word_and_number, word_and_nonzero, tagged}
use Rattle.plan_picture.specs.Styles.{style}
use Rattle.plan_picture.specs.Tags.{fixed}
use Rattle.plan_picture.specs.Words.{word}
use Rattle.plan_picture.specs.declared.heads.BrokenRule.{BrokenRule}
use Rattle.plan_picture.specs.declared.styles.Style.TheVariants as styles
use Rattle.plan_picture.specs.declared.tags.Tag.{Tag}
use Rattle.plan_picture.specs.declared.tags.Tag.TheVariants as tags
use Rattle.plan_picture.specs.declared.words.Word.{Word}
use Rattle.plan_picture.specs.declared.words.Word.TheVariants as words

-- the number of vehicles, if the problem has windows
abbrev pub vehicles_text : Kind → ℕ → List ℕ
vehicles_text LiLim vehicles = word_and_number words.Vehicles vehicles
vehicles_text Vrp vehicles = []

-- a note that a plan is partial, if it leaves requests out
abbrev pub partial_text : ℕ → List ℕ
partial_text unplanned = if unplanned == 0 then [] else word words.Partial

unfoldable pub cost_text : Kind → Cost → List ℕ
cost_text kind cost =
    partial_text cost.unplanned ++ word_and_number words.Unplanned cost.unplanned ++ vehicles_text kind cost.vehicles ++ word_and_number words.Distance cost.distance

-- the visit at a place; routes and places count from 1
abbrev pub reported_visit : Instance → List (List ℕ) → ℕ → ℕ → Option Visit
reported_visit p routes r i = option_and_then (λ route. item_at (visits_of p route) i) (item_at routes r)

-- the values of an overload, and of a late start
unfoldable pub load_values : Instance → Visit → List ℕ
load_values p v = word words.Load ++ signed_decimal v.load ++ word_and_number words.Capacity p.capacity

unfoldable pub start_values : Word → Visit → List ℕ
start_values w v = word_and_number w v.start ++ word_and_number words.Latest v.stop.latest

-- how many vehicles are used, and how many there are
unfoldable pub fleet_values : Instance → List (List ℕ) → List ℕ
fleet_values p routes = word_and_number words.Used (used_count routes) ++ word_and_number words.Fleet p.fleet

-- the other stop of a pair
abbrev pub partner_value : Instance → ℕ → List ℕ
partner_value p n = option_map_or (word_and_number words.Partner) (partner_at p n) []

-- the values of a rule, if it has any
abbrev pub rule_values : Rule → Instance → List (List ℕ) → BrokenRule → List ℕ
rule_values MissingStop p routes b = partner_value p b.stop
rule_values SplitPair p routes b = partner_value p b.stop
rule_values EarlyDelivery p routes b = partner_value p b.stop
rule_values Load p routes b = option_map_or (load_values p) (reported_visit p routes b.route b.place) []
rule_values Late p routes b = option_map_or (start_values words.Start) (reported_visit p routes b.route b.place) []
rule_values LateReturn p routes b = option_map_or (start_values words.Back) (reported_visit p routes b.route b.place) []
rule_values Fleet p routes b = fleet_values p routes
rule_values PrintedCost p routes b = word_and_number words.Driven (total_length p routes)
rule_values other p routes b = []

-- the place of the violation
unfoldable pub broken_place : BrokenRule → List ℕ
broken_place b = word_and_nonzero words.BrokenRoute b.route ++ word_and_nonzero words.BrokenPlace b.place ++ word_and_nonzero words.BrokenStop b.stop

-- the number of the rule and its name
unfoldable pub rule_text : Rule → List ℕ
rule_text rule = word_and_number words.BrokenRule (rule_number rule) ++ word words.BeforeName ++ rule_name rule

unfoldable pub broken_text : Instance → List (List ℕ) → BrokenRule → List ℕ
broken_text p routes b = rule_text b.rule ++ broken_place b ++ rule_values b.rule p routes b

-- the text for the rule that a verdict reports; it is empty if no rule has the reported number
abbrev pub broken_by : Instance → List (List ℕ) → Option Rule → ℕ → ℕ → ℕ → List ℕ
broken_by p routes None r i n = []
broken_by p routes (Some rule) r i n = broken_text p routes (record { rule = rule; route = r; place = i; stop = n })

abbrev pub verdict_text : Instance → List (List ℕ) → Verdict → List ℕ
verdict_text p routes (Pass cost) = cost_text p.kind cost
verdict_text p routes (Broken rule r i n) = broken_by p routes (rule_of rule) r i n

abbrev pub title_head : Verdict → Tag
title_head (Pass cost) = tags.Title
title_head (Broken rule r i n) = tags.BrokenTitle

unfoldable pub title_start : Verdict → List ℕ
title_start verdict = fixed (title_head verdict) ++ style styles.TitleLetters

-- the number of the route and the number of all routes, if only one route is drawn
unfoldable pub one_route : ℕ → ℕ → List ℕ
one_route number all = word_and_number words.OneRoute number ++ word_and_number words.OfRoutes all ++ word words.OfPlan

abbrev pub scope_text : ℕ → ℕ → List ℕ
scope_text number all = if number == 0 then [] else one_route number all

unfoldable pub title_text : Instance → List (List ℕ) → Verdict → ℕ → List ℕ
title_text p routes verdict number =
    title_start verdict ++ scope_text number (length routes) ++ verdict_text p routes verdict ++ fixed tags.TextEnd

-- how many stops are in no route, if any
unfoldable pub unserved_text : ℕ → List ℕ
unserved_text count =
    if count == 0 then [] else fixed tags.UnservedCount ++ word_and_number words.Unserved count ++ fixed tags.TextEnd

-- the words that explain the marks, each beside its mark
unfoldable pub mark_words : List ℕ
mark_words =
    tagged tags.PairDepot words.Depot ++ tagged tags.PairPickup words.Pickup ++ tagged tags.PairDelivery words.Delivery ++ tagged tags.PairStop words.Stop

unfoldable pub pair_words : List ℕ
pair_words = mark_words ++ tagged tags.PairLines words.PairLines ++ fixed tags.TextEnd

-- the words that explain the bars
unfoldable pub bar_words : List ℕ
bar_words =
    tagged tags.BarDriving words.Driving ++ tagged tags.BarWaiting words.Waiting ++ tagged tags.BarService words.Service ++ tagged tags.BarWindow words.Window

unfoldable pub bar_key : List ℕ
bar_key = bar_words ++ tagged tags.BarLate words.Late ++ fixed tags.BarEnd

-- the keys to the marks and to the bars; a problem of kind `Vrp` has neither pairs nor bars
unfoldable pub pair_key : List ℕ
pair_key = fixed tags.PairKey ++ pair_words ++ bar_key

unfoldable pub stop_words : List ℕ
stop_words =
    tagged tags.StopDepot words.Depot ++ tagged tags.StopStop words.Stop ++ tagged tags.StopLines words.StopLines ++ fixed tags.TextEnd

unfoldable pub stop_key : List ℕ
stop_key = fixed tags.StopKey ++ stop_words

abbrev pub key_text : Kind → List ℕ
key_text LiLim = pair_key
key_text Vrp = stop_key

unfoldable pub sheet_text : List ℕ
sheet_text = style styles.PairStyle ++ style styles.LineStyle ++ style styles.TextStyle ++ style styles.BarStyle

unfoldable pub shapes_text : List ℕ
shapes_text = style styles.ArrowShape ++ style styles.DepotShape ++ style styles.PairShapes ++ (style styles.RingShapes ++ style styles.Paper)

-- the size of the picture and of its letters
unfoldable pub size_text : ℕ → List ℕ
size_text height = fixed tags.Head ++ style styles.Letters ++ attribute tags.Size height

-- the size, the shapes, and the key to them
unfoldable pub head_text : Kind → ℕ → List ℕ
head_text kind height = size_text height ++ sheet_text ++ shapes_text ++ key_text kind
