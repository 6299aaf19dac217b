-- Each picture is well-formed.
use Rattle.std.proofs.Common.{ℕ, ◌+◌, ◌*◌, List, [], ◌∷◌, ◌++◌, length, map, Option, Some, None, refl, codes}
use Rattle.std.specs.Prelude.{◌==◌, IfSome}
use Rattle.std.specs.Fmt.{signed_decimal}
use Rattle.std.specs.Option.{option_map}
use Rattle.plan_types.specs.Instance.{Instance, partner_at}
use Rattle.plan_types.specs.declared.plans.Cost.{Cost}
use Rattle.plan_types.specs.declared.requests.Kind.{Kind}
use Rattle.plan_types.specs.declared.requests.Kind.TheVariants.{LiLim, Vrp}
use Rattle.plan_types.specs.declared.requests.Stop.{Stop}
use Rattle.route_sched.specs.Cost.{total_length, used_count}
use Rattle.route_sched.specs.declared.visits.Visit.{Visit}
use Rattle.plan_audit.specs.Rules.{item_at}
use Rattle.plan_audit.specs.Verdict.{rule_name, rule_number, rule_of}
use Rattle.plan_audit.specs.declared.rules.Rule.{Rule}
use Rattle.plan_audit.specs.declared.rules.Rule.TheVariants.{UnknownStop, VisitedTwice, MissingStop, SplitPair, EarlyDelivery, Load, Late, LateReturn, Fleet, Pin, PrintedCost}
use Rattle.plan_audit.specs.declared.rules.Verdict.{Verdict}
use Rattle.plan_audit.specs.declared.rules.Verdict.TheVariants.{Broken, Pass}
use Rattle.plan_picture.specs.Days.{days_text}
use Rattle.plan_picture.specs.Frame.{bounds_of, framed}
use Rattle.plan_picture.specs.Heads.{
  bar_key,
  bar_words,
  broken_by,
  broken_place,
  broken_text,
  cost_text,
  fleet_values,
  head_text,
  key_text,
  load_values,
  mark_words,
  one_route,
  pair_key,
  pair_words,
  partial_text,
  partner_value,
  rule_values,
  rule_text,
  scope_text,
  shapes_text,
  sheet_text,
  size_text,
  start_values,
  stop_key,
  stop_words,
  title_start,
  title_text,
  unserved_text,
  vehicles_text,
  verdict_text,
  reported_visit,
}
use Rattle.plan_picture.specs.DrawnStops.{kept_of, stops_in_order, stops_along, unserved}
use Rattle.plan_picture.specs.Laws.{PicturesAreWellFormed, RoutePicturesAreWellFormed}
use Rattle.plan_picture.specs.Map.{map_text}
use Rattle.plan_picture.specs.Picture.{broken_route, broken_stop, map_and_table_text, route_text, sized_head, whole_text}
use Rattle.plan_picture.specs.Svg.{attribute, word_and_number, word_and_nonzero, tagged}
use Rattle.plan_picture.specs.Table.{grid_of, rows_text}
use Rattle.plan_picture.specs.Styles.{style}
use Rattle.plan_picture.specs.Tags.{fixed}
use Rattle.plan_picture.specs.WellFormed.{inside, IsWellFormed, outside, unquoted}
use Rattle.plan_picture.specs.Words.{word}
use Rattle.plan_picture.specs.declared.heads.BrokenRule.{BrokenRule}
use Rattle.plan_picture.specs.declared.styles.Style.TheVariants as styles
use Rattle.plan_picture.specs.declared.tags.Tag.TheVariants as tags
use Rattle.plan_picture.specs.declared.words.Word.{Word}
use Rattle.plan_picture.specs.declared.words.Word.TheVariants as words
use Rattle.plan_picture.proofs.MapReadLemmas.{map_stays, stays_maybe}
use Rattle.plan_picture.proofs.PieceLemmas.{attribute_goes, value_stays, some_value_stays, text_ends}
use Rattle.plan_picture.proofs.ReadLemmas.{Goes, goes_on, inside_keeps, plain_signed, Stays, stays_if, stays_with}
use Rattle.plan_picture.proofs.TableReadLemmas.{days_stay, rows_stay}

-- directly within the picture, only the picture's own element `svg` is open
abbrev picture_names : List (List ℕ)
picture_names = codes "svg" ∷ []

pair_words_stay : Stays pair_words
unfolding pair_words mark_words tagged fixed word
pair_words_stay n os = refl

bar_key_stays : Stays bar_key
unfolding bar_key bar_words tagged fixed word
bar_key_stays n os = refl

stop_words_stay : Stays stop_words
unfolding stop_words tagged fixed word
stop_words_stay n os = refl

key_stays : (kind : Kind) → Stays (key_text kind)
unfolding pair_key stop_key fixed
key_stays LiLim =
    stays_with (fixed tags.PairKey ++ pair_words) bar_key (stays_with (fixed tags.PairKey) pair_words (λ n os. refl) pair_words_stay) bar_key_stays
key_stays Vrp = stays_with (fixed tags.StopKey) stop_words (λ n os. refl) stop_words_stay

sheet_goes : Goes (unquoted (codes "svg") []) sheet_text (inside picture_names)
unfolding sheet_text style
sheet_goes =
    let a = unquoted (codes "svg") [] in
    goes_on a (style styles.PairStyle ++ style styles.LineStyle ++ style styles.TextStyle) (style styles.BarStyle)
    (goes_on a (style styles.PairStyle ++ style styles.LineStyle) (style styles.TextStyle)
    (goes_on a (style styles.PairStyle) (style styles.LineStyle) refl refl) refl) refl

shapes_go : Goes (inside picture_names) shapes_text (inside picture_names)
unfolding shapes_text style
shapes_go =
    let a = inside picture_names in
    let defs = inside (codes "defs" ∷ picture_names) in
    goes_on a (style styles.ArrowShape ++ style styles.DepotShape ++ style styles.PairShapes) (style styles.RingShapes ++ style styles.Paper)
    (goes_on a (style styles.ArrowShape ++ style styles.DepotShape) (style styles.PairShapes)
    (goes_on a (style styles.ArrowShape) (style styles.DepotShape) refl refl) refl) (goes_on defs (style styles.RingShapes) (style styles.Paper) refl refl)

size_opens : (height : ℕ) → Goes outside (size_text height) (unquoted (codes "svg") [])
unfolding size_text fixed style
size_opens height =
    let a = unquoted (codes "svg") [] in
    goes_on outside (fixed tags.Head ++ style styles.Letters) (attribute tags.Size height)
    (goes_on outside (fixed tags.Head) (style styles.Letters) refl refl) (attribute_goes a (codes "svg") [] tags.Size height refl)

head_opens : (kind : Kind) (height : ℕ) → Goes outside (head_text kind height) (inside picture_names)
unfolding head_text
head_opens kind height =
    let size = size_text height in
    goes_on outside (size ++ sheet_text ++ shapes_text) (key_text kind)
    (goes_on outside (size ++ sheet_text) shapes_text (goes_on outside size sheet_text (size_opens height) sheet_goes) shapes_go)
    (key_stays kind (codes "svg") [])

cost_stays : (kind : Kind) (cost : Cost) → Stays (cost_text kind cost)
unfolding cost_text word
cost_stays kind cost =
    let mark = partial_text cost.unplanned in
    let count = word_and_number words.Unplanned cost.unplanned in
    let mark_labels : Stays mark = stays_if (cost.unplanned == 0) [] (word words.Partial) (λ n os. refl) (λ n os. refl) in
    let first : Stays (mark ++ count) = stays_with mark count mark_labels (value_stays words.Unplanned cost.unplanned (λ n os. refl)) in
    stays_with (mark ++ count ++ vehicles_text kind cost.vehicles) (word_and_number words.Distance cost.distance)
    (stays_with (mark ++ count) (vehicles_text kind cost.vehicles) first (by kind)) (value_stays words.Distance cost.distance (λ n os. refl))
  where
    by : (k : Kind) → Stays (vehicles_text k cost.vehicles)
    by LiLim = value_stays words.Vehicles cost.vehicles (λ n os. refl)
    by Vrp = λ n os. refl

name_stays : (rule : Rule) → Stays (rule_name rule)
unfolding rule_name
name_stays UnknownStop = λ n os. refl
name_stays VisitedTwice = λ n os. refl
name_stays MissingStop = λ n os. refl
name_stays SplitPair = λ n os. refl
name_stays EarlyDelivery = λ n os. refl
name_stays Load = λ n os. refl
name_stays Late = λ n os. refl
name_stays LateReturn = λ n os. refl
name_stays Fleet = λ n os. refl
name_stays Pin = λ n os. refl
name_stays PrintedCost = λ n os. refl

start_stays : (w : Word) (v : Visit) → Stays (word w) → Stays (start_values w v)
unfolding start_values word
start_stays w v first = stays_with (word_and_number w v.start) (word_and_number words.Latest v.stop.latest) (value_stays w v.start first) (value_stays words.Latest v.stop.latest (λ n os. refl))

load_stays : (p : Instance) (v : Visit) → Stays (load_values p v)
unfolding load_values word
load_stays p v =
    stays_with (word words.Load ++ signed_decimal v.load) (word_and_number words.Capacity p.capacity)
    (stays_with (word words.Load) (signed_decimal v.load) (λ n os. refl) (λ n os. inside_keeps (n ∷ os) (signed_decimal v.load) (plain_signed v.load)))
    (value_stays words.Capacity p.capacity (λ n os. refl))

fleet_stays : (p : Instance) (routes : List (List ℕ)) → Stays (fleet_values p routes)
unfolding fleet_values word
fleet_stays p routes =
    stays_with (word_and_number words.Used (used_count routes)) (word_and_number words.Fleet p.fleet) (value_stays words.Used (used_count routes) (λ n os. refl)) (value_stays words.Fleet p.fleet (λ n os. refl))

partner_stays : (p : Instance) (n : ℕ) → Stays (partner_value p n)
unfolding word
partner_stays p n = stays_maybe (word_and_number words.Partner) (partner_at p n) (λ m. value_stays words.Partner m (λ k os. refl))

values_stay : (rule : Rule) (p : Instance) (routes : List (List ℕ)) (b : BrokenRule) → Stays (rule_values rule p routes b)
unfolding word
values_stay UnknownStop p routes b = λ n os. refl
values_stay VisitedTwice p routes b = λ n os. refl
values_stay MissingStop p routes b = partner_stays p b.stop
values_stay SplitPair p routes b = partner_stays p b.stop
values_stay EarlyDelivery p routes b = partner_stays p b.stop
values_stay Load p routes b = stays_maybe (load_values p) (reported_visit p routes b.route b.place) (load_stays p)
values_stay Late p routes b = stays_maybe (start_values words.Start) (reported_visit p routes b.route b.place) (λ v. start_stays words.Start v (λ n os. refl))
values_stay LateReturn p routes b = stays_maybe (start_values words.Back) (reported_visit p routes b.route b.place) (λ v. start_stays words.Back v (λ n os. refl))
values_stay Fleet p routes b = fleet_stays p routes
values_stay Pin p routes b = λ n os. refl
values_stay PrintedCost p routes b = value_stays words.Driven (total_length p routes) (λ n os. refl)

place_stays : (b : BrokenRule) → Stays (broken_place b)
unfolding broken_place word
place_stays b =
    let route = word_and_nonzero words.BrokenRoute b.route in
    let place = word_and_nonzero words.BrokenPlace b.place in
    stays_with (route ++ place) (word_and_nonzero words.BrokenStop b.stop)
    (stays_with route place (some_value_stays words.BrokenRoute b.route (λ n os. refl)) (some_value_stays words.BrokenPlace b.place (λ n os. refl)))
    (some_value_stays words.BrokenStop b.stop (λ n os. refl))

rule_stays : (rule : Rule) → Stays (rule_text rule)
unfolding rule_text word
rule_stays rule =
    let first = word_and_number words.BrokenRule (rule_number rule) in
    stays_with (first ++ word words.BeforeName) (rule_name rule)
    (stays_with first (word words.BeforeName) (value_stays words.BrokenRule (rule_number rule) (λ n os. refl)) (λ n os. refl)) (name_stays rule)

broken_stays : (p : Instance) (routes : List (List ℕ)) (b : BrokenRule) → Stays (broken_text p routes b)
unfolding broken_text
broken_stays p routes b =
    stays_with (rule_text b.rule ++ broken_place b) (rule_values b.rule p routes b)
    (stays_with (rule_text b.rule) (broken_place b) (rule_stays b.rule) (place_stays b)) (values_stay b.rule p routes b)

broken_by_stays : (p : Instance) (routes : List (List ℕ)) (rule : Option Rule) (r i s : ℕ) → Stays (broken_by p routes rule r i s)
broken_by_stays p routes None r i s = λ n os. refl
broken_by_stays p routes (Some rule) r i s = broken_stays p routes (record { rule = rule; route = r; place = i; stop = s })

verdict_stays : (p : Instance) (routes : List (List ℕ)) (verdict : Verdict) → Stays (verdict_text p routes verdict)
verdict_stays p routes (Pass cost) = cost_stays p.kind cost
verdict_stays p routes (Broken rule r i s) = broken_by_stays p routes (rule_of rule) r i s

scope_stays : (number all : ℕ) → Stays (scope_text number all)
unfolding one_route word
scope_stays number all =
    let first = word_and_number words.OneRoute number in
    let of_all = word_and_number words.OfRoutes all in
    stays_if (number == 0) [] (first ++ of_all ++ word words.OfPlan) (λ n os. refl)
    (stays_with (first ++ of_all) (word words.OfPlan) (stays_with first of_all (value_stays words.OneRoute number (λ n os. refl)) (value_stays words.OfRoutes all (λ n os. refl))) (λ n os. refl))

title_begins : (verdict : Verdict) (n : List ℕ) (os : List (List ℕ)) → Goes (inside (n ∷ os)) (title_start verdict) (inside (codes "text" ∷ n ∷ os))
unfolding title_start fixed style
title_begins (Pass cost) n os = refl
title_begins (Broken rule r i s) n os = refl

title_stays : (p : Instance) (routes : List (List ℕ)) (verdict : Verdict) (number : ℕ) → Stays (title_text p routes verdict number)
unfolding title_text
title_stays p routes verdict number n os =
    let a = inside (n ∷ os) in
    let name = codes "text" in
    let head = title_start verdict in
    let scope = scope_text number (length routes) in
    let words = verdict_text p routes verdict in
    goes_on a (head ++ scope ++ words) (fixed tags.TextEnd)
    (goes_on a (head ++ scope) words (goes_on a head scope (title_begins verdict n os) (scope_stays number (length routes) name (n ∷ os)))
    (verdict_stays p routes verdict name (n ∷ os))) (text_ends n os)

unserved_stays : (count : ℕ) → Stays (unserved_text count)
unfolding unserved_text fixed word
unserved_stays count =
    stays_if (count == 0) [] (fixed tags.UnservedCount ++ word_and_number words.Unserved count ++ fixed tags.TextEnd) (λ n os. refl)
    (λ n os. goes_on (inside (n ∷ os)) (fixed tags.UnservedCount ++ word_and_number words.Unserved count) (fixed tags.TextEnd)
    (goes_on (inside (n ∷ os)) (fixed tags.UnservedCount) (word_and_number words.Unserved count) refl
    (value_stays words.Unserved count (λ m ms. refl) (codes "text") (n ∷ os))) (text_ends n os))

drawn_stays : (p : Instance) (stops : List Stop) (first : ℕ) (routes : List (List ℕ)) (verdict : Verdict) → Stays (map_and_table_text p stops first routes verdict)
unfolding map_and_table_text
drawn_stays p stops first routes verdict =
    let the_map = map_text p stops first routes (broken_route verdict) (broken_stop verdict) in
    let rows = rows_text p (grid_of p.kind (length routes)) (broken_route verdict) first routes in
    stays_with (the_map ++ rows) (days_text p.kind p routes)
    (stays_with the_map rows (map_stays (framed (bounds_of p.depot stops)) p stops first routes (broken_route verdict) (broken_stop verdict))
    (rows_stay p (grid_of p.kind (length routes)) (broken_route verdict) first routes)) (days_stay p.kind p routes)

sized_opens : (p : Instance) (rows : ℕ) → Goes outside (sized_head p rows) (inside picture_names)
sized_opens p rows = head_opens p.kind (1130 + (grid_of p.kind rows).pitch * (grid_of p.kind rows).rows)

-- a text that ends within the picture's own element is well-formed with the end tag of this element
ended_text : (t : List ℕ) → Goes outside t (inside picture_names) → IsWellFormed (t ++ fixed tags.End)
unfolding fixed
ended_text t within = goes_on outside t (fixed tags.End) within refl

pub pictures_are_well_formed : PicturesAreWellFormed
unfolding whole_text
pictures_are_well_formed p routes verdict =
    let kept = map (kept_of p) routes in
    let stops = stops_in_order p in
    let head = sized_head p (length kept) in
    let title = title_text p kept verdict 0 in
    let count = unserved_text (length (unserved kept stops)) in
    let drawn = map_and_table_text p stops 1 kept verdict in
    let name = codes "svg" in
    ended_text (head ++ title ++ count ++ drawn)
    (goes_on outside (head ++ title ++ count) drawn (goes_on outside (head ++ title) count
    (goes_on outside head title (sized_opens p (length kept)) (title_stays p kept verdict 0 name []))
    (unserved_stays (length (unserved kept stops)) name [])) (drawn_stays p stops 1 kept verdict name []))

one_well_formed : (p : Instance) (kept : List (List ℕ)) (verdict : Verdict) (number : ℕ) (route : List ℕ) → IsWellFormed (route_text p kept verdict number route ++ fixed tags.End)
unfolding route_text
one_well_formed p kept verdict number route =
    let head = sized_head p 1 in
    let title = title_text p kept verdict number in
    let drawn = map_and_table_text p (stops_along p route) number (route ∷ []) verdict in
    let name = codes "svg" in
    ended_text (head ++ title ++ drawn) (goes_on outside (head ++ title) drawn
    (goes_on outside head title (sized_opens p 1) (title_stays p kept verdict number name []))
    (drawn_stays p (stops_along p route) number (route ∷ []) verdict name []))

pub route_pictures_are_well_formed : RoutePicturesAreWellFormed
route_pictures_are_well_formed p routes verdict number = by (item_at (map (kept_of p) routes) number)
  where
    by : (o : Option (List ℕ)) → IfSome (option_map (λ route. route_text p (map (kept_of p) routes) verdict number route ++ fixed tags.End) o) IsWellFormed
    by None = tt
    by (Some route) = one_well_formed p (map (kept_of p) routes) verdict number route
