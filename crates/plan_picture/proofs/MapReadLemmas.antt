-- The map is well-formed.
use Rattle.std.proofs.Common.{ℕ, ◌-◌, Bool, true, false, List, [], ◌∷◌, ◌++◌, Option, Some, None, refl, codes}
use Rattle.std.specs.Prelude.{◌==◌, ◌||◌, is_some, if◌then◌else◌}
use Rattle.std.specs.List.{flat_map}
use Rattle.std.specs.Option.{option_and_then, option_map_or}
use Rattle.plan_types.specs.Instance.{Instance, partner_at, pickup_at}
use Rattle.plan_types.specs.declared.requests.Stop.{Stop}
use Rattle.route_sched.specs.declared.visits.Visit.{Visit}
use Rattle.plan_picture.specs.Frame.{arrow_point, point_of}
use Rattle.plan_picture.specs.DrawnStops.{stop_among, unserved, visits_of}
use Rattle.plan_picture.specs.Labels.{labels_of}
use Rattle.plan_picture.specs.Map.{
  arrow_text,
  badge_text,
  box_size,
  box_text,
  baseline_of,
  has_arrow,
  is_delivery,
  join_text,
  label_kind_text,
  label_text,
  labels_text,
  leg_head,
  leg_text,
  legs_text,
  line_head,
  line_text,
  lines_text,
  map_in,
  mark_text,
  marks_text,
  number_text,
  opening_text,
  upper_mark,
  upper_layer_text,
  pair_text,
  pairs_text,
  ring_text,
  rings_text,
  lower_mark,
  lower_shape,
  lower_layer_text,
}
use Rattle.plan_picture.specs.Svg.{at_text, attribute, broken_class, colour, each, numbered, placed_tag}
use Rattle.plan_picture.specs.Tags.{fixed}
use Rattle.plan_picture.specs.WellFormed.{inside, named as in_name, quoted, unquoted}
use Rattle.plan_picture.specs.declared.frame.Frame.{Frame}
use Rattle.plan_picture.specs.declared.frame.Point.{Point}
use Rattle.plan_picture.specs.declared.labels.Area.{Area}
use Rattle.plan_picture.specs.declared.labels.Label.{Label}
use Rattle.plan_picture.specs.declared.labels.LabelKind.{LabelKind}
use Rattle.plan_picture.specs.declared.labels.LabelKind.TheVariants.{Mark, Badge, Number}
use Rattle.plan_picture.specs.declared.tags.Tag.{Tag}
use Rattle.plan_picture.specs.declared.tags.Tag.TheVariants as tags
use Rattle.plan_picture.proofs.PieceLemmas.{
  at_goes,
  attribute_goes,
  BeginsText,
  colour_goes,
  group_ends,
  group_stays,
  height_goes,
  numbered_goes,
  number_goes,
  placed_goes,
  tag_closes,
  text_ends,
  width_goes,
}
use Rattle.plan_picture.proofs.ReadLemmas.{Goes, goes_on, inside_keeps, quoted_keeps, Stays, stays_all, stays_each, stays_if, stays_with}

-- an optional text between tags leaves the open elements as they were
pub stays_maybe : {X : Type 0} (f : X → List ℕ) (o : Option X) → ((x : X) → Stays (f x)) → Stays (option_map_or f o [])
stays_maybe f None stays = λ n os. refl
stays_maybe f (Some x) stays = stays x

abbrev line : List ℕ
line = codes "polyline"

line_ends : (n : List ℕ) (os : List (List ℕ)) → Goes (quoted line (n ∷ os)) (fixed tags.LineEnd) (inside (n ∷ os))
unfolding fixed
line_ends n os = refl

join_stays : (f : Frame) (a b : Stop) → Stays (join_text f a b)
unfolding join_text fixed
join_stays f a b n os =
    let start = inside (n ∷ os) in
    let first = at_text (point_of f a) in
    let second = at_text (point_of f b) in
    goes_on start (fixed tags.Leg ++ first ++ second) (fixed tags.LineEnd)
    (goes_on start (fixed tags.Leg ++ first) second (goes_on start (fixed tags.Leg) first refl (at_goes line (n ∷ os) (point_of f a))) (at_goes line (n ∷ os) (point_of f b))) (line_ends n os)

pairs_stay : (p : Instance) (f : Frame) (stops : List Stop) → Stays (pairs_text p f stops)
unfolding pairs_text fixed
pairs_stay p f stops =
    group_stays (fixed tags.Pairs) (flat_map (pair_text p f stops) stops) (λ n os. refl)
    (stays_all (pair_text p f stops) stops (λ s. stays_maybe (λ a. join_text f a s) (option_and_then (λ m. stop_among m stops) (pickup_at p s.number)) (λ a. join_stays f a s)))

leg_begins : (c : Bool) (n : List ℕ) (os : List (List ℕ)) → Goes (inside (n ∷ os)) (fixed (if c then tags.DepotLeg else tags.Leg)) (quoted line (n ∷ os))
unfolding fixed
leg_begins true n os = refl
leg_begins false n os = refl

arrow_goes : (c : Bool) (n : List ℕ) (os : List (List ℕ)) (a : Point) → Goes (quoted n os) (if c then at_text a else []) (quoted n os)
arrow_goes true n os a = at_goes n os a
arrow_goes false n os a = refl

leg_stays : (f : Frame) (a b : Stop) → Stays (leg_text f a b)
unfolding leg_text
leg_stays f a b n os =
    let start = inside (n ∷ os) in
    let head = fixed (leg_head a b) in
    let first = at_text (point_of f a) in
    let arrow = arrow_text f (point_of f a) (point_of f b) in
    let second = at_text (point_of f b) in
    goes_on start (head ++ first ++ arrow) (second ++ fixed tags.LineEnd)
    (goes_on start (head ++ first) arrow (goes_on start head first (leg_begins ((a.number == 0) || (b.number == 0)) n os)
    (at_goes line (n ∷ os) (point_of f a))) (arrow_goes (has_arrow f (point_of f a) (point_of f b)) line (n ∷ os)
    (arrow_point (point_of f a) (point_of f b))))
    (goes_on (quoted line (n ∷ os)) second (fixed tags.LineEnd) (at_goes line (n ∷ os) (point_of f b)) (line_ends n os))

legs_stay : (f : Frame) (last : Stop) (visits : List Visit) → Stays (legs_text f last visits)
legs_stay f last [] = λ n os. refl
legs_stay f last (v ∷ visits) = stays_with (leg_text f last v.stop) (legs_text f v.stop visits) (leg_stays f last v.stop) (legs_stay f v.stop visits)

-- the beginning of a route's line opens a group
line_opens : (broken number : ℕ) (n : List ℕ) (os : List (List ℕ)) → Goes (inside (n ∷ os)) (line_head broken number) (inside (codes "g" ∷ n ∷ os))
unfolding line_head broken_class fixed
line_opens broken number n os = by (number == broken)
  where
    by : (c : Bool) → Goes (inside (n ∷ os)) (fixed tags.Route ++ (if c then fixed tags.BrokenClass else []) ++ colour tags.Stroke number ++ fixed tags.Open) (inside (codes "g" ∷ n ∷ os))
    by true =
        let a = inside (n ∷ os) in
        let head = fixed tags.Route ++ fixed tags.BrokenClass in
        goes_on a (head ++ colour tags.Stroke number) (fixed tags.Open)
        (goes_on a head (colour tags.Stroke number) (goes_on a (fixed tags.Route) (fixed tags.BrokenClass) refl refl)
        (colour_goes (unquoted (codes "g") (n ∷ os)) (codes "g") (n ∷ os) tags.Stroke number refl)) refl
    by false =
        let a = inside (n ∷ os) in
        let head = fixed tags.Route ++ [] in
        goes_on a (head ++ colour tags.Stroke number) (fixed tags.Open)
        (goes_on a head (colour tags.Stroke number) (goes_on a (fixed tags.Route) [] refl refl) (colour_goes (in_name (codes "g") (n ∷ os)) (codes "g") (n ∷ os) tags.Stroke number refl)) refl

line_stays : (p : Instance) (f : Frame) (broken number : ℕ) (route : List ℕ) → Stays (line_text p f broken number route)
unfolding line_text
line_stays p f broken number route n os =
    let a = inside (n ∷ os) in
    let legs = legs_text f p.depot (visits_of p route) in
    goes_on a (line_head broken number ++ legs) (fixed tags.GroupEnd)
    (goes_on a (line_head broken number) legs (line_opens broken number n os) (legs_stay f p.depot (visits_of p route) (codes "g") (n ∷ os))) (group_ends n os)

lines_stay : (p : Instance) (f : Frame) (broken first : ℕ) (routes : List (List ℕ)) → Stays (lines_text p f broken first routes)
unfolding lines_text fixed
lines_stay p f broken first routes =
    group_stays (fixed tags.Legs) (each (line_text p f broken) first routes) (λ n os. refl) (stays_each (line_text p f broken) first routes (line_stays p f broken))

-- this text begins an element `use`
abbrev BeginsMark : Tag → Type 0
BeginsMark t = (n : List ℕ) (os : List (List ℕ)) → Goes (inside (n ∷ os)) (fixed t) (unquoted (codes "use") (n ∷ os))

mark_stays : (t : Tag) (f : Frame) (s : Stop) → BeginsMark t → Stays (mark_text t f s)
unfolding mark_text fixed
mark_stays t f s begins n os =
    let a = inside (n ∷ os) in
    let name = codes "use" in
    let within = inside (codes "title" ∷ name ∷ n ∷ os) in
    goes_on a (placed_tag t (point_of f s) ++ numbered tags.MarkTitle s.number) (fixed tags.MarkEnd)
    (goes_on a (placed_tag t (point_of f s)) (numbered tags.MarkTitle s.number) (placed_goes a name (n ∷ os) t (point_of f s) (begins n os))
    (numbered_goes (unquoted name (n ∷ os)) within tags.MarkTitle s.number (inside_keeps (codes "title" ∷ name ∷ n ∷ os)) refl)) refl

begins_if : (c : Bool) (t u : Tag) → BeginsMark t → BeginsMark u → BeginsMark (if c then t else u)
begins_if true t u first next = first
begins_if false t u first next = next

under_mark_stays : (p : Instance) (f : Frame) (s : Stop) → Stays (lower_mark p f s)
unfolding fixed
under_mark_stays p f s =
    stays_if (is_delivery p s) [] (mark_text (lower_shape p s) f s) (λ n os. refl)
    (mark_stays (lower_shape p s) f s (begins_if (is_some (partner_at p s.number)) tags.PickupMark tags.StopMark (λ n os. refl) (λ n os. refl)))

over_mark_stays : (p : Instance) (f : Frame) (s : Stop) → Stays (upper_mark p f s)
unfolding fixed
over_mark_stays p f s =
    stays_if (is_delivery p s) (mark_text tags.DeliveryMark f s) [] (mark_stays tags.DeliveryMark f s (λ n os. refl)) (λ n os. refl)

marks_stay : (p : Instance) (f : Frame) (stops : List Stop) → Stays (marks_text p f stops)
unfolding marks_text fixed
marks_stay p f stops =
    let depot = mark_text tags.DepotMark f p.depot in
    let under = flat_map (lower_mark p f) stops in
    stays_with (depot ++ under) (flat_map (upper_mark p f) stops)
    (stays_with depot under (mark_stays tags.DepotMark f p.depot (λ n os. refl)) (stays_all (lower_mark p f) stops (under_mark_stays p f))) (stays_all (upper_mark p f) stops (over_mark_stays p f))

rings_stay : (f : Frame) (stops left : List Stop) (broken : ℕ) → Stays (rings_text f stops left broken)
unfolding rings_text fixed
rings_stay f stops left broken =
    stays_with (flat_map (mark_text tags.UnservedMark f) left) (ring_text f stops broken) (stays_all (mark_text tags.UnservedMark f) left (λ s. mark_stays tags.UnservedMark f s (λ n os. refl)))
    (stays_maybe (mark_text tags.BrokenMark f) (stop_among broken stops) (λ s. mark_stays tags.BrokenMark f s (λ n os. refl)))

box_stays : (k : ℕ) (a : Area) → Stays (box_text k a)
unfolding box_text box_size fixed
box_stays k a n os =
    let start = inside (n ∷ os) in
    let name = codes "rect" in
    let corner : Point = record { x = a.left; y = a.top } in
    let width = attribute tags.Width (a.right - a.left) in
    let height = attribute tags.Height (a.bottom - a.top) in
    let placed = placed_tag tags.BadgeBox corner in
    goes_on start (placed ++ (width ++ height) ++ colour tags.Fill k) (fixed tags.Close)
    (goes_on start (placed ++ (width ++ height)) (colour tags.Fill k)
    (goes_on start placed (width ++ height) (placed_goes start name (n ∷ os) tags.BadgeBox corner refl)
    (goes_on (unquoted name (n ∷ os)) width height (width_goes name (n ∷ os) (a.right - a.left)) (height_goes name (n ∷ os) (a.bottom - a.top))))
    (colour_goes (unquoted name (n ∷ os)) name (n ∷ os) tags.Fill k refl))
    (tag_closes name n os)

number_stays : (f : Frame) (t : Tag) (j k : ℕ) (a : Area) → BeginsText t → Stays (number_text f t j k a)
unfolding number_text
number_stays f t j k a begins n os =
    let start = inside (n ∷ os) in
    let name = codes "text" in
    goes_on start (placed_tag t (baseline_of f j a) ++ numbered tags.TagEnd k) (fixed tags.TextEnd)
    (goes_on start (placed_tag t (baseline_of f j a)) (numbered tags.TagEnd k) (placed_goes start name (n ∷ os) t (baseline_of f j a) (begins n os)) (number_goes name n os k)) (text_ends n os)

label_stays : (f : Frame) (kind : LabelKind) (k : ℕ) (a : Area) → Stays (label_kind_text f kind k a)
unfolding badge_text fixed
label_stays f Mark k a = λ n os. refl
label_stays f Badge k a = stays_with (box_text k a) (number_text f tags.Badge 5 k a) (box_stays k a) (number_stays f tags.Badge 5 k a (λ n os. refl))
label_stays f Number k a = number_stays f tags.Number 2 k a (λ n os. refl)

-- the end of the numbers closes the map as well
labels_end : (f : Frame) (labels : List Label) (n : List ℕ) (os : List (List ℕ)) → Goes (inside (codes "svg" ∷ n ∷ os)) (labels_text f labels) (inside (n ∷ os))
unfolding labels_text fixed
labels_end f labels n os =
    let a = inside (codes "svg" ∷ n ∷ os) in
    let all = flat_map (label_text f) labels in
    goes_on a (fixed tags.Labels ++ all) (fixed tags.MapEnd)
    (goes_on a (fixed tags.Labels) all refl (stays_all (label_text f) labels (λ l. label_stays f l.kind l.number l.area) (codes "g") (codes "svg" ∷ n ∷ os))) refl

opening_opens : (f : Frame) (n : List ℕ) (os : List (List ℕ)) → Goes (inside (n ∷ os)) (opening_text f) (inside (codes "svg" ∷ n ∷ os))
unfolding opening_text fixed
opening_opens f n os =
    let a = inside (n ∷ os) in
    let name = codes "svg" in
    let keeps = quoted_keeps name (n ∷ os) in
    let width = numbered tags.Map f.width in
    let height = numbered tags.Blank f.height in
    goes_on a (width ++ height ++ attribute tags.Letters f.unit) (fixed tags.Open)
    (goes_on a (width ++ height) (attribute tags.Letters f.unit)
    (goes_on a width height (numbered_goes a (quoted name (n ∷ os)) tags.Map f.width keeps refl)
    (numbered_goes (quoted name (n ∷ os)) (quoted name (n ∷ os)) tags.Blank f.height keeps refl))
    (attribute_goes (quoted name (n ∷ os)) name (n ∷ os) tags.Letters f.unit refl)) refl

pub map_stays : (f : Frame) (p : Instance) (stops : List Stop) (first : ℕ) (routes : List (List ℕ)) (route stop : ℕ) → Stays (map_in f p stops first routes route stop)
unfolding map_in lower_layer_text upper_layer_text
map_stays f p stops first routes route stop n os =
    let a = inside (n ∷ os) in
    let name = codes "svg" in
    let in_map = inside (name ∷ n ∷ os) in
    let pairs = pairs_text p f stops in
    let lines = lines_text p f route first routes in
    let marks = marks_text p f stops in
    let rings = rings_text f stops (unserved routes stops) stop in
    let labels = labels_text f (labels_of p f first routes stops) in
    goes_on a (opening_text f ++ pairs ++ lines) (marks ++ rings ++ labels)
    (goes_on a (opening_text f ++ pairs) lines (goes_on a (opening_text f) pairs (opening_opens f n os) (pairs_stay p f stops name (n ∷ os))) (lines_stay p f route first routes name (n ∷ os)))
    (goes_on in_map (marks ++ rings) labels (goes_on in_map marks rings (marks_stay p f stops name (n ∷ os))
    (rings_stay f stops (unserved routes stops) stop name (n ∷ os))) (labels_end f (labels_of p f first routes stops) n os))
