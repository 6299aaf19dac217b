-- The map: pairs, the legs of each route, a mark for each stop, rings around unserved stops and around the stop
-- that breaks a rule, and numbers.
use Rattle.std.specs.Prelude.{ℕ, ◌-◌, ◌*◌, ◌/◌, ◌==◌, ◌||◌, nat_le, max, Bool, List, [], ◌∷◌, ◌++◌, is_some, if◌then◌else◌}
use Rattle.std.specs.List.{flat_map}
use Rattle.std.specs.Option.{option_and_then, option_map_or}
use Rattle.plan_types.specs.Instance.{Instance, partner_at, pickup_at}
use Rattle.plan_types.specs.declared.requests.Stop.{Stop}
use Rattle.route_sched.specs.declared.visits.Visit.{Visit}
use Rattle.plan_picture.specs.Frame.{absolute_difference, bounds_of, framed, arrow_point, point_of}
use Rattle.plan_picture.specs.DrawnStops.{stop_among, unserved, visits_of}
use Rattle.plan_picture.specs.Labels.{labels_of, quarters}
use Rattle.plan_picture.specs.Svg.{at_text, attribute, broken_class, colour, each, numbered, placed_tag}
use Rattle.plan_picture.specs.Tags.{fixed}
use Rattle.plan_picture.specs.declared.frame.Frame.{Frame}
use Rattle.plan_picture.specs.declared.frame.Point.{Point}
use Rattle.plan_picture.specs.declared.labels.Area.{Area}
use Rattle.plan_picture.specs.declared.labels.Label.{Label}
use Rattle.plan_picture.specs.declared.labels.LabelKind.{LabelKind}
use Rattle.plan_picture.specs.declared.labels.LabelKind.TheVariants.{Mark, Badge, Number}
use Rattle.plan_picture.specs.declared.tags.Tag.{Tag}
use Rattle.plan_picture.specs.declared.tags.Tag.TheVariants as tags

-- a line from one stop to another
unfoldable pub join_text : Frame → Stop → Stop → List ℕ
join_text f a b = fixed tags.Leg ++ at_text (point_of f a) ++ at_text (point_of f b) ++ fixed tags.LineEnd

-- the line between a delivery and its pickup, if both are drawn
abbrev pub pair_text : Instance → Frame → List Stop → Stop → List ℕ
pair_text p f stops s =
    option_map_or (λ a. join_text f a s) (option_and_then (λ n. stop_among n stops) (pickup_at p s.number)) []

unfoldable pub pairs_text : Instance → Frame → List Stop → List ℕ
pairs_text p f stops = fixed tags.Pairs ++ flat_map (pair_text p f stops) stops ++ fixed tags.GroupEnd

-- legs of at least 14 units, across or down, have an arrow
unfoldable pub has_arrow : Frame → Point → Point → Bool
has_arrow f a b = nat_le (14 * f.unit) (max (absolute_difference a.x b.x) (absolute_difference a.y b.y))

-- the point of a leg's arrow, if the leg is long enough
abbrev pub arrow_text : Frame → Point → Point → List ℕ
arrow_text f a b = if has_arrow f a b then at_text (arrow_point a b) else []

-- a leg to or from the depot is pale
abbrev pub leg_head : Stop → Stop → Tag
leg_head a b = if (a.number == 0) || (b.number == 0) then tags.DepotLeg else tags.Leg

-- a leg from one stop to the next: the points of both stops, and the arrow's point between them
unfoldable pub leg_text : Frame → Stop → Stop → List ℕ
leg_text f a b =
    fixed (leg_head a b) ++ at_text (point_of f a) ++ arrow_text f (point_of f a) (point_of f b) ++ (at_text (point_of f b) ++ fixed tags.LineEnd)

-- the legs to these visits, one after the other
abbrev pub legs_text : Frame → Stop → List Visit → List ℕ
legs_text f last [] = []
legs_text f last (v ∷ visits) = leg_text f last v.stop ++ legs_text f v.stop visits

-- the beginning of a route's group: a class if the route is the broken one, and its colour
unfoldable pub line_head : ℕ → ℕ → List ℕ
line_head broken number = fixed tags.Route ++ broken_class broken number ++ colour tags.Stroke number ++ fixed tags.Open

-- the legs of a route
unfoldable pub line_text : Instance → Frame → ℕ → ℕ → List ℕ → List ℕ
line_text p f broken number route = line_head broken number ++ legs_text f p.depot (visits_of p route) ++ fixed tags.GroupEnd

unfoldable pub lines_text : Instance → Frame → ℕ → ℕ → List (List ℕ) → List ℕ
lines_text p f broken first routes =
    fixed tags.Legs ++ each (line_text p f broken) first routes ++ fixed tags.GroupEnd

-- a shape at the stop, with the stop's number as its title
unfoldable pub mark_text : Tag → Frame → Stop → List ℕ
mark_text shape f s = placed_tag shape (point_of f s) ++ numbered tags.MarkTitle s.number ++ fixed tags.MarkEnd

abbrev pub is_delivery : Instance → Stop → Bool
is_delivery p s = is_some (pickup_at p s.number)

-- pickups and single stops are in the lower layer and deliveries in the upper one, so that two at one place are
-- both seen
abbrev pub lower_shape : Instance → Stop → Tag
lower_shape p s = if is_some (partner_at p s.number) then tags.PickupMark else tags.StopMark

abbrev pub lower_mark : Instance → Frame → Stop → List ℕ
lower_mark p f s = if is_delivery p s then [] else mark_text (lower_shape p s) f s

abbrev pub upper_mark : Instance → Frame → Stop → List ℕ
upper_mark p f s = if is_delivery p s then mark_text tags.DeliveryMark f s else []

-- the ring around the stop that breaks a rule, if that stop is drawn
abbrev pub ring_text : Frame → List Stop → ℕ → List ℕ
ring_text f stops n = option_map_or (mark_text tags.BrokenMark f) (stop_among n stops) []

unfoldable pub rings_text : Frame → List Stop → List Stop → ℕ → List ℕ
rings_text f stops left broken = flat_map (mark_text tags.UnservedMark f) left ++ ring_text f stops broken

unfoldable pub marks_text : Instance → Frame → List Stop → List ℕ
marks_text p f stops =
    mark_text tags.DepotMark f p.depot ++ flat_map (lower_mark p f) stops ++ flat_map (upper_mark p f) stops

-- The width and the height of the background box of a route's number
unfoldable pub box_size : Area → List ℕ
box_size a = attribute tags.Width (a.right - a.left) ++ attribute tags.Height (a.bottom - a.top)

unfoldable pub box_text : ℕ → Area → List ℕ
box_text n a =
    placed_tag tags.BadgeBox (record { x = a.left; y = a.top }) ++ box_size a ++ colour tags.Fill n ++ fixed tags.Close

-- the baseline of a number: in the middle of its area, k quarters of the unit above its lower edge
abbrev pub baseline_of : Frame → ℕ → Area → Point
baseline_of f k a = record { x = a.right - (a.right - a.left) / 2; y = a.bottom - quarters f k }

unfoldable pub number_text : Frame → Tag → ℕ → ℕ → Area → List ℕ
number_text f t k n a = placed_tag t (baseline_of f k a) ++ numbered tags.TagEnd n ++ fixed tags.TextEnd

unfoldable pub badge_text : Frame → ℕ → Area → List ℕ
badge_text f n a = box_text n a ++ number_text f tags.Badge 5 n a

abbrev pub label_kind_text : Frame → LabelKind → ℕ → Area → List ℕ
label_kind_text f Mark n a = []
label_kind_text f Badge n a = badge_text f n a
label_kind_text f Number n a = number_text f tags.Number 2 n a

abbrev pub label_text : Frame → Label → List ℕ
label_text f l = label_kind_text f l.kind l.number l.area

unfoldable pub labels_text : Frame → List Label → List ℕ
labels_text f labels = fixed tags.Labels ++ flat_map (label_text f) labels ++ fixed tags.MapEnd

-- the frame's size, and the unit as the size of letters
unfoldable pub opening_text : Frame → List ℕ
opening_text f =
    numbered tags.Map f.width ++ numbered tags.Blank f.height ++ attribute tags.Letters f.unit ++ fixed tags.Open

-- the lines of the map in this frame
unfoldable pub lower_layer_text : Instance → Frame → List Stop → ℕ → List (List ℕ) → ℕ → List ℕ
lower_layer_text p f stops first routes broken =
    opening_text f ++ pairs_text p f stops ++ lines_text p f broken first routes

-- what is drawn above the lines
unfoldable pub upper_layer_text : Instance → Frame → List Stop → ℕ → List (List ℕ) → ℕ → List ℕ
upper_layer_text p f stops first routes broken =
    marks_text p f stops ++ rings_text f stops (unserved routes stops) broken ++ labels_text f (labels_of p f first routes stops)

-- the map of these stops and routes. The first route has the number `first`. The last two numbers are those of
-- the route and the stop that break a rule.
unfoldable pub map_in : Frame → Instance → List Stop → ℕ → List (List ℕ) → ℕ → ℕ → List ℕ
map_in f p stops first routes route stop =
    lower_layer_text p f stops first routes route ++ upper_layer_text p f stops first routes stop

abbrev pub map_text : Instance → List Stop → ℕ → List (List ℕ) → ℕ → ℕ → List ℕ
map_text p stops first routes route stop = map_in (framed (bounds_of p.depot stops)) p stops first routes route stop
