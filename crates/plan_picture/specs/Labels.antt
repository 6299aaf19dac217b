-- The positions of the numbers of routes and stops: each at the first position around its mark that covers no
-- mark and no number placed before. If there is none, the number is left out.
use Rattle.std.specs.Prelude.{ℕ, ◌+◌, ◌-◌, ◌*◌, ◌/◌, nat_lt, nat_le, ◌&&◌, not, Bool, true, false, List, [], ◌∷◌, ◌++◌, Option, Some, None, if◌then◌else◌, take, drop, length}
use Rattle.std.specs.Option.{option_or}
use Rattle.plan_types.specs.Instance.{Instance}
use Rattle.plan_types.specs.declared.requests.Stop.{Stop}
use Rattle.plan_picture.specs.Frame.{point_of}
use Rattle.plan_picture.specs.DrawnStops.{stops_along}
use Rattle.plan_picture.specs.Svg.{digit_count}
use Rattle.plan_picture.specs.declared.frame.Frame.{Frame}
use Rattle.plan_picture.specs.declared.labels.Area.{Area}
use Rattle.plan_picture.specs.declared.labels.Extent.{Extent}
use Rattle.plan_picture.specs.declared.labels.Label.{Label}
use Rattle.plan_picture.specs.declared.labels.LabelKind.{LabelKind}
use Rattle.plan_picture.specs.declared.labels.LabelKind.TheVariants.{Mark, Badge, Number}
use Rattle.plan_picture.specs.declared.labels.Span.{Span}

-- k quarters of the unit
abbrev pub quarters : Frame → ℕ → ℕ
quarters f k = k * f.unit / 4

-- the interval from k quarters before a coordinate to k quarters after it
abbrev pub span_around : Frame → ℕ → ℕ → Span
span_around f k at = record { first = at - quarters f k; last = at + quarters f k }

-- the interval that ends a gap before a coordinate, or begins a gap after it, and is twice `half` long
abbrev pub span_before : Frame → ℕ → ℕ → ℕ → Span
span_before f gap half at = record { first = at - quarters f (gap + 2 * half); last = at - quarters f gap }

abbrev pub span_after : Frame → ℕ → ℕ → ℕ → Span
span_after f gap half at = record { first = at + quarters f gap; last = at + quarters f (gap + 2 * half) }

abbrev pub area_of : Span → Span → Area
area_of across down = record { left = across.first; right = across.last; top = down.first; bottom = down.last }

-- the area of a mark
abbrev pub area_on : Frame → ℕ → Stop → Area
area_on f k s = area_of (span_around f k (point_of f s).x) (span_around f k (point_of f s).y)

-- the areas above, to the right, below and to the left of a mark
abbrev pub area_above : Frame → Extent → Stop → Area
area_above f e s = area_of (span_around f e.across (point_of f s).x) (span_before f e.gap e.down (point_of f s).y)

abbrev pub area_right : Frame → Extent → Stop → Area
area_right f e s = area_of (span_after f e.gap e.across (point_of f s).x) (span_around f e.down (point_of f s).y)

abbrev pub area_below : Frame → Extent → Stop → Area
area_below f e s = area_of (span_around f e.across (point_of f s).x) (span_after f e.gap e.down (point_of f s).y)

abbrev pub area_left : Frame → Extent → Stop → Area
area_left f e s = area_of (span_before f e.gap e.across (point_of f s).x) (span_around f e.down (point_of f s).y)

-- two areas overlap
abbrev pub overlaps : Area → Area → Bool
overlaps a b = nat_lt a.left b.right && nat_lt b.left a.right && nat_lt a.top b.bottom && nat_lt b.top a.bottom

-- an area is within the frame
abbrev pub is_within : Frame → Area → Bool
is_within f a = nat_lt 0 a.left && nat_le a.right f.width && nat_lt 0 a.top && nat_le a.bottom f.height

-- an area covers something that was placed before
abbrev pub covers : Area → List Label → Bool
covers a [] = false
covers a (l ∷ labels) = if overlaps a l.area then true else covers a labels

-- an area is within the frame and covers nothing that was placed before
unfoldable pub is_free : Frame → List Label → Area → Bool
is_free f labels a = is_within f a && not (covers a labels)

-- the first free area around a mark
unfoldable pub free_area : Frame → List Label → Extent → Stop → Option Area
free_area f labels e s =
    if is_free f labels (area_above f e s) then Some (area_above f e s)
    else if is_free f labels (area_right f e s) then Some (area_right f e s)
    else if is_free f labels (area_below f e s) then Some (area_below f e s)
    else if is_free f labels (area_left f e s) then Some (area_left f e s)
    else None

-- the extent of a stop's number, and of a route's: half its width, half its height, and its distance from the
-- middle of the mark
abbrev pub number_extent : ℕ → Extent
number_extent n = record { across = 5 * digit_count n; down = 8; gap = 12 }

abbrev pub badge_extent : ℕ → Extent
badge_extent n = record { across = 8 * digit_count n + 6; down = 12; gap = 14 }

-- the labels with one more label, if an area was found for it
abbrev pub with_label : List Label → LabelKind → ℕ → Option Area → List Label
with_label labels kind n None = labels
with_label labels kind n (Some a) = labels ++ record { kind = kind; number = n; area = a } ∷ []

-- the labels with the marks, which nothing may cover
abbrev pub with_marks : Frame → List Label → List Stop → List Label
with_marks f labels [] = labels
with_marks f labels (s ∷ stops) = with_marks f (with_label labels Mark s.number (Some (area_on f 10 s))) stops

abbrev pub mark_labels : Frame → Stop → List Stop → List Label
mark_labels f depot stops = with_marks f (with_label [] Mark 0 (Some (area_on f 17 depot))) stops

-- the first free area around any of these stops
abbrev pub free_along : Frame → List Label → Extent → List Stop → Option Area
free_along f labels e [] = None
free_along f labels e (s ∷ stops) = option_or (free_area f labels e s) (free_along f labels e stops)

-- the area for the number of a route: at a stop from the middle of the route on, otherwise at an earlier stop
abbrev pub badge_area : Frame → List Label → ℕ → List Stop → Option Area
badge_area f labels n stops =
    option_or (free_along f labels (badge_extent n) (drop (length stops / 2) stops)) (free_along f labels (badge_extent n) (take (length stops / 2) stops))

-- the labels with the numbers of the routes; the first has number n
abbrev pub with_badges : Instance → Frame → List Label → ℕ → List (List ℕ) → List Label
with_badges p f labels n [] = labels
with_badges p f labels n (route ∷ routes) = with_badges p f (with_label labels Badge n (badge_area f labels n (stops_along p route))) (n + 1) routes

-- the labels with the numbers of the stops
abbrev pub with_numbers : Frame → List Label → List Stop → List Label
with_numbers f labels [] = labels
with_numbers f labels (s ∷ stops) = with_numbers f (with_label labels Number s.number (free_area f labels (number_extent s.number) s)) stops

-- marks, numbers of routes and numbers of stops, in the order in which they are placed
abbrev pub labels_of : Instance → Frame → ℕ → List (List ℕ) → List Stop → List Label
labels_of p f first routes stops = with_numbers f (with_badges p f (mark_labels f p.depot stops) first routes) stops
