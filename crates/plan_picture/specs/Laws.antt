-- The contents of the picture: the mark of each stop, the line of each route, and in it each leg; and that it
-- is well-formed.
use Rattle.std.specs.Prelude.{◌≡◌, ℕ, ◌+◌, ◌≤◌, List, ◌++◌, length, slice_get, Some, IfSome, if◌then◌else◌}
use Rattle.plan_types.specs.Instance.{Instance, IsInstance, stop_at}
use Rattle.plan_types.specs.declared.requests.Stop.{Stop}
use Rattle.plan_audit.specs.declared.rules.Verdict.{Verdict}
use Rattle.route_sched.specs.Route.{AreDistinctStops, place}
use Rattle.plan_picture.specs.Frame.{bounds_of, framed}
use Rattle.plan_picture.specs.DrawnStops.{kept_of, stops_in_order}
use Rattle.plan_picture.specs.Map.{is_delivery, leg_text, line_text, mark_text, lower_shape}
use Rattle.plan_picture.specs.Picture.{broken_route, picture, route_picture}
use Rattle.plan_picture.specs.WellFormed.{IsWellFormed}
use Rattle.plan_picture.specs.declared.frame.Frame.{Frame}
use Rattle.plan_picture.specs.declared.tags.Tag.TheVariants as tags

-- these bytes are in the text, in one piece
abbrev pub IsIn : List ℕ → List ℕ → Type 0
IsIn part text = (before : List ℕ) × (after : List ℕ) × (text ≡ before ++ (part ++ after))

-- the frame of the depot and the stops
abbrev pub frame_of : Instance → Frame
frame_of p = framed (bounds_of p.depot (stops_in_order p))

-- the mark of a stop, which is a pickup, a delivery or a single stop
abbrev pub stop_mark : Instance → Frame → Stop → List ℕ
stop_mark p f s = mark_text (if is_delivery p s then tags.DeliveryMark else lower_shape p s) f s

-- law: each stop of the problem has its mark
abbrev pub StopsAreMarked : Type 0
StopsAreMarked = (p : Instance) (routes : List (List ℕ)) (verdict : Verdict) (n : ℕ) (s : Stop) → IsInstance p → stop_at p n ≡ Some s → IsIn (stop_mark p (frame_of p) s) (picture p routes verdict)

-- law: each route has its line, which goes through the part of the route that is drawn
abbrev pub RoutesAreDrawn : Type 0
RoutesAreDrawn = (p : Instance) (routes : List (List ℕ)) (verdict : Verdict) (r : ℕ) (route : List ℕ) → slice_get routes r ≡ Some route
    → IsIn (line_text p (frame_of p) (broken_route verdict) (r + 1) (kept_of p route)) (picture p routes verdict)

-- law: if the stops of a route are known and distinct, the whole route is drawn
abbrev pub RoutesAreKept : Type 0
RoutesAreKept = (p : Instance) (route : List ℕ) → AreDistinctStops p route → kept_of p route ≡ route

-- law: the line of a route has each leg, from place k to the next one
abbrev pub LegsAreDrawn : Type 0
LegsAreDrawn = (p : Instance) (f : Frame) (broken number : ℕ) (route : List ℕ) (k : ℕ) → k ≤ length route
    → IsIn (leg_text f (place p route k) (place p route (k + 1))) (line_text p f broken number route)

-- law: every picture is well-formed
abbrev pub PicturesAreWellFormed : Type 0
PicturesAreWellFormed = (p : Instance) (routes : List (List ℕ)) (verdict : Verdict) → IsWellFormed (picture p routes verdict)

abbrev pub RoutePicturesAreWellFormed : Type 0
RoutePicturesAreWellFormed = (p : Instance) (routes : List (List ℕ)) (verdict : Verdict) (number : ℕ) → IfSome (route_picture p routes verdict number) IsWellFormed
