-- The position of the stops in the picture: x grows to the right, y upward, and both are multiplied by one
-- whole number.
use Rattle.std.specs.Prelude.{ℕ, ◌+◌, ◌-◌, ◌*◌, ◌/◌, max, ℤ, ◌-ℤ◌, unsigned_abs, List, fold}
use Rattle.std.specs.Int.{div_ceil, int_max, int_min}
use Rattle.plan_types.specs.declared.requests.Stop.{Stop}
use Rattle.plan_picture.specs.declared.frame.Bounds.{Bounds}
use Rattle.plan_picture.specs.declared.frame.Frame.{Frame}
use Rattle.plan_picture.specs.declared.frame.Point.{Point}

-- the bounds of one stop
abbrev pub bounds_at : Stop → Bounds
bounds_at s = record { left = s.x; right = s.x; bottom = s.y; top = s.y }

-- the bounds extended by one more stop
abbrev pub widened : Bounds → Stop → Bounds
widened b s = record { left = int_min b.left s.x; right = int_max b.right s.x; bottom = int_min b.bottom s.y; top = int_max b.top s.y }

-- the smallest and the greatest coordinates of the depot and the stops
unfoldable pub bounds_of : Stop → List Stop → Bounds
bounds_of depot stops = fold widened (bounds_at depot) stops

-- the distance between two coordinates
abbrev pub gap : ℤ → ℤ → ℕ
gap a b = unsigned_abs (a -ℤ b)

-- the longer side, at least 1
unfoldable pub size_of : Bounds → ℕ
size_of b = max (max (gap b.left b.right) (gap b.top b.bottom)) 1

-- the smallest scale that makes the longer side at least 4000
unfoldable pub scale_of : Bounds → ℕ
scale_of b = div_ceil 4000 (size_of b)

-- a 400th of the longer side, the unit of marks, lines and letters
unfoldable pub unit_of : Bounds → ℕ
unit_of b = scale_of b * size_of b / 400

-- the frame of these bounds, with a margin of twelve units on each side
unfoldable pub framed : Bounds → Frame
framed b = record {
  left = b.left;
  top = b.top;
  scale = scale_of b;
  unit = unit_of b;
  width = scale_of b * gap b.left b.right + 24 * unit_of b;
  height = scale_of b * gap b.top b.bottom + 24 * unit_of b;
}

-- the point of a stop
unfoldable pub point_of : Frame → Stop → Point
point_of f s = record { x = 12 * f.unit + f.scale * gap s.x f.left; y = 12 * f.unit + f.scale * gap f.top s.y }

-- the difference of two numbers
abbrev pub absolute_difference : ℕ → ℕ → ℕ
absolute_difference m n = max (m - n) (n - m)

-- the point of an arrow, at three fifths of the line from one point to another, so that the two directions can
-- be distinguished
abbrev pub arrow_point : Point → Point → Point
arrow_point a b = record { x = (2 * a.x + 3 * b.x) / 5; y = (2 * a.y + 3 * b.y) / 5 }
