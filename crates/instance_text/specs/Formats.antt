-- The format of a problem's text, and the problems that it can express.
use Rattle.std.specs.Prelude.{ℕ, ◌+◌, ◌==◌, ◌&&◌, ◌||◌, nat_lt, Bool, true, false, if◌then◌else◌, List, [], ◌∷◌, length}
use Rattle.std.specs.List.{list_all}
use Rattle.plan_types.specs.Instance.{Instance}
use Rattle.plan_types.specs.declared.limits.TheConstants.{MAX_TIME}
use Rattle.plan_types.specs.declared.requests.Kind.{Kind}
use Rattle.plan_types.specs.declared.requests.Kind.TheVariants.{LiLim, Vrp}
use Rattle.plan_types.specs.declared.requests.Request.{Request}
use Rattle.plan_types.specs.declared.requests.Request.TheVariants.{Single, Pair}
use Rattle.plan_types.specs.declared.requests.Stop.{Stop}
use Rattle.instance_read.specs.declared.formats.Format.{Format}
use Rattle.instance_read.specs.declared.formats.Layout.{Layout}
use Rattle.instance_read.specs.declared.formats.Layout.TheVariants as layouts
use Rattle.instance_read.specs.declared.scales.Scale.TheVariants.{One}

abbrev pub is_pair : Request → Bool
is_pair (Single s) = false
is_pair (Pair a b) = true

abbrev pub is_single : Request → Bool
is_single (Single s) = true
is_single (Pair a b) = false

abbrev pub are_pairs : List (ℕ × Request) → Bool
are_pairs es = list_all (λ e. is_pair e.1) es

-- there are requests, and each has one stop
abbrev pub are_singles : List (ℕ × Request) → Bool
are_singles es = nat_lt 0 (length es) && list_all (λ e. is_single e.1) es

-- a stop that may be served at any time, and takes no time
abbrev pub is_open : Stop → Bool
is_open s = s.earliest == 0 && s.latest == MAX_TIME && s.service == 0

-- a single stop with this number, open at all times
abbrev pub is_customer : ℕ → Request → Bool
is_customer n (Single s) = s.number == n && is_open s
is_customer n (Pair a b) = false

-- the requests are customers with this number and the numbers after it
abbrev pub are_customers : ℕ → List (ℕ × Request) → Bool
are_customers n [] = true
are_customers n (e ∷ es) = is_customer n e.1 && are_customers (n + 1) es

-- the layout of the text of a problem of this kind: with time windows, Solomon's if there are requests and each
-- has one stop, otherwise Li and Lim's
abbrev pub layout_for : Kind → Instance → Layout
layout_for LiLim p = if are_singles p.requests then layouts.Solomon else layouts.LiLim
layout_for Vrp p = layouts.Vrp

-- the format of the problem's text, with scale 1: the text has the numbers of the problem
abbrev pub text_format : Instance → Format
text_format p = record { layout = layout_for p.kind p; scale = One }

-- in Solomon's format each request is a single, and in Li and Lim's each is a pair; in CVRPLIB's format there is
-- at least one request, each is a customer, numbered from 1, and the depot is open at all times too
abbrev pub is_expressible : Kind → Instance → Bool
is_expressible LiLim p = are_singles p.requests || are_pairs p.requests
is_expressible Vrp p = nat_lt 0 (length p.requests) && is_open p.depot && are_customers 1 p.requests

abbrev pub has_format : Instance → Bool
has_format p = is_expressible p.kind p
