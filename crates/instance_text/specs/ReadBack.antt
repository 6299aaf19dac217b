-- The problem that a written text reads back as.
use Rattle.std.specs.Prelude.{◌≡◌, ℕ, ◌+◌, ◌-◌, true, List, [], ◌∷◌, length}
use Rattle.plan_types.specs.Instance.{Instance, IsInstance}
use Rattle.plan_types.specs.declared.requests.Kind.{Kind}
use Rattle.plan_types.specs.declared.requests.Kind.TheVariants.{LiLim, Vrp}
use Rattle.plan_types.specs.declared.requests.Stop.{Stop}
use Rattle.instance_read.specs.Readings.{SpellsInstance}
use Rattle.instance_text.specs.Formats.{has_format, text_format}
use Rattle.instance_text.specs.Texts.{instance_text, stops_from}

-- the number of the last of these stops
abbrev pub last_of : Stop → List Stop → ℕ
last_of s [] = s.number
last_of s (t ∷ ts) = last_of t ts

-- the number of the last stop, or 0 if there is only the depot
abbrev pub last_number : Instance → ℕ
last_number p = last_of p.depot (stops_from p 1 (p.next_number - 1))

-- the problem itself, except that numbers after the last stop are free again, and that a `.vrp` text has one
-- vehicle per customer
abbrev pub read_by : Kind → Instance → Instance
read_by LiLim p = record p { next_number = last_number p + 1 }
read_by Vrp p = record p { fleet = length p.requests; next_number = length p.requests + 1 }

abbrev pub as_read : Instance → Instance
as_read p = read_by p.kind p

-- law: if the format can express a problem, its text spells the problem
abbrev pub TextsAreReadBack : Type 0
TextsAreReadBack = (p : Instance) → IsInstance p → has_format p ≡ true → SpellsInstance (text_format p) (instance_text p) (as_read p)
