-- The problem that a text spells with a scale, from the problem that it spells with scale 1.
use Rattle.std.specs.Prelude.{◌≡◌, ◌↔◌, ℕ, List, map, ℤ}
use Rattle.plan_types.specs.Instance.{Instance}
use Rattle.plan_types.specs.declared.requests.Kind.{Kind}
use Rattle.plan_types.specs.declared.requests.Kind.TheVariants.{LiLim, Vrp}
use Rattle.plan_types.specs.declared.requests.Request.{Request}
use Rattle.plan_types.specs.declared.requests.Request.TheVariants.{Single, Pair}
use Rattle.plan_types.specs.declared.requests.Stop.{Stop}
use Rattle.instance_read.specs.declared.formats.Format.{Format}
use Rattle.instance_read.specs.declared.scales.Scale.{Scale}
use Rattle.instance_read.specs.declared.scales.Scale.TheVariants.{One}
use Rattle.instance_read.specs.Faults.{HasNoFault}
use Rattle.instance_read.specs.Fields.{is_beyond}
use Rattle.instance_read.specs.Readings.{InstanceFault, SpellsInstance}
use Rattle.instance_read.specs.Scales.{coordinate_range, scaled_stop, service_range, time_range, times_ℤ}

-- the stop with its coordinates times the scale
abbrev pub scaled_node : Scale → Stop → Stop
scaled_node scale s = record s { x = times_ℤ scale s.x; y = times_ℤ scale s.y }

-- the stop of a problem of this kind, times the scale; kind `Vrp` has no time windows and no service times
abbrev pub scaled_visit : Scale → Kind → Stop → Stop
scaled_visit scale LiLim s = scaled_stop scale s
scaled_visit scale Vrp s = scaled_node scale s

abbrev pub scaled_request : Scale → Kind → Request → Request
scaled_request scale kind (Single s) = Single (scaled_visit scale kind s)
scaled_request scale kind (Pair a b) = Pair (scaled_visit scale kind a) (scaled_visit scale kind b)

abbrev pub scaled_entry : Scale → Kind → ℕ × Request → ℕ × Request
scaled_entry scale kind e = (e.0, scaled_request scale kind e.1)

-- the problem with the coordinates, time windows and service times of its stops times the scale
abbrev pub scaled_problem : Scale → Instance → Instance
scaled_problem scale p = record p { depot = scaled_visit scale p.kind p.depot; requests = map (scaled_entry scale p.kind) p.requests }

-- the same format with scale 1
abbrev pub unscaled : Format → Format
unscaled format = record format { scale = One }

-- law: a text spells a problem with a scale exactly if it has no fault with this scale, and the problem is the one
-- that it spells with scale 1, times the scale
abbrev pub ScaledTextsSpellScaledProblems : Type 0
ScaledTextsSpellScaledProblems = (format : Format) (text : List ℕ) (p : Instance)
    → SpellsInstance format text p
    ↔ (HasNoFault (InstanceFault format text) × (q : Instance) × SpellsInstance (unscaled format) text q × (p ≡ scaled_problem format.scale q))

-- a number is beyond the limits of a text with this scale exactly if its product with the scale is beyond those of
-- scale 1
abbrev pub FollowsTheScale : (Scale → ℤ × ℤ) → Type 0
FollowsTheScale range = (scale : Scale) (z : ℤ) → is_beyond (range scale) z ≡ is_beyond (range One) (times_ℤ scale z)

-- law: so it is for coordinates, for the ends of time windows, and for service times
pub record RangesFollowTheScale : Type 0 where
  pub coordinate : FollowsTheScale coordinate_range
  pub time : FollowsTheScale time_range
  pub service : FollowsTheScale service_range
