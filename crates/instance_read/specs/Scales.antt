-- The scale of a text: the factor by which its coordinates, time windows and service times are multiplied as they
-- are read.
use Rattle.std.specs.Prelude.{ℕ, ◌*◌, ◌/◌, ℤ, pos, neg_ℤ, ◌*ℤ◌, map}
use Rattle.std.specs.Int.RustNames.{unsigned_abs}
use Rattle.plan_types.specs.declared.limits.TheConstants.{MAX_COORDINATE, MAX_SERVICE, MAX_TIME}
use Rattle.plan_types.specs.declared.requests.Stop.{Stop}
use Rattle.instance_read.specs.declared.scales.Scale.{Scale}
use Rattle.instance_read.specs.declared.scales.Scale.TheVariants.{One, Ten, Hundred, Thousand}

-- the number times the scale
abbrev pub times : Scale → ℕ → ℕ
times One n = n
times Ten n = n * 10
times Hundred n = n * 100
times Thousand n = n * 1000

abbrev pub times_ℤ : Scale → ℤ → ℤ
times_ℤ One z = z
times_ℤ Ten z = z *ℤ pos 10
times_ℤ Hundred z = z *ℤ pos 100
times_ℤ Thousand z = z *ℤ pos 1000

-- the greatest number whose product with the scale is at most this limit
abbrev pub unscaled_limit : Scale → ℕ → ℕ
unscaled_limit One most = most
unscaled_limit Ten most = most / 10
unscaled_limit Hundred most = most / 100
unscaled_limit Thousand most = most / 1000

-- the limits of a coordinate, of the ends of a time window, and of a service time, in the unit of the text
abbrev pub coordinate_range : Scale → ℤ × ℤ
coordinate_range scale = let most = unscaled_limit scale (unsigned_abs MAX_COORDINATE) in (neg_ℤ (pos most), pos most)

abbrev pub time_range : Scale → ℤ × ℤ
time_range scale = (pos 0, pos (unscaled_limit scale MAX_TIME))

abbrev pub service_range : Scale → ℤ × ℤ
service_range scale = (pos 0, pos (unscaled_limit scale MAX_SERVICE))

-- the stop with its coordinates, its time window and its service time times the scale; its demand stays
abbrev pub scaled_stop : Scale → Stop → Stop
scaled_stop scale s = record s {
  x = times_ℤ scale s.x;
  y = times_ℤ scale s.y;
  earliest = times scale s.earliest;
  latest = times scale s.latest;
  service = times scale s.service;
}
