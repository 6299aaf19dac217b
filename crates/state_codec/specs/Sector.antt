-- The written part of a sector
use Rattle.std.specs.Prelude.{◌≡◌, ◌≤◌, ℕ, List, take}
use Rattle.state_codec.specs.Bytes.{padded}
use Rattle.state_codec.specs.declared.sector.Sector.TheInside.{Inside}

abbrev pub used_bytes : Inside → List ℕ
used_bytes s = take s.used s.bytes

pub record IsPadded (s : Inside) : Type 0 where
  pub used : s.used ≤ 512
  pub zeros : s.bytes ≡ padded (used_bytes s)
