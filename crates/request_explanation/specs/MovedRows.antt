-- Rows after an inserted stop.
use Rattle.std.specs.Prelude.{ℕ, ◌+◌, ◌-◌, max, ℤ, ◌+ℤ◌, List, [], ◌∷◌}
use Rattle.plan_explain.specs.declared.rows.Row.{Row}

-- a row one place later, with another arrival and with its load changed
abbrev pub moved_row : ℕ → ℤ → Row → Row
moved_row arrival change r = record {
  place = r.place + 1;
  stop = r.stop;
  arrival = arrival;
  start = max arrival r.earliest;
  earliest = r.earliest;
  latest = r.latest;
  load = r.load +ℤ change;
}

-- the rows, each one place later, if the time before them changes from `before` to `now` and each load by
-- `change`
abbrev pub moved_from : ℕ → ℕ → ℤ → List Row → List Row
moved_from now before change [] = []
moved_from now before change (r ∷ rows) =
    moved_row (now + (r.arrival - before)) change r ∷ moved_from (max (now + (r.arrival - before)) r.earliest) r.start change rows
