-- Comparisons with a limit.
use Rattle.std.specs.Prelude.{ℕ, ℤ, Bool, nat_lt, int_lt, pos}

-- whether a time is after the latest one
abbrev pub is_too_late : ℕ → ℕ → Bool
is_too_late time latest = nat_lt latest time

-- whether a load is above the capacity
abbrev pub exceeds_capacity : ℤ → ℕ → Bool
exceeds_capacity load capacity = int_lt (pos capacity) load
