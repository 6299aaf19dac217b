-- A short line in a buffer of fixed size.
use Rattle.std.specs.Prelude.{ℕ, ◌≤◌, List, take}
use Rattle.command_text.specs.declared.answers.ShortLine.TheInside.{Inside}

-- The value of a `ShortLine` in contracts: the bytes that were written.
abbrev pub used_bytes : Inside → List ℕ
used_bytes l = take l.used l.bytes

-- At most 128 bytes were written.
abbrev pub IsWithin : Inside → Type 0
IsWithin l = l.used ≤ 128
