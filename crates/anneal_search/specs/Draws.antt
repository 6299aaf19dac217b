-- Several draws from one word: the pick among m items, and the rest of the word for the next draw
use Rattle.std.specs.Prelude.{ℕ, ◌*◌, ◌%◌, ◌^◌}
pub use Rattle.seeded_search.specs.Words.{pick}

-- The rest of w after it picked one of m items, again below 2 ^ 32
abbrev pub rest : ℕ → ℕ → ℕ
rest w m = w * m % 2 ^ 32
