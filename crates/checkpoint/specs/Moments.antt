-- The images that a crash may leave within a call that changes a store, by the number of finished device calls:
-- m in all, of which `calls` had finished when the call began.
use Rattle.std.specs.Prelude.{◌≡◌, ◌⊎◌, ℕ, ◌+◌, ◌≤◌, List}

-- A moment within the six calls of a format. After two finished calls there is no store. From the header's
-- write on there may be the new one, and after the last call only the new one.
pub record IsInFormat (unformatted new : List ℕ → Type 0) (calls m : ℕ) (image : List ℕ) : Type 0 where
  pub from : calls ≤ m
  pub to : m ≤ calls + 6
  pub cleared : calls + 2 ≤ m → m ≤ calls + 3 → unformatted image
  pub either : calls + 2 ≤ m → unformatted image ⊎ new image
  pub done : m ≡ calls + 6 → new image
