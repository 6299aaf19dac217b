-- Several draws from a list, one after another, without a copy of it.
use Rattle.std.specs.Prelude.{ℕ, ◌+◌, ◌<◌, nat_le, List, [], ◌∷◌, length, remove, if◌then◌else◌}

-- the rest of a list after items are removed one by one, by their indices. Each index counts in the rest before its
-- removal; the newest index comes first
abbrev pub left_of : List ℕ → List ℕ → List ℕ
left_of [] xs = xs
left_of (i ∷ older) xs = remove (left_of older xs) i

-- each index was within the rest when its item was removed
abbrev pub AreTaken : List ℕ → List ℕ → Type 0
AreTaken [] xs = Unit {0}
AreTaken (i ∷ older) xs = (i < length (left_of older xs)) × AreTaken older xs

-- the index in the whole list of the item with this index in the rest
abbrev pub index_of : List ℕ → ℕ → ℕ
index_of [] k = k
index_of (i ∷ older) k = index_of older (if nat_le i k then k + 1 else k)
