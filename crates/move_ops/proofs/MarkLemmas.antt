-- Marks by the remainder of a number. A number without a mark is not among the names.
use Rattle.std.proofs.Common.{◌≡◌, ℕ, ◌%◌, Bool, false, List, drop, get_or}
use Rattle.plan_audit.specs.Passes.{has}

-- a number without a mark is among the names only if it is among those from index k on
abbrev pub AreMarked : List Bool → List ℕ → ℕ → Type 0
AreMarked marks names k = (n : ℕ) → get_or marks (n % 64) false ≡ false → has (drop k names) n ≡ has names n
