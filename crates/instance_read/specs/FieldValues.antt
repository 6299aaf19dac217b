-- The numbers of a line that was read within its limits.
use Rattle.std.specs.Prelude.{◌≡◌, ℕ, ◌<◌, Bool, false, true, not, ◌==◌, if◌then◌else◌, List, length, slice_index_or, Option, Some, ℤ, pos, int_lt}
use Rattle.instance_read.specs.declared.faults.ReadFaultKind.{ReadFaultKind}
use Rattle.instance_read.specs.declared.faults.ReadFaultKind.TheVariants.{BadNumber, Range, FieldCount, TooManyStops}
use Rattle.instance_read.specs.Fields.{field, has_no_number, is_beyond, passes_test, any_beyond}

-- the number is this value, and within these limits
abbrev pub IsValue : ℤ × ℤ → Option ℤ → ℤ → Type 0
IsValue limits number value = (number ≡ Some value) × (is_beyond limits value ≡ false)

-- there is no number, or one beyond these limits
abbrev pub IsNoValue : ℤ × ℤ → Option ℤ → Type 0
IsNoValue limits number = (z : ℤ) → number ≡ Some z → is_beyond limits z ≡ true

-- word k is a number, the value at index k, and within the limits at index k
abbrev pub HasValue : List (ℤ × ℤ) → List (List ℕ) → List ℤ → ℕ → Type 0
HasValue limits words values k = IsValue (slice_index_or limits k (pos 0, pos 0)) (field words k) (slice_index_or values k (pos 0))

-- word k is not a number, or is beyond the limits at index k
abbrev pub HasNoValue : List (ℤ × ℤ) → List (List ℕ) → ℕ → Type 0
HasNoValue limits words k = IsNoValue (slice_index_or limits k (pos 0, pos 0)) (field words k)

-- the line has `count` words, each of them the number at its place, within its limits
abbrev pub HasNumbers : ℕ → List (ℤ × ℤ) → List (List ℕ) → List ℤ → Type 0
HasNumbers count limits words values = (length words ≡ count) × ((k : ℕ) → k < count → HasValue limits words values k)

-- the line has another number of words, or a word that is not a number within its limits
abbrev pub HasNoNumbers : ℕ → List (ℤ × ℤ) → List (List ℕ) → Type 0
HasNoNumbers count limits words = length words ≡ count → (k : ℕ) × (k < count) × HasNoValue limits words k

-- the faults of a line that should have `count` numbers within these limits
abbrev pub numbers_fault : ℕ → List (ℤ × ℤ) → List (List ℕ) → ReadFaultKind → Bool
numbers_fault count limits words FieldCount = not (length words == count)
numbers_fault count limits words BadNumber = has_no_number words
numbers_fault count limits words Range = any_beyond limits words
numbers_fault count limits words _ = false

-- the fault that is reported for a line that does not have `count` numbers within their limits
abbrev pub numbers_kind : ℕ → List (List ℕ) → ReadFaultKind
numbers_kind count words = if not (length words == count) then FieldCount else if has_no_number words then BadNumber else Range

-- the fault that is reported for a line whose first number is beyond its limits: one that is greater than
-- `most` is one stop too many
abbrev pub range_kind : ℕ → List (List ℕ) → ReadFaultKind
range_kind most words = if passes_test (λ z. int_lt (pos most) z) (field words 0) then TooManyStops else Range
