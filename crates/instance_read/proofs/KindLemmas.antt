-- The first fault of a line.
use Rattle.std.proofs.Common.{◌≡◌, ℕ, ◌<◌, ◌≤◌, Bool, true, false, cond, ⊎_elim, refl, sym, ◌∙◌, arith}
use Rattle.std.proofs.lemmas.Bool.{cases_lt, false≢true}
use Rattle.instance_read.specs.declared.faults.ReadFaultKind.{ReadFaultKind}
use Rattle.instance_read.specs.declared.faults.ReadFaultKind.TheVariants.{BadNumber, Range, FieldCount, TaskOrder, EmptyWindow, TooManyStops, Unsupported}
use Rattle.instance_read.specs.Faults.{rank}
use Rattle.instance_read.specs.TaskFaults.{IsFirstKind}

no_lesser : (n r : ℕ) (b : Bool) → (r < n → b ≡ false) → b ≡ true → n ≤ r
no_lesser n r b h e = ⊎_elim (λ lesser. absurd (false≢true (sym (h lesser) ∙ e))) (λ le. le) (cases_lt r n)

-- a line has no fault of a rank below n if it has none of the six possible faults of a task's line
pub none_below : (fault : ReadFaultKind → Bool) (n : ℕ) → n ≤ 7 → (1 < n → fault FieldCount ≡ false) → (2 < n → fault BadNumber ≡ false)
    → (3 < n → fault TooManyStops ≡ false) → (4 < n → fault Range ≡ false) → (5 < n → fault TaskOrder ≡ false) → (6 < n → fault EmptyWindow ≡ false) → (k : ReadFaultKind) → fault k ≡ true → n ≤ rank k
none_below fault n small count number stops range order window FieldCount e = no_lesser n 1 (fault FieldCount) count e
none_below fault n small count number stops range order window BadNumber e = no_lesser n 2 (fault BadNumber) number e
none_below fault n small count number stops range order window TooManyStops e = no_lesser n 3 (fault TooManyStops) stops e
none_below fault n small count number stops range order window Range e = no_lesser n 4 (fault Range) range e
none_below fault n small count number stops range order window TaskOrder e = no_lesser n 5 (fault TaskOrder) order e
none_below fault n small count number stops range order window EmptyWindow e = no_lesser n 6 (fault EmptyWindow) window e
none_below fault n small count number stops range order window Unsupported e = small
none_below fault n small count number stops range order window _ e = omega arith

-- the test decides whether the first fault is `TooManyStops` or `Range`
pub stops_or_range : (fault : ReadFaultKind → Bool) (t : Bool) (kind : ReadFaultKind) → kind ≡ cond t TooManyStops Range → fault FieldCount ≡ false
    → fault BadNumber ≡ false → fault TooManyStops ≡ t → (t ≡ false → fault Range ≡ true) → IsFirstKind fault kind
stops_or_range fault true kind is count number stops range =
    rw is (stops, none_below fault 3 (omega arith) (λ _. count) (λ _. number) (λ h. absurd (omega arith)) (λ h. absurd (omega arith)) (λ h. absurd (omega arith)) (λ h. absurd (omega arith)))
stops_or_range fault false kind is count number stops range =
    rw is (range refl, none_below fault 4 (omega arith) (λ _. count) (λ _. number) (λ _. stops) (λ h. absurd (omega arith)) (λ h. absurd (omega arith)) (λ h. absurd (omega arith)))

-- the first fault of a line with the wrong number of words
pub count_first : (fault : ReadFaultKind → Bool) → fault FieldCount ≡ true → IsFirstKind fault FieldCount
count_first fault e = (
  e,
  none_below fault 1 (omega arith) (λ h. absurd (omega arith)) (λ h. absurd (omega arith)) (λ h. absurd (omega arith)) (λ h. absurd (omega arith))
      (λ h. absurd (omega arith)) (λ h. absurd (omega arith)),
)

pub number_first : (fault : ReadFaultKind → Bool) → fault FieldCount ≡ false → fault BadNumber ≡ true → IsFirstKind fault BadNumber
number_first fault count e =
    (e, none_below fault 2 (omega arith) (λ _. count) (λ h. absurd (omega arith)) (λ h. absurd (omega arith)) (λ h. absurd (omega arith)) (λ h. absurd (omega arith)) (λ h. absurd (omega arith)))

pub rank_small : (k : ReadFaultKind) → rank k < 14
rank_small FieldCount = omega arith
rank_small _ = omega arith

-- a fault of a line is its first one if the line has none of a smaller rank
pub first_from : (fault : ReadFaultKind → Bool) (kind : ReadFaultKind) → fault kind ≡ true → ((k : ReadFaultKind) → rank k < rank kind → fault k ≡ false) → IsFirstKind fault kind
first_from fault kind e none = (e, λ k h. no_lesser (rank kind) (rank k) (fault k) (none k) h)
