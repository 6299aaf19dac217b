-- The numbers of a line, and the fault that is reported if there are too few or too many, or one is not within
-- its limits.
use Rattle.std.proofs.Common.{◌≡◌, ℕ, zero, suc, ◌<◌, ◌≤◌, Bool, true, false, cond, List, [], ◌∷◌, length, get_or, Option, Some, None, refl, sym, ap, subst, ◌∙◌, arith, ℤ, pos}
use Rattle.std.specs.Prelude.{is_none, not, ◌==◌, unwrap_or}
use Rattle.std.proofs.lemmas.Bool.{eqb-true, or_left, or_right, or_parts, or_from, not-false, not_from_true, eq-eqb, cond_both, false_from_ne_true, false≢true}
use Rattle.text_lines.specs.Numbers.{number_of}
use Rattle.instance_read.specs.declared.faults.ReadFaultKind.{ReadFaultKind}
use Rattle.instance_read.specs.declared.faults.ReadFaultKind.TheVariants.{BadNumber, Range, FieldCount, TooManyStops}
use Rattle.instance_read.specs.Faults.{rank}
use Rattle.instance_read.specs.Fields.{field, value_at, passes_test, is_beyond, any_beyond, has_no_number, is_no_number}
use Rattle.instance_read.specs.FieldValues.{IsValue, IsNoValue, HasNoValue, HasNumbers, HasNoNumbers, numbers_fault, numbers_kind}
use Rattle.instance_read.specs.TaskFaults.{HasNoKind, IsFirstKind}
use Rattle.instance_read.proofs.KindLemmas.{count_first, number_first, first_from, stops_or_range}

-- a number that is not a value within its limits is beyond them
beyond_first : (limits : ℤ × ℤ) (number : Option ℤ) → is_none number ≡ false → IsNoValue limits number → passes_test (is_beyond limits) number ≡ true
beyond_first limits None e h = absurd (false≢true (sym e))
beyond_first limits (Some z) e h = h z refl

pub any_beyond-true : (limits : List (ℤ × ℤ)) (words : List (List ℕ)) (k : ℕ) → k < length limits → length limits ≤ length words → has_no_number words ≡ false
    → HasNoValue limits words k → any_beyond limits words ≡ true
any_beyond-true [] words k l fits e h = absurd (omega arith)
any_beyond-true (x ∷ limits) [] k l fits e h = absurd (omega arith)
any_beyond-true (x ∷ limits) (w ∷ words) zero l fits e h =
    or_left _ _ (beyond_first x (number_of w) (or_parts (is_no_number w) (has_no_number words) e).0 h)
any_beyond-true (x ∷ limits) (w ∷ words) (suc k) l fits e h =
    or_right _ _ (any_beyond-true limits words k (omega arith) (omega arith) (or_parts (is_no_number w) (has_no_number words) e).1 h)

pub any_beyond-false : (limits : List (ℤ × ℤ)) (words : List (List ℕ)) (value : ℕ → ℤ)
    → ((k : ℕ) → k < length limits → IsValue (get_or limits k (pos 0, pos 0)) (field words k) (value k)) → any_beyond limits words ≡ false
any_beyond-false [] words value h = refl
any_beyond-false (x ∷ limits) [] value h = refl
any_beyond-false (x ∷ limits) (w ∷ words) value h =
    let first = h 0 (omega arith) in
    or_from _ _ (ap (passes_test (is_beyond x)) first.0 ∙ first.1) (any_beyond-false limits words (λ k. value (suc k)) (λ k l. h (suc k) (omega arith)))

-- if there is a number at each place of a line, all its words are numbers
pub numbers_of : (words : List (List ℕ)) (v : ℕ → ℤ) → ((k : ℕ) → k < length words → field words k ≡ Some (v k)) → has_no_number words ≡ false
numbers_of [] v h = refl
numbers_of (w ∷ words) v h =
    or_from (is_no_number w) (has_no_number words) (ap (λ (o : Option ℤ). is_none o) (h 0 (omega arith))) (numbers_of words (λ k. v (suc k)) (λ k l. h (suc k) (omega arith)))

-- the fault that is reported for a line without `count` numbers within their limits
module _ (count : ℕ) (limits : List (ℤ × ℤ)) (words : List (List ℕ)) where
  range_last : not (length words == count) ≡ false → has_no_number words ≡ false → (k : ReadFaultKind) → rank k < 4 → numbers_fault count limits words k ≡ false
  range_last many numbers FieldCount l = many
  range_last many numbers BadNumber l = numbers
  range_last many numbers Range l = absurd (omega arith)
  range_last many numbers _ l = refl

  pub numbers_first : length limits ≡ count → HasNoNumbers count limits words → IsFirstKind (numbers_fault count limits words) (numbers_kind count words)
  numbers_first sized none =
      let First : ReadFaultKind → Type 0 = IsFirstKind (numbers_fault count limits words) in
      cond_both (not (length words == count)) FieldCount (cond (has_no_number words) BadNumber Range) First
      (λ e. count_first (numbers_fault count limits words) e)
      (λ many. cond_both (has_no_number words) BadNumber Range First
      (λ e. number_first (numbers_fault count limits words) many e)
      (λ numbers.
      let counted : length words ≡ count = eqb-true (length words) count (not-false (length words == count) many) in
      let broken = none counted in
      first_from (numbers_fault count limits words) Range (any_beyond-true limits words broken.0 (omega (arith, sized, broken.1))
      (omega (arith, sized, counted)) numbers broken.2) (range_last many numbers)))

  earlier : (kind k : ReadFaultKind) → IsFirstKind (numbers_fault count limits words) kind → rank k < rank kind → numbers_fault count limits words k ≡ false
  earlier kind k first l = false_from_ne_true (numbers_fault count limits words k) (λ e. absurd (omega (arith, first.1 k e)))

  -- a line that may have other faults too
  module _ (fault : ReadFaultKind → Bool) (counts : fault FieldCount ≡ not (length words == count)) (numbers : fault BadNumber ≡ has_no_number words) where
    -- the fault of a line whose first number is beyond its limits: one stop too many, or out of range
    pub stops_first : (stops : Bool) (kind : ReadFaultKind) → kind ≡ cond stops TooManyStops Range → fault TooManyStops ≡ stops
        → (stops ≡ false → any_beyond limits words ≡ true → fault Range ≡ true) → (reported : ReadFaultKind) → reported ≡ Range → IsFirstKind (numbers_fault count limits words) reported → IsFirstKind fault kind
    stops_first stops kind is many range reported at first_reported =
        let First : ReadFaultKind → Type 0 = IsFirstKind (numbers_fault count limits words) in
        let first = subst First at first_reported in
        stops_or_range fault stops kind is (counts ∙ earlier Range FieldCount first (omega arith)) (numbers ∙ earlier Range BadNumber first (omega arith)) many (λ few. range few first.0)

-- a line of `count` words, each of them a number within its limits, has no fault
pub numbers_none : (count : ℕ) (limits : List (ℤ × ℤ)) (words : List (List ℕ)) (values : List ℤ) → length limits ≡ count → HasNumbers count limits words values
    → HasNoKind (numbers_fault count limits words)
numbers_none count limits words values sized h FieldCount = not_from_true (length words == count) (eq-eqb (length words) count h.0)
numbers_none count limits words values sized h BadNumber = numbers_of words (λ k. get_or values k (pos 0)) (λ k l. (h.1 k (omega (arith, h.0))).0)
numbers_none count limits words values sized h Range = any_beyond-false limits words (λ k. get_or values k (pos 0)) (λ k l. h.1 k (omega (arith, sized)))
numbers_none count limits words values sized h _ = refl

pub value_is : (count : ℕ) (limits : List (ℤ × ℤ)) (words : List (List ℕ)) (values : List ℤ) → HasNumbers count limits words values → (k : ℕ) → k < count → get_or values k (pos 0) ≡ value_at words k
value_is count limits words values h k l = sym (ap (λ o. unwrap_or o (pos 0)) (h.1 k l).0)
