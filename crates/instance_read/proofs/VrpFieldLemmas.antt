-- The values that the words of a `.vrp` line make.
use Rattle.std.proofs.Common.{◌≡◌, ℕ, ◌<◌, Bool, true, false, List, [], ◌∷◌, length, get_or, Option, Some, None, refl, sym, ap, ◌∙◌, arith, ℤ, pos, negsuc}
use Rattle.std.specs.Prelude.{int_lt, ◌||◌}
use Rattle.std.specs.Int.RustNames.{unsigned_abs}
use Rattle.std.proofs.lemmas.Bool.{or_parts, false≢true}
use Rattle.std.proofs.Math.Bool.{or-false}
use Rattle.text_lines.specs.Numbers.{number_of}
use Rattle.instance_read.specs.declared.faults.ReadFaultKind.{ReadFaultKind}
use Rattle.instance_read.specs.declared.faults.ReadFaultKind.TheVariants.{BadNumber, Range, FieldCount, TooManyStops, NodeRepeated}
use Rattle.instance_read.specs.Faults.{rank}
use Rattle.instance_read.specs.Fields.{field, passes_test, is_beyond, any_beyond}
use Rattle.instance_read.specs.FieldValues.{HasNumbers, numbers_fault}
use Rattle.instance_read.specs.Vrp.{capacity_fault, dimension_fault, continues_after_end, is_end, node_fault}
use Rattle.instance_read.specs.TaskFaults.{HasNoKind, IsFirstKind}
use Rattle.instance_read.proofs.KindLemmas.{first_from, rank_small}
use Rattle.instance_read.proofs.NumberLemmas.{numbers_none}

never : (o : Option ℤ) → passes_test (λ z. false) o ≡ false
never None = refl
never (Some z) = refl

-- a line of a section of nodes, if no node is taken
module _ (count : ℕ) (limits : List (ℤ × ℤ)) (words : List (List ℕ)) where
  node_like : (k : ReadFaultKind) → node_fault count limits (λ z. false) words k ≡ numbers_fault count limits words k
  node_like FieldCount = refl
  node_like BadNumber = refl
  node_like Range = refl
  node_like NodeRepeated = never (field words 0)
  node_like _ = refl

  pub node_none : (values : List ℤ) → length limits ≡ count → HasNumbers count limits words values → HasNoKind (node_fault count limits (λ z. false) words)
  node_none values sized h k = node_like k ∙ numbers_none count limits words values sized h k

from_one : (most z : ℤ) → is_beyond (pos 1, most) z ≡ false → z ≡ pos (unsigned_abs z)
from_one most (pos n) e = refl
from_one most (negsuc n) e = absurd (false≢true (sym e))

-- the node at the beginning of a line
pub node_is : (count nodes : ℕ) (more : List (ℤ × ℤ)) (words : List (List ℕ)) (values : List ℤ) → 0 < count → HasNumbers count ((pos 1, pos nodes) ∷ more) words values
    → field words 0 ≡ Some (pos (unsigned_abs (get_or values 0 (pos 0))))
node_is count nodes more words values l h =
    let first = h.1 0 l in
    first.0 ∙ ap Some (from_one (pos nodes) (get_or values 0 (pos 0)) first.1)

one_beyond : (limits : ℤ × ℤ) (words : List (List ℕ)) → any_beyond (limits ∷ []) words ≡ passes_test (is_beyond limits) (field words 0)
one_beyond limits [] = refl
one_beyond limits (w ∷ words) = or-false (passes_test (is_beyond limits) (number_of w))

-- the faults of a value of CAPACITY
module _ (stands : Bool) (words : List (List ℕ)) where
  capacity_like : (k : ReadFaultKind) → rank k < 9 → capacity_fault stands words k ≡ numbers_fault 1 ((pos 0, pos 1000000) ∷ []) words k
  capacity_like FieldCount l = refl
  capacity_like BadNumber l = refl
  capacity_like Range l = sym (one_beyond (pos 0, pos 1000000) words)
  capacity_like NodeRepeated l = absurd (omega arith)
  capacity_like _ l = refl

  module _ (values : List ℤ) (h : HasNumbers 1 ((pos 0, pos 1000000) ∷ []) words values) where
    capacity_below : (n : ℕ) → (9 < n → stands ≡ false) → (k : ReadFaultKind) → rank k < n → capacity_fault stands words k ≡ false
    capacity_below n free FieldCount l = numbers_none 1 ((pos 0, pos 1000000) ∷ []) words values refl h FieldCount
    capacity_below n free BadNumber l = numbers_none 1 ((pos 0, pos 1000000) ∷ []) words values refl h BadNumber
    capacity_below n free Range l = capacity_like Range (omega arith) ∙ numbers_none 1 ((pos 0, pos 1000000) ∷ []) words values refl h Range
    capacity_below n free NodeRepeated l = free l
    capacity_below n free _ l = refl

    pub capacity_repeated : stands ≡ true → IsFirstKind (capacity_fault stands words) NodeRepeated
    capacity_repeated e = first_from (capacity_fault stands words) NodeRepeated e (capacity_below 9 (λ l. absurd (omega arith)))

    pub capacity_none : stands ≡ false → HasNoKind (capacity_fault stands words)
    capacity_none e k = capacity_below 14 (λ _. e) k (rank_small k)

-- the faults of a value of DIMENSION
module _ (stands : Bool) (words : List (List ℕ)) where
  module _ (values : List ℤ) (h : HasNumbers 1 ((pos 2, pos 40001) ∷ []) words values) where
    in_limits : (int_lt (get_or values 0 (pos 0)) (pos 2) ≡ false) × (int_lt (pos 40001) (get_or values 0 (pos 0)) ≡ false)
    in_limits = or_parts (int_lt (get_or values 0 (pos 0)) (pos 2)) (int_lt (pos 40001) (get_or values 0 (pos 0))) (h.1 0 (omega arith)).1

    dimension_below : (n : ℕ) → (9 < n → stands ≡ false) → (k : ReadFaultKind) → rank k < n → dimension_fault stands words k ≡ false
    dimension_below n free FieldCount l = numbers_none 1 ((pos 2, pos 40001) ∷ []) words values refl h FieldCount
    dimension_below n free BadNumber l = numbers_none 1 ((pos 2, pos 40001) ∷ []) words values refl h BadNumber
    dimension_below n free TooManyStops l = ap (passes_test (λ z. int_lt (pos 40001) z)) (h.1 0 (omega arith)).0 ∙ in_limits.1
    dimension_below n free Range l = ap (passes_test (λ z. int_lt z (pos 2))) (h.1 0 (omega arith)).0 ∙ in_limits.0
    dimension_below n free NodeRepeated l = free l
    dimension_below n free _ l = refl

    pub dimension_repeated : stands ≡ true → IsFirstKind (dimension_fault stands words) NodeRepeated
    dimension_repeated e = first_from (dimension_fault stands words) NodeRepeated e (dimension_below 9 (λ l. absurd (omega arith)))

    pub dimension_none : stands ≡ false → HasNoKind (dimension_fault stands words)
    dimension_none e k = dimension_below 14 (λ _. e) k (rank_small k)

-- a word follows a -1 in the list of depots; `ended` says whether a -1 came before these words
abbrev pub continues_from : Bool → List (List ℕ) → Bool
continues_from ended [] = false
continues_from ended (word ∷ words) = ended || continues_from (is_end word) words

pub goes_on-is : (words : List (List ℕ)) → continues_from false words ≡ continues_after_end words
goes_on-is [] = refl
goes_on-is (w ∷ []) = refl
goes_on-is (w ∷ v ∷ words) = ap (λ t. is_end w || t) (goes_on-is (v ∷ words))
