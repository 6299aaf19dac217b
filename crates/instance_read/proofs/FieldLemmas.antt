-- The numbers of a line, one after another.
use Rattle.std.proofs.Common.{◌≡◌, ◌≢◌, set, below_more, get_or-set_other, get_or-set_same, ℕ, zero, suc, ◌+◌, ◌<◌, List, [], ◌∷◌, length, length-drop, drop}
use Rattle.std.proofs.Common.{get_or, Some, refl, sym, ap, ◌∙◌, arith, ℤ, pos}
use Rattle.std.specs.Prelude.{slice_get}
use Rattle.std.specs.Option.{option_and_then}
use Rattle.text_lines.specs.Numbers.{number_of}
use Rattle.instance_read.specs.Fields.{field}
use Rattle.instance_read.specs.FieldValues.{IsValue, HasValue}

slice_get-drop : (xs : List (List ℕ)) (i : ℕ) → slice_get (drop i xs) 0 ≡ slice_get xs i
slice_get-drop xs zero = refl
slice_get-drop [] (suc i) = refl
slice_get-drop (x ∷ xs) (suc i) = slice_get-drop xs i

pub field-drop : (words : List (List ℕ)) (i : ℕ) → field (drop i words) 0 ≡ field words i
field-drop words i = ap (option_and_then number_of) (slice_get-drop words i)

-- one more field is read
pub values_more : (limits : List (ℤ × ℤ)) (words rest : List (List ℕ)) (values : List ℤ) (i : ℕ) (v : ℤ) → i < length values → rest ≡ drop i words
    → ((k : ℕ) → k < i → HasValue limits words values k) → IsValue (get_or limits i (pos 0, pos 0)) (field rest 0) v → (k : ℕ) → k < i + 1 → HasValue limits words (set values i v) k
values_more limits words rest values i v l at before here =
    below_more _ _
    (λ k h. let ne : k ≢ i = omega arith in rw get_or-set_other (before k h))
    (rw get_or-set_same (sym (field-drop words i) ∙ ap (λ ws. field ws 0) (sym at) ∙ here.0, here.1))

field_within : (words : List (List ℕ)) (k : ℕ) (z : ℤ) → field words k ≡ Some z → k < length words
field_within [] zero z e = cc
field_within [] (suc k) z e = cc
field_within (w ∷ words) zero z e = omega arith
field_within (w ∷ words) (suc k) z e = let l = field_within words k z e in omega arith

-- after `count` numbers no word is left
pub no_more : (count : ℕ) (limits : List (ℤ × ℤ)) (words : List (List ℕ)) (values : List ℤ) → ((k : ℕ) → k < count → HasValue limits words values k) → drop count words ≡ [] → length words ≡ count
no_more zero limits words values read e = ap length e
no_more (suc n) limits words values read e =
    omega (arith, ap length e, length-drop (suc n) words, field_within words n (get_or values n (pos 0)) (read n (omega arith)).0)
