-- Lemmas about a table of names: either its first name is the word, or the result is that of the rest of the
-- table.
use Rattle.std.proofs.Common.{sym, suc, zero, ◌≡◌, ℕ, ◌<◌, ◌≤◌, true, false, List, [], ◌∷◌, length, map, refl, ap, arith, bytes_eq, slice_index_or, Bor, Some, None}
use Rattle.std.specs.Prelude.{drop, if◌then◌else◌}
use Rattle.command_text.specs.declared.verbs.Verb.{Verb}
use Rattle.command_text.specs.Parsing.{verb_among}

-- the names in the table as bytes, each with its command
abbrev pub names_of : List (Bor (List ℕ) × Verb) → List (List ℕ × Verb)
names_of verbs = map (λ named. (named.0.now, named.1)) verbs

pub found : (xs : List (Bor (List ℕ) × Verb)) (word : List ℕ) (k : ℕ) (d : Bor (List ℕ) × Verb) → k < length xs
    → bytes_eq (slice_index_or xs k d).0.now word ≡ true → verb_among (names_of (drop k xs)) word ≡ Some (slice_index_or xs k d).1
unfolding verb_among
found [] word k d h is = absurd (omega arith)
found (x ∷ xs) word zero d h is = ap (λ b. if b then Some x.1 else verb_among (names_of xs) word) is
found (x ∷ xs) word (suc k) d h is = found xs word k d (omega arith) is

pub passed : (xs : List (Bor (List ℕ) × Verb)) (word : List ℕ) (k : ℕ) (d : Bor (List ℕ) × Verb) → k < length xs
    → bytes_eq (slice_index_or xs k d).0.now word ≡ false → verb_among (names_of (drop (suc k) xs)) word ≡ verb_among (names_of (drop k xs)) word
unfolding verb_among
passed [] word k d h is = absurd (omega arith)
passed (x ∷ xs) word zero d h is = sym (ap (λ b. if b then Some x.1 else verb_among (names_of xs) word) is)
passed (x ∷ xs) word (suc k) d h is = passed xs word k d (omega arith) is

pub none_left : (xs : List (Bor (List ℕ) × Verb)) (word : List ℕ) (k : ℕ) → length xs ≤ k → verb_among (names_of (drop k xs)) word ≡ None
unfolding verb_among
none_left [] word zero h = refl
none_left [] word (suc k) h = refl
none_left (x ∷ xs) word zero h = absurd (omega arith)
none_left (x ∷ xs) word (suc k) h = none_left xs word k (omega arith)
