-- Reading n items is the inverse of writing them
use Rattle.std.proofs.Common.{◌≡◌, ℕ, zero, suc, ◌+◌, List, [], ◌∷◌, ◌++◌, length, Ok, refl, sym, ap, subst, ◌∙◌, append_assoc, arith}
use Rattle.std.specs.List.{flat_map}
use Rattle.std.proofs.lemmas.List.{append-nil}
use Rattle.state_codec.specs.Fields.{Field}
use Rattle.state_codec.specs.Reading.{times}
use Rattle.state_codec.proofs.FieldLaws.{IsBytes, Takes, takes_then, bind_ok, ok_is}

-- The items that were added, as bytes: `text` encodes what was read so far, and `size` is the number of its
-- items
pub record Adds {A : Type 0} (text : A → List ℕ) (size : A → ℕ) (Inv : A → Type 0) (n : ℕ) (a : A) (bytes : List ℕ) (y : A × List ℕ) : Type 0 where
  pub added : List ℕ
  pub taken : Takes bytes added y.1
  pub whole : text y.0 ≡ text a ++ added
  pub count : size y.0 ≡ size a + n
  pub kept : Inv y.0

module _ {A : Type 0} (more : A → List ℕ → Field A) (text : A → List ℕ) (size : A → ℕ) (Inv : A → Type 0)
    (one : (a : A) (bytes : List ℕ) → Inv a → IsBytes bytes → (y : A × List ℕ) → more a bytes ≡ Ok y → Adds text size Inv 1 a bytes y) where
  pub times_take : (n : ℕ) (a : A) (bytes : List ℕ) → Inv a → IsBytes bytes → (y : A × List ℕ) → times more n a bytes ≡ Ok y → Adds text size Inv n a bytes y
  unfolding times
  times_take zero a bytes inv fits y e =
      subst (λ (z : A × List ℕ). Adds text size Inv 0 a bytes z) (ok_is (a, bytes) y e)
      (record { added = []; taken = record { parts = refl; rest_fits = fits }; whole = sym (append-nil (text a)); count = omega arith; kept = inv })
  times_take (suc n) a bytes inv fits y e =
      let b = bind_ok (more a bytes) (λ x. times more n x.0 x.1) y e in
      let first = one a bytes inv fits b.0 b.1 in
      let others = times_take n b.0.0 b.0.1 first.kept first.taken.rest_fits y b.2 in
      record {
        added = first.added ++ others.added;
        taken = takes_then bytes first.added b.0.1 others.added y.1 first.taken others.taken;
        whole = others.whole ∙ ap (λ t. t ++ others.added) first.whole ∙ append_assoc (text a) first.added others.added;
        count = omega (arith, others.count, first.count);
        kept = others.kept;
      }

-- Items that may be read in sequence, after those read so far
module _ {A X : Type 0} (add : A → X → A) (word : X → List ℕ) (IsNext : A → X → Type 0) where
  abbrev pub AreNext : A → List X → Type 0
  AreNext a [] = Unit {0}
  AreNext a (x ∷ xs) = IsNext a x × AreNext (add a x) xs

  abbrev pub added : A → List X → A
  added a [] = a
  added a (x ∷ xs) = added (add a x) xs

  pub times_again : (more : A → List ℕ → Field A) → ((a : A) (x : X) (rest : List ℕ) → IsNext a x → more a (word x ++ rest) ≡ Ok (add a x, rest))
      → (xs : List X) (a : A) (rest : List ℕ) → AreNext a xs → times more (length xs) a (flat_map word xs ++ rest) ≡ Ok (added a xs, rest)
  unfolding times
  times_again more again [] a rest next = refl
  times_again more again (x ∷ xs) a rest next =
      let regrouped : flat_map word (x ∷ xs) ++ rest ≡ word x ++ (flat_map word xs ++ rest) = append_assoc (word x) (flat_map word xs) rest in
      ap (times more (suc (length xs)) a) regrouped ∙ rw (again a x (flat_map word xs ++ rest) next.0) (times_again more again xs (add a x) rest next.1)

-- Adding items one by one appends them to those before
pub added_after : {X : Type 0} (word : X → List ℕ) (IsNext : List X → X → Type 0) (xs before : List X) → added (λ (ys : List X) (x : X). ys ++ x ∷ []) word IsNext before xs ≡ before ++ xs
added_after word IsNext [] before = sym (append-nil before)
added_after word IsNext (x ∷ xs) before = added_after word IsNext xs (before ++ x ∷ []) ∙ append_assoc before (x ∷ []) xs

pub flat_map_one : {X : Type 0} (word : X → List ℕ) (xs : List X) (x : X) → flat_map word (xs ++ x ∷ []) ≡ flat_map word xs ++ word x
flat_map_one word [] x = append-nil (word x)
flat_map_one word (y ∷ xs) x = ap (λ t. word y ++ t) (flat_map_one word xs x) ∙ sym (append_assoc (word y) (flat_map word xs) (word x))
