-- Routes that are replaced by those of another plan, one after another.
use Rattle.std.proofs.Common.{◌≡◌, ℕ, ◌+◌, ◌<◌, ◌≤◌, List, [], ◌∷◌, length, get_or, set, refl, sym, ap, ◌∙◌, inl, inr, arith, add-one}
use Rattle.std.proofs.lemmas.Bool.{cases_order, cases_lt}
use Rattle.std.proofs.lemmas.List.{get_or-set_same, get_or-set_other, ext_get_or}
use Rattle.std.proofs.lemmas.Option.{unwrap_or-slice_get}
use Rattle.move_ops.specs.Drafts.{AreIdleAfter}
use Rattle.move_ops.specs.Insertion.{route_of}

abbrev pub SameBelow : List (List ℕ) → List (List ℕ) → ℕ → Type 0
SameBelow routes plan n = (k : ℕ) → k < n → get_or routes k [] ≡ get_or plan k []

route_at : (plan : List (List ℕ)) (k : ℕ) → route_of plan (k + 1) ≡ get_or plan k []
route_at plan k = rw (add-one k) (unwrap_or-slice_get plan k [])

pub same_more : (routes plan : List (List ℕ)) (n : ℕ) → SameBelow routes plan n → get_or routes n [] ≡ route_of plan (n + 1) → SameBelow routes plan (n + 1)
same_more routes plan n same here k low = elim (cases_order k n) [
  | inl is ↦ ap (λ k. get_or routes k []) is ∙ (here ∙ (route_at plan n ∙ ap (λ k. get_or plan k []) (sym is)))
  | inr apart ↦ elim apart [
    | inl lt ↦ same k lt
    | inr gt ↦ absurd (omega arith)
  ]
]

pub same_set : (routes plan : List (List ℕ)) (n : ℕ) (route : List ℕ) → SameBelow routes plan n → n < length routes → route ≡ route_of plan (n + 1) → SameBelow (set routes n route) plan (n + 1)
same_set routes plan n route same within is =
    same_more (set routes n route) plan n
    (λ k low. get_or-set_other routes n k route [] (λ e. omega arith) ∙ same k low) (get_or-set_same routes n route [] within ∙ is)

no_stops : (xs ys : List ℕ) → length xs ≡ 0 → length ys ≡ 0 → xs ≡ ys
no_stops [] [] none also = refl
no_stops [] (y ∷ ys) none some = absurd (omega arith)
no_stops (x ∷ xs) ys some none = absurd (omega arith)

-- later routes are unchanged, and are empty in both plans
pub same_all : (old routes plan : List (List ℕ)) (n used_len other : ℕ) → length routes ≡ length plan → length old ≡ length plan → SameBelow routes plan n
    → ((k : ℕ) → n ≤ k → get_or routes k [] ≡ get_or old k []) → ((v : ℕ) → n < v → v ≤ length old → (used_len < v) × (other < v))
    → AreIdleAfter used_len old → AreIdleAfter other plan → routes ≡ plan
same_all old routes plan n used_len other long before same stays enough idle also = ext_get_or [] routes plan long
    (λ k low. elim (cases_lt k n) [
      | inl below ↦ same k below
      | inr above ↦ (
          let following = enough (k + 1) (omega arith) (omega arith) in
          no_stops (get_or routes k []) (get_or plan k []) (ap length (stays k above) ∙ (sym (ap length (route_at old k)) ∙ idle (k + 1) following.0))
          (sym (ap length (route_at plan k)) ∙ also (k + 1) following.1))
    ])

-- the routes from the next index on are unchanged
pub stays_more : (old routes : List (List ℕ)) (n : ℕ) → ((k : ℕ) → n ≤ k → get_or routes k [] ≡ get_or old k []) → (k : ℕ) → n + 1 ≤ k → get_or routes k [] ≡ get_or old k []
stays_more old routes n stays k above = stays k (omega arith)

pub stays_set : (old routes : List (List ℕ)) (n : ℕ) (route : List ℕ) → ((k : ℕ) → n ≤ k → get_or routes k [] ≡ get_or old k [])
    → (k : ℕ) → n + 1 ≤ k → get_or (set routes n route) k [] ≡ get_or old k []
stays_set old routes n route stays k above = get_or-set_other routes n k route [] (λ e. omega arith) ∙ stays k (omega arith)
