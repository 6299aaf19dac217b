-- Routes for all vehicles, with the empty ones replaced.
use Rattle.std.proofs.Common.{◌≡◌, ℕ, ◌+◌, ◌-◌, ◌<◌, ◌≤◌, suc, ◌==◌, true, false, Bool, List, [], ◌∷◌, ◌++◌, length, drop, replicate, slice_index_or, sym, ap, ◌∙◌, arith, cond}
use Rattle.std.proofs.lemmas.List.{append_assoc, append-nil, length-append, nil_from_length}
use Rattle.vehicle_assignment.specs.Assignments.{fill_empty, padded}

pub one_more : (fleet : ℕ) (assigned : List (List ℕ)) → length assigned < fleet → padded fleet (assigned ++ [] ∷ []) ≡ padded fleet assigned
one_more fleet assigned less =
    let counted : length (assigned ++ [] ∷ []) ≡ length assigned + 1 = length-append assigned ([] ∷ []) in
    let remaining : fleet - length assigned ≡ suc (fleet - (length assigned + 1)) = omega (arith, less) in
    ap (λ n. (assigned ++ [] ∷ []) ++ replicate (fleet - n) []) counted ∙ append_assoc assigned ([] ∷ []) (replicate (fleet - (length assigned + 1)) [])
    ∙ ap (λ n. assigned ++ replicate n []) (sym remaining)

pub none_left : (fleet : ℕ) (assigned : List (List ℕ)) → fleet ≤ length assigned → padded fleet assigned ≡ assigned
none_left fleet assigned all = let none : fleet - length assigned ≡ 0 = omega (arith, all) in ap (λ n. assigned ++ replicate n []) none ∙ append-nil assigned

module _ (seat : List ℕ) (routes : List (List ℕ)) where
  -- the vehicle gets the route `route`, and the routes `remaining` remain for the later vehicles
  abbrev pub Step : List ℕ → List (List ℕ) → Type 0
  Step route remaining = (assigned : List (List ℕ)) → fill_empty (seat ∷ assigned) routes ≡ route ∷ fill_empty assigned remaining

  pub stays : (length seat == 0) ≡ false → Step seat routes
  unfolding fill_empty
  stays used assigned = ap (λ (b : Bool). cond b (slice_index_or routes 0 [] ∷ fill_empty assigned (drop 1 routes)) (seat ∷ fill_empty assigned routes)) used

  pub gets : (length seat == 0) ≡ true → (route : List ℕ) (remaining : List (List ℕ)) → routes ≡ route ∷ remaining → Step route remaining
  unfolding fill_empty
  gets none route remaining are assigned =
      ap (λ (b : Bool). cond b (slice_index_or routes 0 [] ∷ fill_empty assigned (drop 1 routes)) (seat ∷ fill_empty assigned routes)) none
      ∙ ap (λ rs. slice_index_or rs 0 [] ∷ fill_empty assigned (drop 1 rs)) are

  pub stays_empty : (length seat == 0) ≡ true → length seat ≡ 0 → (remaining : List (List ℕ)) → routes ≡ [] → remaining ≡ [] → Step seat remaining
  unfolding fill_empty
  stays_empty none empty remaining are following assigned =
      ap (λ (b : Bool). cond b (slice_index_or routes 0 [] ∷ fill_empty assigned (drop 1 routes)) (seat ∷ fill_empty assigned routes)) none
      ∙ ap (λ rs. slice_index_or rs 0 [] ∷ fill_empty assigned (drop 1 rs)) are
      ∙ ap (λ s. s ∷ fill_empty assigned []) (sym (nil_from_length seat empty)) ∙ ap (λ rs. seat ∷ fill_empty assigned rs) (sym following)

-- the case in which no vehicle is left
pub all_given : (so_far assigned remaining all : List (List ℕ)) → assigned ≡ [] → so_far ++ fill_empty assigned remaining ≡ all → so_far ≡ all
unfolding fill_empty
all_given so_far assigned remaining all none said = sym (append-nil so_far) ∙ ap (λ ss. so_far ++ fill_empty ss remaining) (sym none) ∙ said
