-- The numbers of stops and used routes, counted in the used part of the plan
use Rattle.std.proofs.Common.{◌≡◌, ℕ, zero, suc, ◌+◌, ◌<◌, ◌≤◌, ◌==◌, Bool, true, false, not, cond, List, [], ◌∷◌, length, drop, get_or, refl, sym, ap, ◌∙◌, arith, add-one}
use Rattle.std.specs.Int.{from_bool}
use Rattle.std.specs.List.{concat}
use Rattle.std.proofs.lemmas.List.{drop_more, length-append, nil_from_length}
use Rattle.std.proofs.lemmas.List.Sums.{sum_by-cons}
use Rattle.std.proofs.lemmas.Option.{unwrap_or-slice_get}
use Rattle.route_sched.specs.Cost.{used_count}
use Rattle.move_ops.specs.Insertion.{route_of}
use Rattle.move_ops.specs.Drafts.{AreIdleAfter}

route_at : (plan : List (List ℕ)) (k : ℕ) → route_of plan (k + 1) ≡ get_or plan k []
route_at plan k = rw (add-one k) (unwrap_or-slice_get plan k [])

drop_at : (routes : List (List ℕ)) (k : ℕ) → k < length routes → drop k routes ≡ route_of routes (k + 1) ∷ drop (k + 1) routes
drop_at routes k within = drop_more routes k [] within ∙ ap (λ r. r ∷ drop (k + 1) routes) (sym (route_at routes k))

later : (r : List ℕ) (routes : List (List ℕ)) (k j : ℕ) → j < k + 2 → AreIdleAfter j (r ∷ routes) → AreIdleAfter k routes
later r routes k j low idle zero above = refl
later r routes k j low idle (suc i) above = idle (suc (suc i)) (omega arith)

-- ---- stops
pub stops_more : (routes : List (List ℕ)) (k count all : ℕ) → k < length routes → count + length (concat (drop k routes)) ≡ all
    → count + length (route_of routes (k + 1)) + length (concat (drop (k + 1) routes)) ≡ all
stops_more routes k count all within so_far =
    let here : length (concat (drop k routes)) ≡ length (route_of routes (k + 1)) + length (concat (drop (k + 1) routes)) =
    ap (λ (rs : List (List ℕ)). length (concat rs)) (drop_at routes k within) ∙ length-append (route_of routes (k + 1)) (concat (drop (k + 1) routes)) in
    omega arith

none_left : (routes : List (List ℕ)) (used_len : ℕ) → AreIdleAfter used_len routes → length (concat (drop used_len routes)) ≡ 0
none_left [] zero idle = refl
none_left [] (suc used_len) idle = refl
none_left (r ∷ routes) zero idle =
    let e = length-append r (concat routes) in
    let here : length r ≡ 0 = idle (suc zero) (omega arith) in
    let rest : length (concat routes) ≡ 0 = none_left routes zero (later r routes zero zero (omega arith) idle) in
    e ∙ (let sum : length r + length (concat routes) ≡ 0 = omega arith in sum)
none_left (r ∷ routes) (suc used_len) idle = none_left routes used_len (later r routes used_len (suc used_len) (omega arith) idle)

pub stops_end : (routes : List (List ℕ)) (used_len count all : ℕ) → AreIdleAfter used_len routes → count + length (concat (drop used_len routes)) ≡ all → count ≡ all
stops_end routes used_len count all idle so_far = let e = none_left routes used_len idle in omega arith

-- ---- used routes
abbrev pub used : List ℕ → ℕ
used route = cond (not (length route == 0)) 1 0

pub used_is : (b : Bool) → from_bool (not b) ≡ cond (not b) 1 0
used_is true = refl
used_is false = refl

pub used_most : (route : List ℕ) → used route ≤ 1
used_most route = by (length route == 0)
  where
    by : (b : Bool) → cond (not b) 1 0 ≤ 1
    by true = omega arith
    by false = omega arith

pub used_more : (routes : List (List ℕ)) (k count new all : ℕ) → k < length routes → new ≡ count + used (route_of routes (k + 1)) → count + used_count (drop k routes) ≡ all
    → new + used_count (drop (k + 1) routes) ≡ all
used_more routes k count new all within made so_far =
    let here : used_count (drop k routes) ≡ used (route_of routes (k + 1)) + used_count (drop (k + 1) routes) =
    ap used_count (drop_at routes k within) ∙ sum_by-cons used (route_of routes (k + 1)) (drop (k + 1) routes) in
    omega arith

none_used : (routes : List (List ℕ)) (used_len : ℕ) → AreIdleAfter used_len routes → used_count (drop used_len routes) ≡ 0
none_used [] zero idle = refl
none_used [] (suc used_len) idle = refl
none_used (r ∷ routes) zero idle =
    let e = sum_by-cons used r routes in
    let here : used r ≡ 0 = ap used (nil_from_length r (idle (suc zero) (omega arith))) in
    let rest : used_count routes ≡ 0 = none_used routes zero (later r routes zero zero (omega arith) idle) in
    e ∙ (let sum : used r + used_count routes ≡ 0 = omega arith in sum)
none_used (r ∷ routes) (suc used_len) idle = none_used routes used_len (later r routes used_len (suc used_len) (omega arith) idle)

pub used_end : (routes : List (List ℕ)) (used_len count all : ℕ) → AreIdleAfter used_len routes → count + used_count (drop used_len routes) ≡ all → count ≡ all
used_end routes used_len count all idle so_far = let e = none_used routes used_len idle in omega arith
