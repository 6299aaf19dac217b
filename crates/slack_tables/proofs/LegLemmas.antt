-- The least detours from each place of a table on.
use Rattle.std.proofs.Common.{◌≡◌, ◌≢◌, ℕ, ◌+◌, ◌^◌, ◌<◌, ◌≤◌, ◌⊎◌, ℤ, pos, ◌-ℤ◌, ◌≤ℤ◌}
use Rattle.std.proofs.Common.{List, get_or, set, length, sym, ap, ◌∙◌, arith, subst, inl, inr, get_or-set_same, get_or-set_other}
use Rattle.std.specs.Prelude.{unsigned_abs}
use Rattle.std.specs.Int.{int_min}
use Rattle.std.proofs.Math.ListN.{length-set}
use Rattle.std.proofs.lemmas.Bool.{cases_lt}
use Rattle.std.proofs.lemmas.Int.{ints, clamps}
use Rattle.plan_types.specs.declared.requests.Stop.{Stop}
use Rattle.nint_dist.specs.Distance.{distance}
use Rattle.slack_tables.specs.Legs.{detour_of}
use Rattle.slack_tables.specs.declared.progress.PlaceSlack.{PlaceSlack}

-- ---- backward: the least detours from place k on
pub record AreLeastFrom (places : List PlaceSlack) (s : Stop) (k : ℕ) (least : List ℤ) : Type 0 where
  pub long : length least ≡ length places
  pub lower : (i m : ℕ) (d : PlaceSlack) → k ≤ i → i < length least → i ≤ m → m + 1 < length places → get_or least i (pos 0) ≤ℤ detour_of places s m d
  pub small : (i : ℕ) → k ≤ i → i < length least → unsigned_abs (get_or least i (pos 0)) ≤ 2 ^ 60

-- lower bounds on both distances yield a lower bound on the detour
pub detour-below : (places : List PlaceSlack) (s : Stop) (m : ℕ) (d : PlaceSlack) (here next : PlaceSlack) (to from : ℕ) → here ≡ get_or places m d
    → next ≡ get_or places (m + 1) d → to ≤ distance (get_or places m d).at.stop s → from ≤ distance (get_or places (m + 1) d).at.stop s
    → (pos (here.at.distance + to + from) -ℤ pos next.at.distance) ≤ℤ detour_of places s m d
detour-below places s m d here next to from is_here is_next is_to is_from =
    let before = ap (λ (e : PlaceSlack). e.at.distance) is_here in
    let after = ap (λ (e : PlaceSlack). e.at.distance) is_next in
    omega (arith, ints)

module _ (places : List PlaceSlack) (s : Stop) (k : ℕ) (least : List ℤ) (x y : ℤ) (is : AreLeastFrom places s (k + 1) least)
    (within : k + 1 < length least) (detour : (d : PlaceSlack) → x ≤ℤ detour_of places s k d)
    (next : y ≡ int_min x (get_or least (k + 1) (pos 0))) where
  here : get_or (set least k y) k (pos 0) ≡ y
  here = get_or-set_same least k y (pos 0) (omega arith)

  other : (i : ℕ) → i ≢ k → get_or (set least k y) i (pos 0) ≡ get_or least i (pos 0)
  other i ne = get_or-set_other least k i y (pos 0) ne

  lower-here : (m : ℕ) (d : PlaceSlack) → k ≤ m → m + 1 < length places → y ≤ℤ detour_of places s m d
  lower-here m d h l = by (cases_lt k m)
    where
      by : (k < m) ⊎ (m ≤ k) → y ≤ℤ detour_of places s m d
      by (inl after) = let le = is.lower (k + 1) m d (omega arith) within (omega arith) l in omega (arith, ints, clamps)
      by (inr first) =
          let le = detour d in
          let here : y ≤ℤ detour_of places s k d = omega (arith, ints, clamps) in
          subst (λ n. y ≤ℤ detour_of places s n d) (omega arith) here

  pub least-more : unsigned_abs x ≤ 2 ^ 60 → AreLeastFrom places s k (set least k y)
  least-more small = record {
    long = length-set least k y ∙ is.long;
    lower = λ i m d h l n r. lower-by i m d h l n r (cases_lt k i);
    small = λ i h l. small-by i h l (cases_lt k i);
  }
    where
      lower-by : (i m : ℕ) (d : PlaceSlack) → k ≤ i → i < length (set least k y) → i ≤ m → m + 1 < length places → (k < i) ⊎ (i ≤ k)
          → get_or (set least k y) i (pos 0) ≤ℤ detour_of places s m d
      lower-by i m d h l n r (inl after) =
          subst (λ z. z ≤ℤ detour_of places s m d) (sym (other i (omega arith)))
          (is.lower i m d (omega arith) (omega (arith, length-set least k y)) n r)
      lower-by i m d h l n r (inr first) =
          subst (λ n. get_or (set least k y) n (pos 0) ≤ℤ detour_of places s m d) (omega arith)
          (subst (λ z. z ≤ℤ detour_of places s m d) (sym here) (lower-here m d (omega arith) r))

      small-by : (i : ℕ) → k ≤ i → i < length (set least k y) → (k < i) ⊎ (i ≤ k) → unsigned_abs (get_or (set least k y) i (pos 0)) ≤ 2 ^ 60
      small-by i h l (inl after) =
          subst (λ z. unsigned_abs z ≤ 2 ^ 60) (sym (other i (omega arith)))
          (is.small i (omega arith) (omega (arith, length-set least k y)))
      small-by i h l (inr first) =
          let next_small = is.small (k + 1) (omega arith) within in
          let small_here : unsigned_abs y ≤ 2 ^ 60 = omega (arith, ints, clamps) in
          subst (λ n. unsigned_abs (get_or (set least k y) n (pos 0)) ≤ 2 ^ 60) (omega arith) (subst (λ z. unsigned_abs z ≤ 2 ^ 60) (sym here) small_here)
