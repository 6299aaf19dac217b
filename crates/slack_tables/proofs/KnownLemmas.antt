-- The two passes compute the values that a table has at each place.
use Rattle.std.proofs.Common.{◌≡◌, ℕ, zero, suc, ◌+◌, ◌-◌, ◌^◌, ◌<◌, ◌≤◌, ◌⊎◌, ◌↔◌, min}
use Rattle.std.proofs.Common.{ℤ, ◌≤ℤ◌, List, get_or, length, refl, sym, ap, ◌∙◌, arith, subst, inl, inr}
use Rattle.std.specs.Prelude.{unsigned_abs}
use Rattle.std.specs.Int.{int_max}
use Rattle.std.proofs.lemmas.Bool.{cases_lt}
use Rattle.std.proofs.lemmas.Int.{ints, clamps}
use Rattle.plan_types.specs.declared.requests.Stop.{Stop}
use Rattle.plan_types.specs.declared.requests.Kind.{Kind}
use Rattle.plan_types.specs.declared.requests.Kind.TheVariants.{LiLim}
use Rattle.slack_tables.specs.Along.{stay, start_along, moved_along, load_along, MeetsLaterWindowsAlong}
use Rattle.slack_tables.specs.DriveSteps.{IsSmall, IsSmallRow}
use Rattle.slack_tables.specs.BackwardPass.{stay_between, latest_before, EachIsTimely, IsFilled}
use Rattle.slack_tables.specs.ForwardPass.{IsWithin, AreForwardRows}
use Rattle.slack_tables.specs.Places.{IsAt, IsKnown}
use Rattle.slack_tables.specs.TableFields.{IsInLimits}
use Rattle.slack_tables.specs.declared.progress.PlaceSlack.{PlaceSlack}
use Rattle.slack_tables.proofs.AlongLemmas.{start-next, length-next, spliced-start}
use Rattle.slack_tables.proofs.LatestLemmas.{IsBound, bound-before}

module _ (kind : Kind) (capacity : ℕ) (stops : ℕ → Stop) (last : ℕ) (limits : IsInLimits kind capacity stops last) where
  -- the schedule's own start misses no later window
  pub continues_within_limits : (k : ℕ) → MeetsLaterWindowsAlong kind stops last k (start_along stops k)
  continues_within_limits k = λ lilim j h l.
      let spliced : start_along stops (k + (j - k)) ≡ moved_along stops k (start_along stops k) (k + (j - k)) =
      spliced-start stops stops k k (λ i. refl) (j - k) in
      let same : start_along stops j ≡ moved_along stops k (start_along stops k) j =
      subst (λ i. start_along stops i ≡ moved_along stops k (start_along stops k) i) (sym (omega arith)) spliced in
      let le = limits.window lilim j (omega arith) l in
      omega arith

  module _ (old : List PlaceSlack) (opened : AreForwardRows stops old) (long : length old ≡ last + 1) where
    stay-is : (k : ℕ) (d : PlaceSlack) → k < last → stay_between (get_or old k d) (get_or old (k + 1) d) ≡ stay stops k
    stay-is k d h =
        let a = opened k d (omega arith) in
        let b = opened (k + 1) d (omega arith) in
        let service : (get_or old k d).at.stop.service ≡ (stops k).service = ap (λ s. s.service) (a.at.stop) in
        omega (arith, length-next stops k)

    pub timely : EachIsTimely kind old
    timely k d h =
        let a = opened k d (omega arith) in
        let b = opened (k + 1) d h in
        record {
          way = omega (arith, length-next stops k);
          short = omega arith;
          arrival = λ lilim. (let s = a.at.start in let t = b.at.start in omega (arith, stay-is k d (omega arith), start-next stops k));
          window = λ lilim. (let le = limits.window lilim (k + 1) (omega arith) (omega arith) in rw (b.at.start, b.at.stop) le);
        }

    module _ (new : List PlaceSlack) (filled : IsFilled kind old new) where
      pub same-at : (k : ℕ) (d : PlaceSlack) → k ≤ last → (get_or new k d).at ≡ (get_or old k d).at
      same-at k d h = by (cases_lt k last)
        where
          by : (k < last) ⊎ (last ≤ k) → (get_or new k d).at ≡ (get_or old k d).at
          by (inl before) = ap (λ e. e.at) (filled.each k d (omega arith))
          by (inr end) = let is : length old - 1 ≡ k = omega arith in subst (λ i. (get_or new i d).at ≡ (get_or old i d).at) is (ap (λ e. e.at) (filled.last d))

      at-known : (k : ℕ) (d : PlaceSlack) → k ≤ last → IsAt stops k (get_or new k d).at
      at-known k d h = subst (IsAt stops k) (sym (same-at k d h)) ((opened k d (omega arith)).at)

      end-is : (d : PlaceSlack) → get_or new last d ≡ get_or old last d
      end-is d = let is : length old - 1 ≡ last = omega arith in subst (λ i. get_or new i d ≡ get_or old i d) is (filled.last d)

      IsFit : ℕ → PlaceSlack → Type 0
      IsFit k d = IsKnown kind stops last k (get_or new k d) × (unsigned_abs (get_or new k d).max_load ≤ 2 ^ 50)

      fit-end : (k : ℕ) (d : PlaceSlack) → k ≡ last → IsFit k d
      unfolding IsFit IsBound
      fit-end k d end =
          let e = opened last d (omega arith) in
          let is : get_or new k d ≡ get_or old last d = ap (λ i. get_or new i d) end ∙ end-is d in
          let limit : (get_or new k d).latest_start ≡ 18446744073709551615 = ap (λ x. x.latest_start) is ∙ e.latest_start in
          let most : (get_or new k d).max_load ≡ load_along stops k =
          ap (λ x. x.max_load) is ∙ (e.max_load ∙ (e.at.load ∙ ap (load_along stops) (sym end))) in
          let few : unsigned_abs (get_or old last d).max_load ≤ 2 ^ 50 = e.small.max_load in (
            record {
              at = at-known k d (omega arith);
              latest_start = λ lilim t small. ((λ _. omega arith), λ _ li j h l. absurd (omega arith));
              limit = λ _ before. absurd (omega arith);
              max_load = λ c. (
                (λ le m h l. (let same : k ≡ m = omega arith in subst (λ i. load_along stops i ≤ℤ c) same (subst (λ x. x ≤ℤ c) most le))),
                (λ each. subst (λ x. x ≤ℤ c) (sym most) (each k (omega arith) (omega arith))),
              );
            },
            subst (λ x. unsigned_abs x.max_load ≤ 2 ^ 50) (sym is) few,
          )

      latest-is : (k : ℕ) (d : PlaceSlack) → kind ≡ LiLim → k < last
          → (get_or new k d).latest_start ≡ min (get_or new (k + 1) d).latest_start (stops (k + 1)).latest - stay stops k
      latest-is k d lilim h =
          let made : (get_or new k d).latest_start ≡ latest_before kind (get_or old k d) (get_or new (k + 1) d) =
          ap (λ x. x.latest_start) (filled.each k d (omega arith)) in
          let by_kind : latest_before kind (get_or old k d) (get_or new (k + 1) d)
          ≡ latest_before LiLim (get_or old k d) (get_or new (k + 1) d) =
          ap (λ q. latest_before q (get_or old k d) (get_or new (k + 1) d)) lilim in
          let next = at-known (k + 1) d (omega arith) in
          let late : (get_or new (k + 1) d).at.stop.latest ≡ (stops (k + 1)).latest = ap (λ s. s.latest) (next.stop) in
          let far : (get_or new (k + 1) d).at.distance ≡ (get_or old (k + 1) d).at.distance = ap (λ a. a.distance) (same-at (k + 1) d (omega arith)) in
          omega (arith, stay-is k d h)

      fit-before : (k : ℕ) (d : PlaceSlack) → k < last → IsFit (k + 1) d → IsFit k d
      unfolding IsFit IsBound
      fit-before k d h next =
          let e = opened k d (omega arith) in
          let f = opened (k + 1) d (omega arith) in
          let known = next.0 in
          let visit = f.small.at.visit in
          let latest : (stops (k + 1)).latest ≤ 100000000 =
          (let v = visit.latest in
          let s : (get_or old (k + 1) d).at.stop.latest ≡ (stops (k + 1)).latest = ap (λ s. s.latest) (f.at.stop) in
          omega arith) in
          let most : (get_or new k d).max_load ≡ int_max (load_along stops k) (get_or new (k + 1) d).max_load =
          ap (λ x. x.max_load) (filled.each k d (omega arith)) ∙ ap (λ x. int_max x (get_or new (k + 1) d).max_load) (e.at.load) in
          let small : unsigned_abs (load_along stops k) ≤ 2 ^ 50 = subst (λ x. unsigned_abs x ≤ 2 ^ 50) (e.at.load) (e.small.at.load) in (
            record {
              at = at-known k d (omega arith);
              latest_start = λ lilim t few.
                  (let start = start-next stops k in
                  let window = limits.window lilim (k + 1) (omega arith) (omega arith) in
                  let fits : start_along stops (k + 1) ≤ (get_or new (k + 1) d).latest_start =
                  (known.latest_start lilim (start_along stops (k + 1)) (omega arith)).0 (continues_within_limits (k + 1)) in
                  let bound = bound-before kind stops last k (get_or new (k + 1) d).latest_start (start_along stops (k + 1)) lilim h
                  (λ u v. known.latest_start lilim u v) (omega arith) fits window latest (omega arith) t few in
                  subst (λ x. MeetsLaterWindowsAlong kind stops last k t ↔ (t ≤ x)) (sym (latest-is k d lilim h)) bound);
              limit = λ lilim _. omega (arith, latest-is k d lilim h);
              max_load = λ c. (
                (λ le m j l. by c le m j l (cases_lt k m) most),
                (λ each. subst (λ x. x ≤ℤ c) (sym most)
                    (let here = each k (omega arith) (omega arith) in
                    let following = (known.max_load c).1 (λ m j l. each m (omega arith) l) in
                    omega (arith, ints, clamps))),
              );
            },
            subst (λ x. unsigned_abs x ≤ 2 ^ 50) (sym most) (let following = next.1 in omega (arith, ints, clamps)),
          )
        where
          by : (c : ℤ) → (get_or new k d).max_load ≤ℤ c → (m : ℕ) → k ≤ m → m ≤ last → (k < m) ⊎ (m ≤ k)
              → (get_or new k d).max_load ≡ int_max (load_along stops k) (get_or new (k + 1) d).max_load → load_along stops m ≤ℤ c
          by c le m j l (inl after) most = (next.0.max_load c).0 (omega (arith, ints, clamps)) m (omega arith) l
          by c le m j l (inr first) most = let same : k ≡ m = omega arith in subst (λ i. load_along stops i ≤ℤ c) same (omega (arith, ints, clamps))

      fit : (r k : ℕ) (d : PlaceSlack) → k + r ≡ last → IsFit k d
      fit zero k d end = fit-end k d (omega arith)
      fit (suc r) k d end = fit-before k d (omega arith) (fit r (k + 1) d (omega arith))

      pub known : (k : ℕ) (d : PlaceSlack) → k ≤ last → IsKnown kind stops last k (get_or new k d)
      unfolding IsFit
      known k d h = (fit (last - k) k d (omega arith)).0

      pub small : (k : ℕ) (d : PlaceSlack) → k ≤ last → IsSmallRow (get_or new k d)
      unfolding IsFit
      small k d h = record {
        at = subst (IsSmall (2 ^ 50)) (sym (same-at k d h)) ((opened k d (omega arith)).small.at);
        max_load = (fit (last - k) k d (omega arith)).1;
      }

      pub within : (k : ℕ) (d : PlaceSlack) → k ≤ last → IsWithin k (get_or new k d).at
      within k d h = subst (IsWithin k) (sym (same-at k d h)) ((opened k d (omega arith)).within)
