-- A route that continues from a place of another route. It keeps its limits if the stops in between do, and if
-- the vehicle reaches the joining place in time and with a small enough load.
use Rattle.std.proofs.Common.{◌≡◌, ℕ, ◌+◌, ◌-◌, ◌<◌, ◌≤◌, ◌⊎◌, Bool, true, false, cond, ◌&&◌, int_le, ℤ, pos}
use Rattle.std.proofs.Common.{◌+ℤ◌, ◌-ℤ◌, ◌≤ℤ◌, Option, Some, None, refl, sym, ap, ◌∙◌, arith, subst, inl, inr, T}
use Rattle.std.specs.Prelude.{MatchOption}
use Rattle.std.specs.Option.{option_and_then}
use Rattle.std.proofs.lemmas.Bool.{and_parts, and_cases, cases_lt, leb-true, leb-false}
use Rattle.std.proofs.lemmas.Int.{ints}
use Rattle.plan_types.specs.declared.requests.Stop.{Stop}
use Rattle.plan_types.specs.declared.requests.Kind.{Kind}
use Rattle.plan_types.specs.declared.requests.Kind.TheVariants.{LiLim, Vrp}
use Rattle.nint_dist.specs.Distance.{distance}
use Rattle.slack_tables.specs.Along.{start_along, moved_along, load_along, length_along, MeetsLaterWindowsAlong}
use Rattle.slack_tables.specs.DriveSteps.{driven_on, stepped, with_stop}
use Rattle.slack_tables.specs.Ride.{ride_of, is_in_time, is_within_limits, tail_is_within_limits, price}
use Rattle.slack_tables.specs.TableFields.{IsInLimits}
use Rattle.slack_tables.specs.Places.{IsAt, IsKnown}
use Rattle.slack_tables.specs.declared.progress.Limits.{Limits}
use Rattle.slack_tables.specs.declared.progress.Progress.{Progress}
use Rattle.slack_tables.specs.declared.progress.PlaceSlack.{PlaceSlack}
use Rattle.slack_tables.proofs.AlongLemmas.{start-next, load-next, length-next, spliced-start, spliced-load, spliced-length}

-- ---- tests
pub int_le-true : (x y : ℤ) → int_le x y ≡ true → x ≤ℤ y
int_le-true x y h = record { le = subst T (sym h) tt }

pub int_le-false : (x y : ℤ) → int_le x y ≡ false → x ≤ℤ y → ⊥
int_le-false x y h le = subst T h (le.le)

in_time-true : (kind : Kind) (t u : ℕ) → is_in_time kind t u ≡ true → kind ≡ LiLim → t ≤ u
in_time-true LiLim t u h lilim = leb-true _ _ h
in_time-true Vrp t u h lilim = absurd (cc)

in_time-false : (kind : Kind) (t u : ℕ) → is_in_time kind t u ≡ false → (kind ≡ LiLim) × (u < t)
in_time-false LiLim t u h = (refl, leb-false _ _ h)
in_time-false Vrp t u h = absurd (cc)

-- ---- the next stop
pub at-next : (stops : ℕ → Stop) (k : ℕ) (a : Progress) (s : Stop) → IsAt stops k a → s ≡ stops (k + 1) → IsAt stops (k + 1) (driven_on a s)
at-next stops k a s is next =
    let way : distance a.stop s ≡ distance (stops k) (stops (k + 1)) = rw (is.stop, next) refl in
    let service : a.stop.service ≡ (stops k).service = ap (λ x. x.service) (is.stop) in
    let early : s.earliest ≡ (stops (k + 1)).earliest = ap (λ x. x.earliest) next in
    let start = is.start in
    record {
      stop = next;
      start = omega (arith, start-next stops k);
      load = rw (is.load, next) (sym (load-next stops k));
      distance = omega (arith, length-next stops k);
    }

-- ---- a place that keeps the limits
module _ (limits : Limits) (stops : ℕ → Stop) where
  pub record Keeps (k : ℕ) : Type 0 where
    pub load : load_along stops k ≤ℤ pos limits.capacity
    pub window : limits.kind ≡ LiLim → start_along stops k ≤ (stops k).latest

  pub keeps-true : (k : ℕ) (a : Progress) → IsAt stops k a → is_within_limits limits (ride_of a) a.stop ≡ true → Keeps k
  keeps-true k a is h =
      let both = and_parts _ _ h in
      record {
        load = subst (λ x. x ≤ℤ pos limits.capacity) (is.load) (int_le-true _ _ (both.0));
        window = λ lilim. (let le : a.start ≤ a.stop.latest = in_time-true limits.kind _ _ (both.1) lilim in rw (← is.start, ← is.stop) le);
      }

  pub keeps-false : (k : ℕ) (a : Progress) → IsAt stops k a → is_within_limits limits (ride_of a) a.stop ≡ false → Keeps k → ⊥
  keeps-false k a is h keep = by (and_cases _ _ h)
    where
      by : (int_le a.load (pos limits.capacity) ≡ false) ⊎ (is_in_time limits.kind a.start a.stop.latest ≡ false) → ⊥
      by (inl over) = int_le-false _ _ over (subst (λ x. x ≤ℤ pos limits.capacity) (sym (is.load)) (keep.load))
      by (inr late) =
          let missed = in_time-false limits.kind _ _ late in
          let reached : a.start ≤ a.stop.latest = rw (is.start, is.stop) (keep.window missed.0) in
          let after = missed.1 in absurd (omega arith)

  -- ---- the places up to place n
  abbrev pub In : ℕ → Type 0
  In n = IsInLimits limits.kind limits.capacity stops n

  pub kept-none : In 0
  kept-none = record { load = λ k h j. absurd (omega arith); window = λ lilim k h j. absurd (omega arith) }

  pub kept-fewer : (m n : ℕ) → m ≤ n → In n → In m
  kept-fewer m n le is = record { load = λ k h j. is.load k h (omega arith); window = λ lilim k h j. is.window lilim k h (omega arith) }

  pub kept-here : (k n : ℕ) → 1 ≤ k → k ≤ n → In n → Keeps k
  kept-here k n h j is = record { load = is.load k h j; window = λ lilim. is.window lilim k h j }

  kept-following : (n l : ℕ) → In n → ((k : ℕ) → n < k → k ≤ l → Keeps k) → In l
  kept-following n l is each = record { load = λ k h j. (all k h j).load; window = λ lilim k h j. (all k h j).window lilim }
    where
      all : (k : ℕ) → 1 ≤ k → k ≤ l → Keeps k
      all k h j = elim (cases_lt n k) [
        | inl after ↦ each k after j
        | inr before ↦ kept-here k n h before is
      ]

  pub kept-more : (n : ℕ) (a : Progress) → In n → IsAt stops (n + 1) a → is_within_limits limits (ride_of a) a.stop ≡ true → In (n + 1)
  kept-more n a is at keep = kept-following n (n + 1) is (λ k h l. let e : n + 1 ≡ k = omega arith in subst Keeps e (keeps-true (n + 1) a at keep))

  -- ---- a trip to place n
  unfoldable pub WalkIs : ℕ → Option Progress → Type 0
  WalkIs n o = MatchOption o (In n → ⊥) (λ a. IsAt stops n a × In n)

  -- the trip continues by one stop
  pub walk-on : (n : ℕ) (o : Option Progress) (s : Stop) → WalkIs n o → s ≡ stops (n + 1) → WalkIs (n + 1) (option_and_then (λ a. stepped limits a s) o)
  unfolding WalkIs
  walk-on n None s never next = λ is. never (kept-fewer n (n + 1) (omega arith) is)
  walk-on n (Some a) s is next = by (is_within_limits limits (ride_of (driven_on a s)) s) refl
    where
      there : IsAt stops (n + 1) (driven_on a s)
      there = at-next stops n a s is.0 next

      by : (b : Bool) → is_within_limits limits (ride_of (driven_on a s)) s ≡ b
          → MatchOption (cond b (Some (driven_on a s)) None) (In (n + 1) → ⊥) (λ a. IsAt stops (n + 1) a × In (n + 1))
      by true h = (there, kept-more n _ is.1 there h)
      by false h = λ all. keeps-false (n + 1) _ there h (kept-here (n + 1) (n + 1) (omega arith) (omega arith) all)

  -- the distance by which the whole route is longer than `old`, or `None` if the route exceeds a limit
  unfoldable pub EndIs : ℕ → ℕ → Option ℤ → Type 0
  EndIs l old o = MatchOption o (In l → ⊥) (λ added. In l × (pos (length_along stops l) ≡ pos old +ℤ added))

  pub end-then : (n l old : ℕ) (o : Option Progress) (f : Progress → Option ℤ) → n ≤ l → WalkIs n o
      → ((a : Progress) → IsAt stops n a → In n → EndIs l old (f a)) → EndIs l old (option_and_then f o)
  unfolding WalkIs EndIs
  end-then n l old None f le never rest = λ is. never (kept-fewer n l le is)
  end-then n l old (Some a) f le is rest = rest a is.0 is.1

-- ---- the rest: place n of the old route and all later ones, at place s of the new one
module _ (limits : Limits) (a b : ℕ → Stop) (n s rest : ℕ) (same : (k : ℕ) → b (s + k) ≡ a (n + k)) where
  same-here : b s ≡ a n
  same-here = let p : s + 0 ≡ s = omega arith in let q : n + 0 ≡ n = omega arith in subst (λ k. b k ≡ a n) p (subst (λ k. b (s + 0) ≡ a k) q (same 0))

  -- the loads in the rest are the old loads plus a difference, so they are at most c exactly if the old ones
  -- are at most e
  loads-true : (c e : ℤ) → e ≡ c -ℤ (load_along b s -ℤ load_along a n) → ((m : ℕ) → n ≤ m → m ≤ n + rest → load_along a m ≤ℤ e)
      → (k : ℕ) → s ≤ k → k ≤ s + rest → load_along b k ≤ℤ c
  loads-true c e is old k h l =
      let spliced : load_along b k +ℤ load_along a n ≡ load_along a (n + (k - s)) +ℤ load_along b s =
      subst (λ i. load_along b i +ℤ load_along a n ≡ load_along a (n + (k - s)) +ℤ load_along b s) (sym (omega arith))
      (spliced-load a b n s same (k - s)) in
      let le = old (n + (k - s)) (omega arith) (omega arith) in
      omega (arith, ints)

  loads-back : (c e : ℤ) → e ≡ c -ℤ (load_along b s -ℤ load_along a n) → ((k : ℕ) → s ≤ k → k ≤ s + rest → load_along b k ≤ℤ c)
      → (m : ℕ) → n ≤ m → m ≤ n + rest → load_along a m ≤ℤ e
  loads-back c e is new m h l =
      let spliced : load_along b (s + (m - n)) +ℤ load_along a n ≡ load_along a m +ℤ load_along b s =
      subst (λ i. load_along b (s + (m - n)) +ℤ load_along a n ≡ load_along a i +ℤ load_along b s) (sym (omega arith))
      (spliced-load a b n s same (m - n)) in
      let le = new (s + (m - n)) (omega arith) (omega arith) in
      omega (arith, ints)

  -- the rest is in time exactly if its first start misses no later window
  continues_within_limits-true : MeetsLaterWindowsAlong limits.kind a (n + rest) n (start_along b s) → limits.kind ≡ LiLim → (k : ℕ) → s < k → k ≤ s + rest
      → start_along b k ≤ (b k).latest
  continues_within_limits-true goes lilim k h l =
      let le = goes lilim (n + (k - s)) (omega arith) (omega arith) in
      let le' : start_along b (s + (k - s)) ≤ (b (s + (k - s))).latest = rw (spliced-start a b n s same (k - s), same (k - s)) le in
      subst (λ i. start_along b i ≤ (b i).latest) (sym (omega arith)) le'

  continues_within_limits-back : ((k : ℕ) → s < k → k ≤ s + rest → start_along b k ≤ (b k).latest) → MeetsLaterWindowsAlong limits.kind a (n + rest) n (start_along b s)
  continues_within_limits-back each = λ lilim k h l.
      let le = each (s + (k - n)) (omega arith) (omega arith) in
      let le' : moved_along a n (start_along b s) (n + (k - n)) ≤ (a (n + (k - n))).latest = rw (← spliced-start a b n s same (k - n), ← same (k - n)) le in
      subst (λ i. moved_along a n (start_along b s) i ≤ (a i).latest) (sym (omega arith)) le'

  module _ (tail : PlaceSlack) (known : IsKnown limits.kind a (n + rest) n tail) (late : (a n).latest ≤ 100000000) where
    -- the rest keeps the limits exactly if the table's values at place n allow the load and the time at place s
    bears-true : (at : Progress) → IsAt b s at → Keeps limits b s → tail_is_within_limits limits (ride_of at) tail ≡ true → (k : ℕ) → s < k → k ≤ s + rest → Keeps limits b k
    bears-true at is here h k m l =
        let both = and_parts _ _ h in
        let e = pos limits.capacity -ℤ (load_along b s -ℤ load_along a n) in
        let light : (at.load -ℤ tail.at.load +ℤ tail.max_load) ≤ℤ pos limits.capacity = int_le-true _ _ (both.0) in
        let most : tail.max_load ≤ℤ e = omega (arith, ints) in
        record {
          load = loads-true (pos limits.capacity) e refl ((known.max_load e).0 most) k (omega arith) l;
          window = λ lilim.
              (let le : at.start ≤ tail.latest_start = in_time-true limits.kind _ _ (both.1) lilim in
              continues_within_limits-true ((known.latest_start lilim (start_along b s) (omega arith)).1 (omega arith)) lilim k m l);
        }

    bears-false : (at : Progress) → IsAt b s at → Keeps limits b s → tail_is_within_limits limits (ride_of at) tail ≡ false
        → ((k : ℕ) → s < k → k ≤ s + rest → Keeps limits b k) → ⊥
    bears-false at is here h each = by (and_cases _ _ h)
      where
        split : (k : ℕ) → s ≤ k → k ≤ s + rest → (s < k) ⊎ (k ≤ s) → load_along b k ≤ℤ pos limits.capacity
        split k h l (inl after) = (each k after l).load
        split k h l (inr first) = let e : s ≡ k = omega arith in subst (λ i. load_along b i ≤ℤ pos limits.capacity) e (here.load)

        by : (int_le (at.load -ℤ tail.at.load +ℤ tail.max_load) (pos limits.capacity) ≡ false)
            ⊎ (is_in_time limits.kind at.start tail.latest_start ≡ false)
            → ⊥
        by (inl over) =
            let e = pos limits.capacity -ℤ (load_along b s -ℤ load_along a n) in
            let most : tail.max_load ≤ℤ e = (known.max_load e).1 (loads-back (pos limits.capacity) e refl (λ k h l. split k h l (cases_lt s k))) in
            let light : (at.load -ℤ tail.at.load +ℤ tail.max_load) ≤ℤ pos limits.capacity = omega (arith, ints) in
            int_le-false _ _ over light
        by (inr missed) =
            let kind = in_time-false limits.kind _ _ missed in
            let window = here.window kind.0 in
            let stop : (b s).latest ≡ (a n).latest = ap (λ x. x.latest) same-here in
            let goes = continues_within_limits-back (λ k h l. (each k h l).window kind.0) in
            let le = (known.latest_start kind.0 (start_along b s) (omega arith)).0 goes in
            absurd (omega arith)

    -- the distance by which the new route is longer
    added-is : (at : Progress) → IsAt b s at → pos (length_along b (s + rest)) ≡ pos (length_along a (n + rest)) +ℤ (pos at.distance -ℤ pos tail.at.distance)
    added-is at is =
        let spliced = spliced-length a b n s same rest in
        omega (arith, ints)

    -- a route that continues with a stop, then with place n and all later ones
    pub stop-is : (m : ℕ) (at : Progress) (stop : Stop) → m + 1 + 1 ≡ s → IsAt b m at → In limits b m → stop ≡ b (m + 1)
        → EndIs limits b (s + rest) (length_along a (n + rest)) (with_stop limits at stop tail)
    unfolding EndIs
    stop-is m at stop next is kept here =
        by (is_within_limits limits (ride_of first) stop) (is_within_limits limits (ride_of second) tail.at.stop)
        (tail_is_within_limits limits (ride_of second) tail) refl refl refl
      where
        first : Progress
        first = driven_on at stop

        second : Progress
        second = driven_on (driven_on at stop) tail.at.stop

        at-first : IsAt b (m + 1) first
        at-first = at-next b m at stop is here

        at-second : IsAt b s second
        at-second = subst (λ k. IsAt b k second) next (at-next b (m + 1) first tail.at.stop at-first (known.at.stop ∙ (sym same-here ∙ ap b (sym next))))

        all-in : is_within_limits limits (ride_of first) stop ≡ true → is_within_limits limits (ride_of second) tail.at.stop ≡ true
            → tail_is_within_limits limits (ride_of second) tail ≡ true → In limits b (s + rest)
        all-in g h j =
            let to_s = kept-following limits b (m + 1) s (kept-more limits b m first kept at-first g)
            (λ k p l. let e : s ≡ k = omega arith in subst (Keeps limits b) e (keeps-true limits b s second at-second h)) in
            kept-following limits b s (s + rest) to_s (bears-true second at-second (keeps-true limits b s second at-second h) j)

        by : (k l t : Bool) → is_within_limits limits (ride_of first) stop ≡ k → is_within_limits limits (ride_of second) tail.at.stop ≡ l
            → tail_is_within_limits limits (ride_of second) tail ≡ t
            → EndIs limits b (s + rest) (length_along a (n + rest))
            (cond (k && (l && t)) (Some (price (ride_of at) (distance at.stop stop) (distance stop tail.at.stop) tail)) None)
        by false l t h _ _ = λ all. keeps-false limits b (m + 1) first at-first h (kept-here limits b (m + 1) (s + rest) (omega arith) (omega arith) all)
        by true false t _ h _ = λ all. keeps-false limits b s second at-second h (kept-here limits b s (s + rest) (omega arith) (omega arith) all)
        by true true false _ h j = λ all.
            bears-false second at-second (keeps-true limits b s second at-second h) j
            (λ k p l. kept-here limits b k (s + rest) (omega arith) l all)
        by true true true g h j = (all-in g h j, added-is second at-second)
