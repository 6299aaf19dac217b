-- The pins and routes that are read are those that were written
use Rattle.std.proofs.Common.{true, ◌≡◌, ℕ, zero, suc, ◌+◌, ◌^◌, ◌<◌, ◌≤◌, List, [], ◌∷◌, ◌++◌, length, take, Ok, refl, sym, ap, subst, ◌∙◌, append_assoc, arith, length-append, length-take}
use Rattle.std.specs.Prelude.{nat_le}
use Rattle.std.specs.List.{AllByRecursion}
use Rattle.std.proofs.lemmas.Bool.{leb-true, le-leb}
use Rattle.std.proofs.lemmas.List.{append-nil}
use Rattle.state_codec.specs.declared.version.Version.{Version}
use Rattle.state_codec.specs.Bytes.{count_bytes, width, stops_bytes, vehicles_bytes, routes_bytes}
use Rattle.state_codec.specs.Fields.{only, number_at}
use Rattle.state_codec.specs.Reading.{times, next_stop, vehicle_at, next_vehicle, route_at, next_route}
use Rattle.state_codec.proofs.FieldLaws.{IsBytes, Takes, takes_then, step, bind_ok, ok_is, number_takes, number_again, of_width, only_again, only_ok}
use Rattle.state_codec.proofs.RequestLaws.{number_only}
use Rattle.state_codec.proofs.TimesLaws.{Adds, times_take, AreNext, times_again, added_after, flat_map_one}

-- ---- stops

stop_takes : (v : Version) (a : List ℕ) (bytes : List ℕ) → Unit {0} → IsBytes bytes → (y : List ℕ × List ℕ) → next_stop v a bytes ≡ Ok y → Adds (stops_bytes v) length (λ _. Unit {0}) 1 a bytes y
stop_takes v a bytes none fits y e =
    let b = bind_ok (number_at (width v) bytes) (λ n. Ok (a ++ n.0 ∷ [], n.1)) y e in
    let t = number_takes (width v) (of_width v) bytes b.0 fits b.1 in
    subst (λ (z : List ℕ × List ℕ). Adds (stops_bytes v) length (λ _. Unit {0}) 1 a bytes z) (ok_is (a ++ b.0.0 ∷ [], b.0.1) y b.2)
    (record { added = count_bytes v b.0.0; taken = t.0; whole = flat_map_one (count_bytes v) a b.0.0; count = length-append a (b.0.0 ∷ []); kept = tt })

pub stops_len : (v : Version) (n : ℕ) (a bytes : List ℕ) (y : List ℕ × List ℕ) → times (next_stop v) n a bytes ≡ Ok y → length y.0 ≡ length a + n
unfolding times
stops_len v zero a bytes y e = let same = ok_is (a, bytes) y e in omega (arith, ap (λ (z : List ℕ × List ℕ). length z.0) same)
stops_len v (suc n) a bytes y e =
    let b = bind_ok (next_stop v a bytes) (λ x. times (next_stop v) n x.0 x.1) y e in
    let d = bind_ok (number_at (width v) bytes) (λ x. Ok (a ++ x.0 ∷ [], x.1)) b.0 b.1 in
    let one : length b.0.0 ≡ length a + 1 = ap (λ (z : List ℕ × List ℕ). length z.0) (sym (ok_is (a ++ d.0.0 ∷ [], d.0.1) b.0 d.2)) ∙ length-append a (d.0.0 ∷ []) in
    omega (arith, one, stops_len v n b.0.0 b.0.1 y b.2)

-- A pin that was read is no longer than its route
pub pin_fits : (v : Version) (pin len : ℕ) (bytes rest after : List ℕ) (stops : List ℕ) → only (nat_le pin) (number_at (width v) bytes) ≡ Ok (len, rest)
    → times (next_stop v) len [] rest ≡ Ok (stops, after) → pin ≤ length stops
pin_fits v pin len bytes rest after stops e f =
    let o = only_ok (nat_le pin) (number_at (width v) bytes) (len, rest) e in
    let n = stops_len v len [] rest (stops, after) f in
    omega (arith, n, leb-true pin len o.1)

-- Reading n stops consumes exactly their bytes
pub stops_take : (v : Version) (n : ℕ) (bytes : List ℕ) → IsBytes bytes → (y : List ℕ × List ℕ) → times (next_stop v) n [] bytes ≡ Ok y → Takes bytes (stops_bytes v y.0) y.1 × (length y.0 ≡ n)
stops_take v n bytes fits y e =
    let t = times_take (next_stop v) (stops_bytes v) length (λ _. Unit {0}) (stop_takes v) n [] bytes tt fits y e in
    (subst (λ w. Takes bytes w y.1) (sym t.whole) t.taken, omega (arith, t.count))

abbrev pub HaveRoom : Version → List ℕ → Type 0
HaveRoom v stops = AllByRecursion (λ n. n < 256 ^ width v) stops

pub stops_again : (v : Version) (stops rest : List ℕ) → HaveRoom v stops → times (next_stop v) (length stops) [] (stops_bytes v stops ++ rest) ≡ Ok (stops, rest)
stops_again v stops rest room =
    let IsNext : List ℕ → ℕ → Type 0 = λ before n. n < 256 ^ width v in
    let all = times_again (λ (before : List ℕ) (n : ℕ). before ++ n ∷ []) (count_bytes v) IsNext (next_stop v)
    (λ a n more lt. rw (number_again (width v) n more lt) refl) stops [] rest (next stops [] room) in
    all ∙ ap (λ (s : List ℕ). Ok (s, rest)) (added_after (count_bytes v) IsNext stops [])
  where
    next : (ns before : List ℕ) → HaveRoom v ns → AreNext (λ (b : List ℕ) (n : ℕ). b ++ n ∷ []) (count_bytes v) (λ (b : List ℕ) (n : ℕ). n < 256 ^ width v) before ns
    next [] before h = tt
    next (n ∷ ns) before h = (h.0, next ns (before ++ n ∷ []) h.1)

-- ---- routes

pub route_takes : (v : Version) (bytes : List ℕ) → IsBytes bytes → (y : List ℕ × List ℕ) → route_at v bytes ≡ Ok y → Takes bytes (count_bytes v (length y.0) ++ stops_bytes v y.0) y.1
unfolding route_at
route_takes v bytes fits y e =
    let b = bind_ok (number_at (width v) bytes) (λ len. times (next_stop v) len.0 [] len.1) y e in
    let t = number_takes (width v) (of_width v) bytes b.0 fits b.1 in
    let s = stops_take v b.0.0 b.0.1 t.0.rest_fits y b.2 in
    takes_then bytes (count_bytes v (length y.0)) b.0.1 (stops_bytes v y.0) y.1 (subst (λ n. Takes bytes (count_bytes v n) b.0.1) (sym s.1) t.0) s.0

pub route_again : (v : Version) (route rest : List ℕ) → HaveRoom v route → length route < 256 ^ width v → route_at v ((count_bytes v (length route) ++ stops_bytes v route) ++ rest) ≡ Ok (route, rest)
unfolding route_at
route_again v route rest room short =
    ap (route_at v) (append_assoc (count_bytes v (length route)) (stops_bytes v route) rest)
    ∙ rw (number_again (width v) (length route) (stops_bytes v route ++ rest) short) (stops_again v route rest room)

abbrev route_word : Version → List ℕ → List ℕ
route_word v route = count_bytes v (length route) ++ stops_bytes v route

next_route_takes : (v : Version) (a : List (List ℕ)) (bytes : List ℕ) → Unit {0} → IsBytes bytes → (y : List (List ℕ) × List ℕ) → next_route v a bytes ≡ Ok y
    → Adds (routes_bytes v) length (λ _. Unit {0}) 1 a bytes y
next_route_takes v a bytes none fits y e =
    let b = bind_ok (route_at v bytes) (λ r. Ok (a ++ r.0 ∷ [], r.1)) y e in
    let t = route_takes v bytes fits b.0 b.1 in
    subst (λ (z : List (List ℕ) × List ℕ). Adds (routes_bytes v) length (λ _. Unit {0}) 1 a bytes z) (ok_is (a ++ b.0.0 ∷ [], b.0.1) y b.2)
    (record { added = route_word v b.0.0; taken = t; whole = flat_map_one (route_word v) a b.0.0; count = length-append a (b.0.0 ∷ []); kept = tt })

pub routes_take : (v : Version) (n : ℕ) (bytes : List ℕ) → IsBytes bytes → (y : List (List ℕ) × List ℕ) → times (next_route v) n [] bytes ≡ Ok y
    → Takes bytes (routes_bytes v y.0) y.1 × (length y.0 ≡ n)
routes_take v n bytes fits y e =
    let t = times_take (next_route v) (routes_bytes v) length (λ _. Unit {0}) (next_route_takes v) n [] bytes tt fits y e in
    (subst (λ w. Takes bytes w y.1) (sym t.whole) t.taken, omega (arith, t.count))

-- A route that can be written
pub record IsWritable (v : Version) (route : List ℕ) : Type 0 where
  pub stops : HaveRoom v route
  pub short : length route < 256 ^ width v

pub routes_again : (v : Version) (routes : List (List ℕ)) (rest : List ℕ) → AllByRecursion (IsWritable v) routes
    → times (next_route v) (length routes) [] (routes_bytes v routes ++ rest) ≡ Ok (routes, rest)
routes_again v routes rest fit =
    let IsNext : List (List ℕ) → List ℕ → Type 0 = λ before r. IsWritable v r in
    let all = times_again (λ (before : List (List ℕ)) (r : List ℕ). before ++ r ∷ []) (route_word v) IsNext (next_route v)
    (λ a r more w. rw (route_again v r more w.stops w.short) refl) routes [] rest (next routes [] fit) in
    all ∙ ap (λ (s : List (List ℕ)). Ok (s, rest)) (added_after (route_word v) IsNext routes [])
  where
    next : (rs before : List (List ℕ)) → AllByRecursion (IsWritable v) rs
        → AreNext (λ (b : List (List ℕ)) (r : List ℕ). b ++ r ∷ []) (route_word v) (λ (b : List (List ℕ)) (r : List ℕ). IsWritable v r) before rs
    next [] before h = tt
    next (r ∷ rs) before h = (h.0, next rs (before ++ r ∷ []) h.1)

-- ---- vehicles

abbrev vehicle_word : Version → List ℕ × List ℕ → List ℕ
vehicle_word v e = count_bytes v (length e.0) ++ (count_bytes v (length e.1) ++ stops_bytes v e.1)

pub record BeginsRoute (pin route : List ℕ) : Type 0 where
  pub prefix : take (length pin) route ≡ pin
  pub within : length pin ≤ length route

pub vehicle_takes : (v : Version) (bytes : List ℕ) → IsBytes bytes → (y : (List ℕ × List ℕ) × List ℕ) → vehicle_at v bytes ≡ Ok y → Takes bytes (vehicle_word v y.0) y.1
unfolding vehicle_at
vehicle_takes v bytes fits y e =
    step (number_at (width v) bytes) _ y bytes (count_bytes v) (λ n. n < 256 ^ width v) (λ a h. number_takes (width v) (of_width v) bytes a fits h) e (λ p tp pp ep.
    step (only (nat_le p.0) (number_at (width v) p.1)) _ y p.1 (count_bytes v) (λ n. nat_le p.0 n ≡ true)
    (number_only (nat_le p.0) (width v) (number_takes (width v) (of_width v)) p.1 tp.rest_fits) ep (λ l tl pl el.
    step (times (next_stop v) l.0 [] l.1) _ y l.1 (stops_bytes v) (λ s. length s ≡ l.0) (λ a h. stops_take v l.0 l.1 tl.rest_fits a h) el (λ r tr pr er.
    let within = leb-true p.0 l.0 pl in
    let pin-len : length (take p.0 r.0) ≡ p.0 = omega (arith, length-take p.0 r.0, pr, within) in
    let tail = takes_then l.1 (stops_bytes v r.0) r.1 [] r.1 tr (record { parts = refl; rest_fits = tr.rest_fits }) in
    let t1 = takes_then p.1 (count_bytes v (length r.0)) l.1 (stops_bytes v r.0) r.1 (subst (λ n. Takes p.1 (count_bytes v n) l.1) (sym pr) tl) tr in
    let t0 = takes_then bytes (count_bytes v (length (take p.0 r.0))) p.1 (count_bytes v (length r.0) ++ stops_bytes v r.0) r.1 (subst (λ n. Takes bytes (count_bytes v n) p.1) (sym pin-len) tp) t1 in
    subst (λ (z : (List ℕ × List ℕ) × List ℕ). Takes bytes (vehicle_word v z.0) z.1) (ok_is ((take p.0 r.0, r.0), r.1) y er) t0)))

pub vehicle_again : (v : Version) (pin route rest : List ℕ) → BeginsRoute pin route → IsWritable v route → vehicle_at v (vehicle_word v (pin, route) ++ rest) ≡ Ok ((pin, route), rest)
unfolding vehicle_at
vehicle_again v pin route rest prefix fit =
    let stops = stops_bytes v route ++ rest in
    let len = count_bytes v (length route) ++ stops in
    let regrouped : vehicle_word v (pin, route) ++ rest ≡ count_bytes v (length pin) ++ len = simp append_assoc in
    ap (vehicle_at v) regrouped
    ∙ rw (number_again (width v) (length pin) len (omega (arith, prefix.within, fit.short)))
    (rw (only_again (nat_le (length pin)) (number_at (width v) len) (length route, stops) (number_again (width v) (length route) stops fit.short) (le-leb (length pin) (length route) prefix.within))
    (rw (stops_again v route rest fit.stops) (ap (λ (p : List ℕ). Ok ((p, route), rest)) prefix.prefix)))

abbrev pairs_bytes : Version → List (List ℕ) × List (List ℕ) → List ℕ
pairs_bytes v e = vehicles_bytes v e.0 e.1

pub vehicles_one : (v : Version) (pins routes : List (List ℕ)) (pin route : List ℕ) → length pins ≡ length routes
    → vehicles_bytes v (pins ++ pin ∷ []) (routes ++ route ∷ []) ≡ vehicles_bytes v pins routes ++ vehicle_word v (pin, route)
vehicles_one v [] [] pin route same = append-nil (vehicle_word v (pin, route))
vehicles_one v [] (r ∷ routes) pin route same = absurd (omega (arith, same))
vehicles_one v (p ∷ pins) [] pin route same = absurd (omega (arith, same))
vehicles_one v (p ∷ pins) (r ∷ routes) pin route same =
    ap (λ t. vehicle_word v (p, r) ++ t) (vehicles_one v pins routes pin route (omega (arith, same)))
    ∙ sym (append_assoc (vehicle_word v (p, r)) (vehicles_bytes v pins routes) (vehicle_word v (pin, route)))

next_vehicle_takes : (v : Version) (a : List (List ℕ) × List (List ℕ)) (bytes : List ℕ) → length a.0 ≡ length a.1 → IsBytes bytes
    → (y : (List (List ℕ) × List (List ℕ)) × List ℕ) → next_vehicle v a bytes ≡ Ok y
    → Adds (pairs_bytes v) (λ e. length e.1) (λ e. length e.0 ≡ length e.1) 1 a bytes y
next_vehicle_takes v a bytes same fits y e =
    let b = bind_ok (vehicle_at v bytes) (λ r. Ok ((a.0 ++ r.0.0 ∷ [], a.1 ++ r.0.1 ∷ []), r.1)) y e in
    let t = vehicle_takes v bytes fits b.0 b.1 in
    subst (λ (z : (List (List ℕ) × List (List ℕ)) × List ℕ). Adds (pairs_bytes v) (λ e. length e.1) (λ e. length e.0 ≡ length e.1) 1 a bytes z)
    (ok_is ((a.0 ++ b.0.0.0 ∷ [], a.1 ++ b.0.0.1 ∷ []), b.0.1) y b.2)
    (record {
      added = vehicle_word v b.0.0;
      taken = t;
      whole = vehicles_one v a.0 a.1 b.0.0.0 b.0.0.1 same;
      count = length-append a.1 (b.0.0.1 ∷ []);
      kept = omega (arith, length-append a.0 (b.0.0.0 ∷ []), length-append a.1 (b.0.0.1 ∷ []), same);
    })

pub vehicles_take : (v : Version) (n : ℕ) (bytes : List ℕ) → IsBytes bytes → (y : (List (List ℕ) × List (List ℕ)) × List ℕ)
    → times (next_vehicle v) n ([], []) bytes ≡ Ok y → Takes bytes (vehicles_bytes v y.0.0 y.0.1) y.1 × (length y.0.1 ≡ n) × (length y.0.0 ≡ n)
vehicles_take v n bytes fits y e =
    let t = times_take (next_vehicle v) (pairs_bytes v) (λ e. length e.1) (λ e. length e.0 ≡ length e.1) (next_vehicle_takes v) n ([], []) bytes refl fits y e in
    (subst (λ w. Takes bytes w y.1) (sym t.whole) t.taken, omega (arith, t.count), omega (arith, t.kept, t.count))

-- Each route begins with its pin
abbrev pub ArePrefixes : List (List ℕ) → List (List ℕ) → Type 0
ArePrefixes [] [] = Unit {0}
ArePrefixes [] (route ∷ routes) = ⊥
ArePrefixes (pin ∷ pins) [] = ⊥
ArePrefixes (pin ∷ pins) (route ∷ routes) = BeginsRoute pin route × ArePrefixes pins routes

pub more_vehicles : (v : Version) (pins routes before-pins before : List (List ℕ)) (rest : List ℕ) → ArePrefixes pins routes
    → AllByRecursion (IsWritable v) routes → times (next_vehicle v) (length routes) (before-pins, before) (vehicles_bytes v pins routes ++ rest)
    ≡ Ok ((before-pins ++ pins, before ++ routes), rest)
unfolding times
more_vehicles v [] [] before-pins before rest prefixes fit = rw (append-nil before-pins, append-nil before) refl
more_vehicles v [] (route ∷ routes) before-pins before rest prefixes fit = absurd prefixes
more_vehicles v (pin ∷ pins) [] before-pins before rest prefixes fit = absurd prefixes
more_vehicles v (pin ∷ pins) (route ∷ routes) before-pins before rest prefixes fit =
    let regrouped : vehicles_bytes v (pin ∷ pins) (route ∷ routes) ++ rest ≡ vehicle_word v (pin, route)
    ++ (vehicles_bytes v pins routes ++ rest) = append_assoc (vehicle_word v (pin, route)) (vehicles_bytes v pins routes) rest in
    let others = more_vehicles v pins routes (before-pins ++ pin ∷ []) (before ++ route ∷ []) rest prefixes.1 fit.1 in
    ap (times (next_vehicle v) (suc (length routes)) (before-pins, before)) regrouped
    ∙ rw (vehicle_again v pin route (vehicles_bytes v pins routes ++ rest) prefixes.0 fit.0)
    (others ∙ ap (λ (e : List (List ℕ)). Ok ((e, (before ++ route ∷ []) ++ routes), rest)) (append_assoc before-pins (pin ∷ []) pins)
    ∙ ap (λ (e : List (List ℕ)). Ok ((before-pins ++ pin ∷ pins, e), rest)) (append_assoc before (route ∷ []) routes))
