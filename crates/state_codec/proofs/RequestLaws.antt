-- The requests that are read are those that were written
use Rattle.std.proofs.Common.{◌≡◌, ◌≢◌, ℕ, suc, ◌^◌, ◌<◌, ◌≤◌, ℤ, pos, Bool, true, false, cond, List, [], ◌∷◌, ◌++◌, Option, Some, None, Ok, Err, refl, sym, ap, subst, ◌∙◌, append_assoc, arith}
use Rattle.std.specs.Prelude.{negsuc, neg_ℤ, int_le, nat_le, nat_lt, not, ◌&&◌, ◌==◌}
use Rattle.std.specs.List.{list_all, AllByRecursion}
use Rattle.std.proofs.lemmas.Bool.{eqb-true, ltb-true, leb-true, le-leb, and_parts, and_from}
use Rattle.std.specs.Int.{w32}
use mir.Val.{SFits}
use Rattle.std.proofs.lemmas.Int.{ints}
use Rattle.plan_types.specs.Limits.{IsCoordinate, IsVisit, IsStop, IsDemand}
use Rattle.plan_types.specs.Request.{IsRequest, request_name, stops_of}
use Rattle.plan_types.specs.declared.requests.Stop.{Stop}
use Rattle.plan_types.specs.declared.requests.Request.{Request}
use Rattle.plan_types.specs.declared.requests.Request.TheVariants.{Single, Pair}
use Rattle.state_codec.specs.declared.version.Version.{Version}
use Rattle.state_codec.specs.declared.fault.CodecFault.TheVariants.{BadField}
use Rattle.state_codec.specs.Bytes.{number_bytes, signed_bytes, visit_bytes, stop_bytes, request_bytes, width}
use Rattle.command_types.specs.AddedRequests.{is_coordinate}
use Rattle.command_types.proofs.AddLemmas.{coordinate}
use Rattle.state_codec.specs.Fields.{only, byte_at, number_at, signed_at, point_at, window_at, is_demand, is_time, is_service, int_eq}
use Rattle.state_codec.specs.Reading.{is_free, is_name, is_delivery, is_expected_demand, visit_at, first_at, delivery_at, single_at, pair_at, request_at}
use Rattle.state_codec.proofs.FieldLaws.{IsBytes, Takes, takes_then, step, only_ok, number_takes, signed_takes, of_4, of_width, ok_is, only_again, number_again, signed_again, small}

-- ---- the rules of fields as limits

pub demand_is : (q : ℤ) → is_demand q ≡ true → IsDemand q
demand_is q h = let p = and_parts (int_le (pos 0) q) (int_le q (pos 1000000)) h in (grind (arith, ints, p.0), grind (arith, ints, p.1))

pub int_eq_is : (x y : ℤ) → int_eq x y ≡ true → x ≡ y
int_eq_is x y h = let p = and_parts (int_le x y) (int_le y x) h in grind (arith, ints, p.0, p.1)

pub is_coordinate-holds : (x : ℤ) → IsCoordinate x → is_coordinate x ≡ true
is_coordinate-holds x h = and_from (int_le (negsuc 999999) x) (int_le x (pos 1000000)) (grind (arith, ints, h.0)) (grind (arith, ints, h.1))

pub is_demand-holds : (q : ℤ) → IsDemand q → is_demand q ≡ true
is_demand-holds q h = and_from (int_le (pos 0) q) (int_le q (pos 1000000)) (grind (arith, ints, h.0)) (grind (arith, ints, h.1))

pub int_eq-same : (x : ℤ) → int_eq x x ≡ true
int_eq-same x = and_from (int_le x x) (int_le x x) (grind (arith, ints)) (grind (arith, ints))

-- ---- the fields after the number of a stop

coordinate_takes : (bytes : List ℕ) → IsBytes bytes → (x : ℤ × List ℕ) → only is_coordinate (signed_at bytes) ≡ Ok x → Takes bytes (signed_bytes x.0) x.1 × IsCoordinate x.0
coordinate_takes bytes fits x e =
    let o = only_ok is_coordinate (signed_at bytes) x e in
    (signed_takes bytes x fits o.0, coordinate x.0 o.1)

demand_takes : (wanted : Option ℤ) (bytes : List ℕ) → IsBytes bytes → (x : ℤ × List ℕ) → only (is_expected_demand wanted) (signed_at bytes) ≡ Ok x
    → Takes bytes (signed_bytes x.0) x.1 × (is_expected_demand wanted x.0 ≡ true)
demand_takes wanted bytes fits x e =
    let o = only_ok (is_expected_demand wanted) (signed_at bytes) x e in
    (signed_takes bytes x fits o.0, o.1)

pub number_only : (rule : ℕ → Bool) (size : ℕ) → ((bytes : List ℕ) (x : ℕ × List ℕ) → IsBytes bytes → number_at size bytes ≡ Ok x
    → Takes bytes (number_bytes size x.0) x.1 × (x.0 < 256 ^ size)) → (bytes : List ℕ) → IsBytes bytes → (x : ℕ × List ℕ)
    → only rule (number_at size bytes) ≡ Ok x → Takes bytes (number_bytes size x.0) x.1 × (rule x.0 ≡ true)
number_only rule size takes bytes fits x e =
    let o = only_ok rule (number_at size bytes) x e in
    ((takes bytes x fits o.0).0, o.1)

abbrev pub point_bytes : ℤ × ℤ → List ℕ
point_bytes p = signed_bytes p.0 ++ signed_bytes p.1

abbrev pub IsPoint : ℤ × ℤ → Type 0
IsPoint p = IsCoordinate p.0 × IsCoordinate p.1

pub point_takes : (bytes : List ℕ) → IsBytes bytes → (y : (ℤ × ℤ) × List ℕ) → point_at bytes ≡ Ok y → Takes bytes (point_bytes y.0) y.1 × IsPoint y.0
unfolding point_at
point_takes bytes fits y e =
    step (only is_coordinate (signed_at bytes)) _ y bytes signed_bytes IsCoordinate (coordinate_takes bytes fits) e (λ a ta pa ea.
    step (only is_coordinate (signed_at a.1)) _ y a.1 signed_bytes IsCoordinate (coordinate_takes a.1 ta.rest_fits) ea (λ b tb pb eb.
    subst (λ (z : (ℤ × ℤ) × List ℕ). Takes bytes (point_bytes z.0) z.1 × IsPoint z.0) (ok_is ((a.0, b.0), b.1) y eb) (takes_then bytes (signed_bytes a.0) a.1 (signed_bytes b.0) b.1 ta tb, (pa, pb))))

pub point_again : (p : ℤ × ℤ) (rest : List ℕ) → IsPoint p → point_at (point_bytes p ++ rest) ≡ Ok (p, rest)
unfolding point_at
point_again p rest is =
    let y = signed_bytes p.1 ++ rest in
    ap point_at (append_assoc (signed_bytes p.0) (signed_bytes p.1) rest)
    ∙ rw (only_again is_coordinate (signed_at (signed_bytes p.0 ++ y)) (p.0, y) (signed_again p.0 y (small p.0 is.0.0 is.0.1)) (is_coordinate-holds p.0 is.0))
    (rw (only_again is_coordinate (signed_at y) (p.1, rest) (signed_again p.1 rest (small p.1 is.1.0 is.1.1)) (is_coordinate-holds p.1 is.1)) refl)

abbrev pub window_bytes : ℕ × ℕ → List ℕ
window_bytes w = number_bytes 4 w.0 ++ number_bytes 4 w.1

abbrev pub IsWindow : ℕ × ℕ → Type 0
IsWindow w = (w.0 ≤ w.1) × (w.1 ≤ 100000000)

pub window_takes : (bytes : List ℕ) → IsBytes bytes → (y : (ℕ × ℕ) × List ℕ) → window_at bytes ≡ Ok y → Takes bytes (window_bytes y.0) y.1 × IsWindow y.0
unfolding window_at
window_takes bytes fits y e =
    step (only is_time (number_at 4 bytes)) _ y bytes (number_bytes 4) (λ t. is_time t ≡ true) (number_only is_time 4 (number_takes 4 of_4) bytes fits) e (λ a ta pa ea.
    step (only (λ t. nat_le a.0 t && is_time t) (number_at 4 a.1)) _ y a.1 (number_bytes 4) (λ t. (nat_le a.0 t && is_time t) ≡ true)
    (number_only (λ t. nat_le a.0 t && is_time t) 4 (number_takes 4 of_4) a.1 ta.rest_fits) ea (λ b tb pb eb.
    let ends = and_parts (nat_le a.0 b.0) (is_time b.0) pb in
    subst (λ (z : (ℕ × ℕ) × List ℕ). Takes bytes (window_bytes z.0) z.1 × IsWindow z.0) (ok_is ((a.0, b.0), b.1) y eb)
    (takes_then bytes (number_bytes 4 a.0) a.1 (number_bytes 4 b.0) b.1 ta tb, (leb-true a.0 b.0 ends.0, leb-true b.0 100000000 ends.1))))

pub window_again : (w : ℕ × ℕ) (rest : List ℕ) → IsWindow w → window_at (window_bytes w ++ rest) ≡ Ok (w, rest)
unfolding window_at
window_again w rest is =
    let latest = number_bytes 4 w.1 ++ rest in
    let early : w.0 ≤ 100000000 = omega (arith, is.0, is.1) in
    ap window_at (append_assoc (number_bytes 4 w.0) (number_bytes 4 w.1) rest)
    ∙ rw (only_again is_time (number_at 4 (number_bytes 4 w.0 ++ latest)) (w.0, latest) (number_again 4 w.0 latest (omega (arith, early))) (le-leb w.0 100000000 early))
    (rw (only_again (λ t. nat_le w.0 t && is_time t) (number_at 4 latest) (w.1, rest) (number_again 4 w.1 rest (omega (arith, is.1)))
    (and_from _ _ (le-leb w.0 w.1 is.0) (le-leb w.1 100000000 is.1))) refl)

-- Facts about a stop that was read
pub record IsRead (wanted : Option ℤ) (s : Stop) : Type 0 where
  pub visit : IsVisit s
  pub demand : is_expected_demand wanted s.demand ≡ true

pub visit_takes : (number : ℕ) (wanted : Option ℤ) (bytes : List ℕ) → IsBytes bytes → (y : Stop × List ℕ) → visit_at number wanted bytes ≡ Ok y
    → Takes bytes (visit_bytes y.0) y.1 × IsRead wanted y.0 × (y.0.number ≡ number)
unfolding visit_at
visit_takes number wanted bytes fits y e =
    step (point_at bytes) _ y bytes point_bytes IsPoint (point_takes bytes fits) e (λ p tp pp ep.
    step (only (is_expected_demand wanted) (signed_at p.1)) _ y p.1 signed_bytes (λ q. is_expected_demand wanted q ≡ true) (demand_takes wanted p.1 tp.rest_fits) ep (λ q tq pq eq.
    step (window_at q.1) _ y q.1 window_bytes IsWindow (window_takes q.1 tq.rest_fits) eq (λ w tw pw ew.
    step (only is_service (number_at 4 w.1)) _ y w.1 (number_bytes 4) (λ t. is_service t ≡ true) (number_only is_service 4 (number_takes 4 of_4) w.1 tw.rest_fits) ew (λ d td pd ed.
    let made : Stop = record { number = number; x = p.0.0; y = p.0.1; demand = q.0; earliest = w.0.0; latest = w.0.1; service = d.0 } in
    let times = takes_then q.1 (window_bytes w.0) w.1 (number_bytes 4 d.0) d.1 tw td in
    let goods = takes_then p.1 (signed_bytes q.0) q.1 (window_bytes w.0 ++ number_bytes 4 d.0) d.1 tq times in
    let all = takes_then bytes (point_bytes p.0) p.1 (signed_bytes q.0 ++ (window_bytes w.0 ++ number_bytes 4 d.0)) d.1 tp goods in
    let regrouped : point_bytes p.0 ++ (signed_bytes q.0 ++ (window_bytes w.0 ++ number_bytes 4 d.0)) ≡ visit_bytes made = simp append_assoc in
    let visit : IsVisit made = record { x = pp.0; y = pp.1; window = pw.0; latest = pw.1; service = leb-true d.0 1000000 pd } in
    subst (λ (z : Stop × List ℕ). Takes bytes (visit_bytes z.0) z.1 × IsRead wanted z.0 × (z.0.number ≡ number)) (ok_is (made, d.1) y ed)
    (subst (λ t. Takes bytes t d.1) regrouped all, record { visit = visit; demand = pq }, refl)))))

-- A stop within the limits is read back
pub visit_again : (s : Stop) (wanted : Option ℤ) (rest : List ℕ) → IsVisit s → is_expected_demand wanted s.demand ≡ true → SFits w32 s.demand → visit_at s.number wanted (visit_bytes s ++ rest) ≡ Ok (s, rest)
unfolding visit_at
visit_again s wanted rest visit goods fits =
    let service = number_bytes 4 s.service ++ rest in
    let window = window_bytes (s.earliest, s.latest) ++ service in
    let demand = signed_bytes s.demand ++ window in
    let regrouped : visit_bytes s ++ rest ≡ point_bytes (s.x, s.y) ++ demand = simp append_assoc in
    ap (visit_at s.number wanted) regrouped
    ∙ rw (point_again (s.x, s.y) demand (visit.x, visit.y))
    (rw (only_again (is_expected_demand wanted) (signed_at demand) (s.demand, window) (signed_again s.demand window fits) goods)
    (rw (window_again (s.earliest, s.latest) service (visit.window, visit.latest))
    (rw (only_again is_service (number_at 4 service) (s.service, rest) (number_again 4 s.service rest (omega (arith, visit.service))) (le-leb s.service 1000000 visit.service))
    refl)))

-- ---- stops with their numbers

pub first_takes : (v : Version) (next : ℕ) (before : List (ℕ × Request)) (bytes : List ℕ) → IsBytes bytes → (y : Stop × List ℕ)
    → first_at v next before bytes ≡ Ok y → Takes bytes (stop_bytes v y.0) y.1 × (IsRead None y.0 × (is_name next before y.0.number ≡ true))
unfolding first_at
first_takes v next before bytes fits y e =
    step (only (is_name next before) (number_at (width v) bytes)) _ y bytes (number_bytes (width v)) (λ n. is_name next before n ≡ true)
    (number_only (is_name next before) (width v) (number_takes (width v) (of_width v)) bytes fits) e (λ n tn pn en.
    let t = visit_takes n.0 None n.1 tn.rest_fits y en in (
      takes_then bytes (number_bytes (width v) y.0.number) n.1 (visit_bytes y.0) y.1 (subst (λ k. Takes bytes (number_bytes (width v) k) n.1) (sym t.2) tn) t.0,
      (t.1, subst (λ k. is_name next before k ≡ true) (sym t.2) pn),
    ))

pub delivery_takes : (v : Version) (next : ℕ) (before : List (ℕ × Request)) (pickup : Stop) (bytes : List ℕ) → IsBytes bytes → (y : Stop × List ℕ)
    → delivery_at v next before pickup bytes ≡ Ok y → Takes bytes (stop_bytes v y.0) y.1
    × (IsRead (Some (neg_ℤ pickup.demand)) y.0 × (is_delivery next before pickup.number y.0.number ≡ true))
unfolding delivery_at
delivery_takes v next before pickup bytes fits y e =
    step (only (is_delivery next before pickup.number) (number_at (width v) bytes)) _ y bytes (number_bytes (width v))
    (λ n. is_delivery next before pickup.number n ≡ true)
    (number_only (is_delivery next before pickup.number) (width v) (number_takes (width v) (of_width v)) bytes fits) e (λ n tn pn en.
    let t = visit_takes n.0 (Some (neg_ℤ pickup.demand)) n.1 tn.rest_fits y en in (
      takes_then bytes (number_bytes (width v) y.0.number) n.1 (visit_bytes y.0) y.1 (subst (λ k. Takes bytes (number_bytes (width v) k) n.1) (sym t.2) tn) t.0,
      (t.1, subst (λ k. is_delivery next before pickup.number k ≡ true) (sym t.2) pn),
    ))

-- The stop that names a request has a demand within its limits
pub first_goods : (v : Version) (next : ℕ) (before : List (ℕ × Request)) (bytes : List ℕ) → IsBytes bytes → (y : Stop × List ℕ) → first_at v next before bytes ≡ Ok y → IsDemand y.0.demand
first_goods v next before bytes fits y e = let t = first_takes v next before bytes fits y e in demand_is y.0.demand t.1.0.demand

-- ---- requests

-- Facts about a request that was read after others
pub record IsNew (next : ℕ) (before : List (ℕ × Request)) (r : Request) : Type 0 where
  pub request : IsRequest r
  pub names : list_all (λ e. nat_lt e.0 (request_name r)) before ≡ true
  pub free : AllByRecursion (λ s. is_free before s.number ≡ true) (stops_of r)
  pub below : AllByRecursion (λ s. s.number < next) (stops_of r)

record NameParts (next : ℕ) (before : List (ℕ × Request)) (n : ℕ) : Type 0 where
  pub from_one : 1 ≤ n
  pub below : n < next
  pub names : list_all (λ e. nat_lt e.0 n) before ≡ true
  pub free : is_free before n ≡ true

name_parts : (next : ℕ) (before : List (ℕ × Request)) (n : ℕ) → is_name next before n ≡ true → NameParts next before n
name_parts next before n h =
    let a = and_parts (nat_le 1 n) (nat_lt n next && (list_all (λ e. nat_lt e.0 n) before && is_free before n)) h in
    let b = and_parts (nat_lt n next) (list_all (λ e. nat_lt e.0 n) before && is_free before n) a.1 in
    let d = and_parts (list_all (λ e. nat_lt e.0 n) before) (is_free before n) b.1 in
    record { from_one = leb-true 1 n a.0; below = ltb-true n next b.0; names = d.0; free = d.1 }

record DeliveryParts (next : ℕ) (before : List (ℕ × Request)) (pickup n : ℕ) : Type 0 where
  pub from_one : 1 ≤ n
  pub below : n < next
  pub other : pickup ≢ n
  pub free : is_free before n ≡ true

not_same : (n m : ℕ) → not (n == m) ≡ true → m ≢ n
not_same n m h = λ e. grind (arith, h, e)

delivery_parts : (next : ℕ) (before : List (ℕ × Request)) (pickup n : ℕ) → is_delivery next before pickup n ≡ true → DeliveryParts next before pickup n
delivery_parts next before pickup n h =
    let a = and_parts (nat_le 1 n) (nat_lt n next && (not (n == pickup) && is_free before n)) h in
    let b = and_parts (nat_lt n next) (not (n == pickup) && is_free before n) a.1 in
    let d = and_parts (not (n == pickup)) (is_free before n) b.1 in
    record { from_one = leb-true 1 n a.0; below = ltb-true n next b.0; other = not_same n pickup d.0; free = d.1 }

single_takes : (v : Version) (next : ℕ) (before : List (ℕ × Request)) (bytes : List ℕ) → next ≤ 40001 → IsBytes bytes → (y : Request × List ℕ)
    → single_at v next before bytes ≡ Ok y → Takes (1 ∷ bytes) (request_bytes v y.0) y.1 × IsNew next before y.0
unfolding single_at
single_takes v next before bytes most fits y e =
    step (first_at v next before bytes) _ y bytes (stop_bytes v) (λ s. IsRead None s × (is_name next before s.number ≡ true)) (first_takes v next before bytes fits) e (λ s ts ps es.
    let n = name_parts next before s.0.number ps.1 in
    let goods = demand_is s.0.demand ps.0.demand in
    let stop : IsStop s.0 = record { from_one = n.from_one; to_max = omega (arith, n.below, most); visit = ps.0.visit } in
    let new : IsNew next before (Single s.0) = record { request = (stop, goods); names = n.names; free = (n.free, tt); below = (n.below, tt) } in
    subst (λ (z : Request × List ℕ). Takes (1 ∷ bytes) (request_bytes v z.0) z.1 × IsNew next before z.0) (ok_is (Single s.0, s.1) y es)
    (record { parts = ap (λ t. 1 ∷ t) ts.parts; rest_fits = ts.rest_fits }, new))

pair_takes : (v : Version) (next : ℕ) (before : List (ℕ × Request)) (bytes : List ℕ) → next ≤ 40001 → IsBytes bytes → (y : Request × List ℕ)
    → pair_at v next before bytes ≡ Ok y → Takes (2 ∷ bytes) (request_bytes v y.0) y.1 × IsNew next before y.0
unfolding pair_at
pair_takes v next before bytes most fits y e =
    step (first_at v next before bytes) _ y bytes (stop_bytes v) (λ s. IsRead None s × (is_name next before s.number ≡ true)) (first_takes v next before bytes fits) e (λ p tp pp ep.
    step (delivery_at v next before p.0 p.1) _ y p.1 (stop_bytes v)
    (λ s. IsRead (Some (neg_ℤ p.0.demand)) s × (is_delivery next before p.0.number s.number ≡ true)) (delivery_takes v next before p.0 p.1 tp.rest_fits) ep
    (λ d td pd ed.
    let n = name_parts next before p.0.number pp.1 in
    let m = delivery_parts next before p.0.number d.0.number pd.1 in
    let pickup : IsStop p.0 = record { from_one = n.from_one; to_max = omega (arith, n.below, most); visit = pp.0.visit } in
    let delivery : IsStop d.0 = record { from_one = m.from_one; to_max = omega (arith, m.below, most); visit = pd.0.visit } in
    let goods = demand_is p.0.demand pp.0.demand in
    let opposite = int_eq_is d.0.demand (neg_ℤ p.0.demand) pd.0.demand in
    let new : IsNew next before (Pair p.0 d.0) = record { request = (pickup, delivery, m.other, goods, opposite); names = n.names; free = (n.free, (m.free, tt)); below = (n.below, (m.below, tt)) } in
    let both = takes_then bytes (stop_bytes v p.0) p.1 (stop_bytes v d.0) d.1 tp td in
    subst (λ (z : Request × List ℕ). Takes (2 ∷ bytes) (request_bytes v z.0) z.1 × IsNew next before z.0) (ok_is (Pair p.0 d.0, d.1) y ed)
    (record { parts = ap (λ t. 2 ∷ t) both.parts; rest_fits = both.rest_fits }, new)))

-- Reading a byte consumes the first of the bytes
pub byte_takes : (bytes : List ℕ) → IsBytes bytes → (y : ℕ × List ℕ) → byte_at bytes ≡ Ok y → Takes bytes (y.0 ∷ []) y.1 × (bytes ≡ y.0 ∷ y.1)
unfolding byte_at
byte_takes [] fits y e = absurd cc
byte_takes (b ∷ rest) fits y e = subst (λ (z : ℕ × List ℕ). Takes (b ∷ rest) (z.0 ∷ []) z.1 × (b ∷ rest ≡ z.0 ∷ z.1)) (ok_is (b, rest) y e)
    (record { parts = refl; rest_fits = λ i. fits (suc i) }, refl)

form_takes : (v : Version) (next : ℕ) (before : List (ℕ × Request)) (form : ℕ) (bytes : List ℕ) → next ≤ 40001 → IsBytes bytes → (y : Request × List ℕ)
    → (one two : Bool) → (form == 1) ≡ one → (form == 2) ≡ two
    → cond one (single_at v next before bytes) (cond two (pair_at v next before bytes) (Err BadField)) ≡ Ok y → Takes (form ∷ bytes) (request_bytes v y.0) y.1 × IsNew next before y.0
form_takes v next before form bytes most fits y true two is1 is2 e =
    subst (λ f. Takes (f ∷ bytes) (request_bytes v y.0) y.1 × IsNew next before y.0) (sym (eqb-true form 1 is1)) (single_takes v next before bytes most fits y e)
form_takes v next before form bytes most fits y false true is1 is2 e =
    subst (λ f. Takes (f ∷ bytes) (request_bytes v y.0) y.1 × IsNew next before y.0) (sym (eqb-true form 2 is2)) (pair_takes v next before bytes most fits y e)
form_takes v next before form bytes most fits y false false is1 is2 e = absurd cc

pub request_takes : (v : Version) (next : ℕ) (before : List (ℕ × Request)) (bytes : List ℕ) → next ≤ 40001 → IsBytes bytes → (y : Request × List ℕ)
    → request_at v next before bytes ≡ Ok y → Takes bytes (request_bytes v y.0) y.1 × IsNew next before y.0
unfolding request_at
request_takes v next before bytes most fits y e =
    step (byte_at bytes) _ y bytes (λ b. b ∷ []) (λ b. Unit {0}) (λ a h. ((byte_takes bytes fits a h).0, tt)) e (λ a ta pa ea.
    let inner = form_takes v next before a.0 a.1 most ta.rest_fits y (a.0 == 1) (a.0 == 2) refl refl ea in
    (record { parts = ta.parts ∙ inner.0.parts; rest_fits = inner.0.rest_fits }, inner.1))
