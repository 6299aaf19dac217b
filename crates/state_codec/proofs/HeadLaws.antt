-- The part before the requests is read back as it was written
use Rattle.std.proofs.Common.{◌≡◌, ℕ, ◌+◌, ◌^◌, ◌<◌, ◌≤◌, ℤ, pos, Bool, true, false, cond, List, [], ◌∷◌, ◌++◌, Ok, Err, refl, sym, ap, subst, ◌∙◌, append_assoc, arith}
use Rattle.std.specs.Prelude.{nat_le, ◌==◌}
use Rattle.std.proofs.lemmas.Bool.{eqb-true, leb-true, le-leb, and_parts, and_from}
use Rattle.plan_types.specs.Limits.{IsDepot, IsVisit}
use Rattle.plan_types.specs.declared.limits.TheConstants.{MAX_DEVIATION}
use Rattle.plan_types.specs.declared.requests.Stop.{Stop}
use Rattle.plan_types.specs.declared.requests.Kind.{Kind}
use Rattle.plan_types.specs.declared.requests.Kind.TheVariants.{LiLim, Vrp}
use Rattle.state_codec.specs.declared.head.Head.{Head}
use Rattle.state_codec.specs.declared.version.Version.{Version}
use Rattle.state_codec.specs.declared.version.Version.TheVariants.{One, Two}
use Rattle.state_codec.specs.declared.fault.CodecFault.TheVariants.{BadField}
use Rattle.state_codec.specs.Bytes.{number_bytes, count_bytes, kind_code, depot_bytes, deviation_bytes, width}
use Rattle.state_codec.specs.Limits.{most}
use Rattle.state_codec.specs.Fields.{only, byte_at, number_at, point_at, window_at}
use Rattle.state_codec.specs.Reading.{kind_at, is_steps, is_capacity, is_fleet, is_next, is_deviation, depot_at, job_deviation_at, head_at}
use Rattle.state_codec.specs.Parts.{IsHead}
use Rattle.state_codec.proofs.FieldLaws.{IsBytes, Takes, takes_then, step, ok_is, number_takes, number_again, of_4, of_8, of_width, only_again}
use Rattle.state_codec.proofs.RequestLaws.{number_only, byte_takes, point_bytes, IsPoint, point_takes, point_again, window_bytes, IsWindow, window_takes, window_again}

-- ---- the kind

kind_by : (code : ℕ) (bytes rest : List ℕ) (y : Kind × List ℕ) (one two : Bool) → (code == 1) ≡ one → (code == 2) ≡ two → Takes bytes (code ∷ []) rest
    → cond one (Ok (LiLim, rest)) (cond two (Ok (Vrp, rest)) (Err BadField)) ≡ Ok y → Takes bytes (kind_code y.0 ∷ []) y.1
kind_by code bytes rest y true two is1 is2 t e =
    subst (λ (z : Kind × List ℕ). Takes bytes (kind_code z.0 ∷ []) z.1) (ok_is (LiLim, rest) y e) (subst (λ k. Takes bytes (k ∷ []) rest) (eqb-true code 1 is1) t)
kind_by code bytes rest y false true is1 is2 t e =
    subst (λ (z : Kind × List ℕ). Takes bytes (kind_code z.0 ∷ []) z.1) (ok_is (Vrp, rest) y e) (subst (λ k. Takes bytes (k ∷ []) rest) (eqb-true code 2 is2) t)
kind_by code bytes rest y false false is1 is2 t e = absurd cc

kind_takes : (bytes : List ℕ) → IsBytes bytes → (y : Kind × List ℕ) → kind_at bytes ≡ Ok y → Takes bytes (kind_code y.0 ∷ []) y.1
kind_takes bytes fits y e =
    step (byte_at bytes) _ y bytes (λ b. b ∷ []) (λ b. Unit {0}) (λ a h. ((byte_takes bytes fits a h).0, tt)) e (λ a ta pa ea.
    kind_by a.0 bytes a.1 y (a.0 == 1) (a.0 == 2) refl refl ta ea)

kind_again : (k : Kind) (rest : List ℕ) → kind_at (kind_code k ∷ rest) ≡ Ok (k, rest)
unfolding byte_at
kind_again LiLim rest = refl
kind_again Vrp rest = refl

-- ---- the depot

depot_takes : (bytes : List ℕ) → IsBytes bytes → (y : Stop × List ℕ) → depot_at bytes ≡ Ok y → Takes bytes (depot_bytes y.0) y.1 × IsDepot y.0
unfolding depot_at
depot_takes bytes fits y e =
    step (point_at bytes) _ y bytes point_bytes IsPoint (point_takes bytes fits) e (λ p tp pp ep.
    step (window_at p.1) _ y p.1 window_bytes IsWindow (window_takes p.1 tp.rest_fits) ep (λ w tw pw ew.
    let made : Stop = record { number = 0; x = p.0.0; y = p.0.1; demand = pos 0; earliest = w.0.0; latest = w.0.1; service = 0 } in
    let all = takes_then bytes (point_bytes p.0) p.1 (window_bytes w.0) w.1 tp tw in
    let regrouped : point_bytes p.0 ++ window_bytes w.0 ≡ depot_bytes made = simp append_assoc in
    let visit : IsVisit made = record { x = pp.0; y = pp.1; window = pw.0; latest = pw.1; service = omega arith } in
    subst (λ (z : Stop × List ℕ). Takes bytes (depot_bytes z.0) z.1 × IsDepot z.0) (ok_is (made, w.1) y ew)
    (subst (λ t. Takes bytes t w.1) regrouped all, record { number = refl; demand = refl; service = refl; visit = visit })))

abbrev with_depot : Stop → ℕ → ℤ → ℕ → Stop
with_depot s n q t = record { number = n; x = s.x; y = s.y; demand = q; earliest = s.earliest; latest = s.latest; service = t }

depot_is : (s : Stop) → IsDepot s → with_depot s 0 (pos 0) 0 ≡ s
depot_is s is = ap (λ n. with_depot s n (pos 0) 0) (sym is.number) ∙ ap (λ q. with_depot s s.number q 0) (sym is.demand) ∙ ap (λ t. with_depot s s.number s.demand t) (sym is.service)

depot_again : (s : Stop) (rest : List ℕ) → IsDepot s → depot_at (depot_bytes s ++ rest) ≡ Ok (s, rest)
unfolding depot_at
depot_again s rest is =
    let visit = is.visit in
    let window = window_bytes (s.earliest, s.latest) ++ rest in
    let regrouped : depot_bytes s ++ rest ≡ point_bytes (s.x, s.y) ++ window = simp append_assoc in
    ap depot_at regrouped
    ∙ rw (point_again (s.x, s.y) window (visit.x, visit.y))
    (rw (window_again (s.earliest, s.latest) rest (visit.window, visit.latest))
    (ap (λ (z : Stop). Ok (z, rest)) (depot_is s is)))

-- ---- the deviation

abbrev pub IsAllowance : Version → ℕ → Type 0
IsAllowance One d = d ≡ 0
IsAllowance Two d = d ≤ MAX_DEVIATION

allowance_takes : (v : Version) (bytes : List ℕ) → IsBytes bytes → (y : ℕ × List ℕ) → job_deviation_at v bytes ≡ Ok y → Takes bytes (deviation_bytes v y.0) y.1 × IsAllowance v y.0
allowance_takes One bytes fits y e = subst (λ (z : ℕ × List ℕ). Takes bytes [] z.1 × (z.0 ≡ 0)) (ok_is (0, bytes) y e) (record { parts = refl; rest_fits = fits }, refl)
allowance_takes Two bytes fits y e = let t = number_only is_deviation 4 (number_takes 4 of_4) bytes fits y e in (t.0, leb-true y.0 MAX_DEVIATION t.1)

allowance_again : (v : Version) (d : ℕ) (rest : List ℕ) → IsAllowance v d → job_deviation_at v (deviation_bytes v d ++ rest) ≡ Ok (d, rest)
allowance_again One d rest is = rw is refl
allowance_again Two d rest is = only_again is_deviation (number_at 4 (number_bytes 4 d ++ rest)) (d, rest) (number_again 4 d rest (omega (arith, is))) (le-leb d MAX_DEVIATION is)

-- ---- the whole head

abbrev pub head_text : Version → Head → List ℕ
head_text v h = kind_code h.kind ∷ number_bytes 8 h.seed
    ++ (number_bytes 8 h.steps ++ (number_bytes 4 h.capacity
    ++ (count_bytes v h.fleet ++ (count_bytes v h.next_number ++ (depot_bytes h.depot ++ deviation_bytes v h.deviation)))))

pub record IsHeadOf (v : Version) (h : Head) : Type 0 where
  pub head : IsHead h
  pub fleet : h.fleet ≤ most v
  pub next_number : h.next_number ≤ most v + 1
  pub deviation : IsAllowance v h.deviation
  pub seed : h.seed < 2 ^ 64
  pub steps : h.steps ≤ 2 ^ 60

most_is : (v : Version) → most v ≤ 40000
most_is One = omega arith
most_is Two = omega arith

pub head_takes : (v : Version) (bytes : List ℕ) → IsBytes bytes → (y : Head × List ℕ) → head_at v bytes ≡ Ok y → Takes bytes (head_text v y.0) y.1 × IsHeadOf v y.0
unfolding head_at
head_takes v bytes fits y e =
    step (kind_at bytes) _ y bytes (λ k. kind_code k ∷ []) (λ k. Unit {0}) (λ a h. (kind_takes bytes fits a h, tt)) e (λ k tk pk ek.
    step (number_at 8 k.1) _ y k.1 (number_bytes 8) (λ n. n < 256 ^ 8) (λ a h. number_takes 8 of_8 k.1 a tk.rest_fits h) ek (λ s ts ps es.
    step (only is_steps (number_at 8 s.1)) _ y s.1 (number_bytes 8) (λ n. is_steps n ≡ true) (number_only is_steps 8 (number_takes 8 of_8) s.1 ts.rest_fits) es (λ t tt' pt et.
    step (only is_capacity (number_at 4 t.1)) _ y t.1 (number_bytes 4) (λ n. is_capacity n ≡ true) (number_only is_capacity 4 (number_takes 4 of_4) t.1 tt'.rest_fits) et (λ q tq pq eq.
    step (only (is_fleet v) (number_at (width v) q.1)) _ y q.1 (count_bytes v) (λ n. is_fleet v n ≡ true)
    (number_only (is_fleet v) (width v) (number_takes (width v) (of_width v)) q.1 tq.rest_fits) eq (λ f tf pf ef.
    step (only (is_next v) (number_at (width v) f.1)) _ y f.1 (count_bytes v) (λ n. is_next v n ≡ true)
    (number_only (is_next v) (width v) (number_takes (width v) (of_width v)) f.1 tf.rest_fits) ef (λ n tn pn en.
    step (depot_at n.1) _ y n.1 depot_bytes IsDepot (depot_takes n.1 tn.rest_fits) en (λ d td pd ed.
    step (job_deviation_at v d.1) _ y d.1 (deviation_bytes v) (IsAllowance v) (allowance_takes v d.1 td.rest_fits) ed (λ a ta pa ea.
    let made : Head = record { kind = k.0; seed = s.0; steps = t.0; capacity = q.0; fleet = f.0; next_number = n.0; depot = d.0; deviation = a.0 } in
    let fleet = and_parts (nat_le 1 f.0) (nat_le f.0 (most v)) pf in
    let next = and_parts (nat_le 1 n.0) (nat_le n.0 (most v + 1)) pn in
    let t7 = takes_then n.1 (depot_bytes d.0) d.1 (deviation_bytes v a.0) a.1 td ta in
    let t6 = takes_then f.1 (count_bytes v n.0) n.1 (depot_bytes d.0 ++ deviation_bytes v a.0) a.1 tn t7 in
    let t5 = takes_then q.1 (count_bytes v f.0) f.1 (count_bytes v n.0 ++ (depot_bytes d.0 ++ deviation_bytes v a.0)) a.1 tf t6 in
    let t4 = takes_then t.1 (number_bytes 4 q.0) q.1 (count_bytes v f.0 ++ (count_bytes v n.0 ++ (depot_bytes d.0 ++ deviation_bytes v a.0))) a.1 tq t5 in
    let t3 = takes_then s.1 (number_bytes 8 t.0) t.1 (number_bytes 4 q.0 ++ (count_bytes v f.0 ++ (count_bytes v n.0 ++ (depot_bytes d.0 ++ deviation_bytes v a.0)))) a.1 tt' t4 in
    let t2 = takes_then k.1 (number_bytes 8 s.0) s.1 (number_bytes 8 t.0
    ++ (number_bytes 4 q.0 ++ (count_bytes v f.0 ++ (count_bytes v n.0 ++ (depot_bytes d.0 ++ deviation_bytes v a.0))))) a.1 ts t3 in
    let t1 = takes_then bytes (kind_code k.0 ∷ []) k.1
    (number_bytes 8 s.0 ++ (number_bytes 8 t.0 ++ (number_bytes 4 q.0
    ++ (count_bytes v f.0 ++ (count_bytes v n.0 ++ (depot_bytes d.0 ++ deviation_bytes v a.0)))))) a.1 tk t2 in
    let small-fleet = leb-true f.0 (most v) fleet.1 in
    let small-next = leb-true n.0 (most v + 1) next.1 in
    let head : IsHead made = record {
      depot = pd;
      capacity = leb-true q.0 1000000 pq;
      fleet = (leb-true 1 f.0 fleet.0, omega (arith, small-fleet, most_is v));
      next_number_min = leb-true 1 n.0 next.0;
      next_number_max = omega (arith, small-next, most_is v);
    } in
    let of : IsHeadOf v made = record { head = head; fleet = small-fleet; next_number = small-next; deviation = pa; seed = ps; steps = leb-true t.0 (2 ^ 60) pt } in
    subst (λ (z : Head × List ℕ). Takes bytes (head_text v z.0) z.1 × IsHeadOf v z.0) (ok_is (made, a.1) y ea) (t1, of)))))))))

fleet_below : (v : Version) (n : ℕ) → n ≤ most v + 1 → n < 256 ^ width v
fleet_below One n h = omega (arith, h)
fleet_below Two n h = omega (arith, h)

pub head_again : (v : Version) (h : Head) (rest : List ℕ) → IsHeadOf v h → head_at v (head_text v h ++ rest) ≡ Ok (h, rest)
unfolding head_at
head_again v h rest is =
    let deviation = deviation_bytes v h.deviation ++ rest in
    let depot = depot_bytes h.depot ++ deviation in
    let next = count_bytes v h.next_number ++ depot in
    let fleet = count_bytes v h.fleet ++ next in
    let capacity = number_bytes 4 h.capacity ++ fleet in
    let steps = number_bytes 8 h.steps ++ capacity in
    let seed = number_bytes 8 h.seed ++ steps in
    let following = number_bytes 8 h.seed ++ (number_bytes 8 h.steps
    ++ (number_bytes 4 h.capacity ++ (count_bytes v h.fleet ++ (count_bytes v h.next_number ++ (depot_bytes h.depot ++ deviation_bytes v h.deviation))))) in
    let moved : following ++ rest ≡ seed = simp append_assoc in
    let regrouped : head_text v h ++ rest ≡ kind_code h.kind ∷ seed = ap (λ t. kind_code h.kind ∷ t) moved in
    ap (head_at v) regrouped
    ∙ rw (kind_again h.kind seed)
    (rw (number_again 8 h.seed steps is.seed)
    (rw (only_again is_steps (number_at 8 steps) (h.steps, capacity) (number_again 8 h.steps capacity (omega (arith, is.steps))) (le-leb h.steps (2 ^ 60) is.steps))
    (rw (only_again is_capacity (number_at 4 capacity) (h.capacity, fleet) (number_again 4 h.capacity fleet (omega (arith, is.head.capacity))) (le-leb h.capacity 1000000 is.head.capacity))
    (rw (only_again (is_fleet v) (number_at (width v) fleet) (h.fleet, next)
    (number_again (width v) h.fleet next (fleet_below v h.fleet (omega (arith, is.fleet))))
    (and_from _ _ (le-leb 1 h.fleet is.head.fleet.0) (le-leb h.fleet (most v) is.fleet)))
    (rw (only_again (is_next v) (number_at (width v) next) (h.next_number, depot)
    (number_again (width v) h.next_number depot (fleet_below v h.next_number is.next_number))
    (and_from _ _ (le-leb 1 h.next_number is.head.next_number_min) (le-leb h.next_number (most v + 1) is.next_number)))
    (rw (depot_again h.depot deviation is.head.depot)
    (rw (allowance_again v h.deviation rest is.deviation) refl)))))))
