-- A state that is read is the one that was written
use Rattle.std.proofs.Common.{◌≡◌, ℕ, ◌^◌, ◌<◌, ◌≤◌, Bool, true, false, cond, List, [], ◌∷◌, ◌++◌, length, Option, Some, None, Ok, Err, refl, sym, ap, subst, ◌∙◌, append_assoc, arith, length-append}
use Rattle.std.specs.Prelude.{◌==◌}
use Rattle.std.proofs.lemmas.Bool.{eqb-true}
use Rattle.std.proofs.lemmas.List.{append-nil, nil_from_length}
use Rattle.plan_types.specs.Instance.{Instance}
use Rattle.plan_types.specs.Request.{request_name}
use Rattle.plan_types.specs.declared.requests.Request.{Request}
use Rattle.plan_types.specs.declared.limits.TheConstants.{MAX_DEVIATION}
use Rattle.command_types.specs.Job.{JobValue}
use Rattle.state_codec.specs.declared.head.Head.{Head}
use Rattle.state_codec.specs.declared.version.Version.{Version}
use Rattle.state_codec.specs.declared.version.Version.TheVariants.{One, Two}
use Rattle.state_codec.specs.declared.fault.CodecFault.TheVariants.{BadField}
use Rattle.state_codec.specs.Bytes.{number_bytes, count_bytes, kind_code, depot_bytes, deviation_bytes, width, request_bytes, requests_bytes, vehicles_bytes, work_bytes, job_bytes}
use Rattle.state_codec.specs.Limits.{IsJobOf}
use Rattle.state_codec.specs.Fields.{◌>>=◌, byte_at, number_at}
use Rattle.state_codec.specs.Reading.{times, request_at, next_request, next_vehicle, work_at, head_at, problem_from, problem_at, job_at, state_at, whole_state_at}
use Rattle.state_codec.proofs.FieldLaws.{IsBytes, Takes, takes_then, step, bind_ok, ok_is, number_takes, of_width}
use Rattle.state_codec.proofs.RequestLaws.{request_takes, byte_takes}
use Rattle.state_codec.proofs.TimesLaws.{Adds, times_take, flat_map_one}
use Rattle.state_codec.proofs.RouteLaws.{vehicles_take, routes_take}
use Rattle.state_codec.proofs.HeadLaws.{head_text, head_takes, IsHeadOf, IsAllowance}

-- ---- the requests

next_request_takes : (v : Version) (next : ℕ) → next ≤ 40001 → (a : List (ℕ × Request)) (bytes : List ℕ) → Unit {0} → IsBytes bytes
    → (y : List (ℕ × Request) × List ℕ) → next_request v next a bytes ≡ Ok y → Adds (requests_bytes v) length (λ _. Unit {0}) 1 a bytes y
next_request_takes v next below a bytes none fits y e =
    let b = bind_ok (request_at v next a bytes) (λ r. Ok (a ++ (request_name r.0, r.0) ∷ [], r.1)) y e in
    let t = request_takes v next a bytes below fits b.0 b.1 in
    subst (λ (z : List (ℕ × Request) × List ℕ). Adds (requests_bytes v) length (λ _. Unit {0}) 1 a bytes z) (ok_is (a ++ (request_name b.0.0, b.0.0) ∷ [], b.0.1) y b.2)
    (record {
      added = request_bytes v b.0.0;
      taken = t.0;
      whole = flat_map_one (λ (e : ℕ × Request). request_bytes v e.1) a (request_name b.0.0, b.0.0);
      count = length-append a ((request_name b.0.0, b.0.0) ∷ []);
      kept = tt;
    })

requests_take : (v : Version) (next n : ℕ) (bytes : List ℕ) → next ≤ 40001 → IsBytes bytes → (y : List (ℕ × Request) × List ℕ)
    → times (next_request v next) n [] bytes ≡ Ok y → Takes bytes (requests_bytes v y.0) y.1 × (length y.0 ≡ n)
requests_take v next n bytes below fits y e =
    let t = times_take (next_request v next) (requests_bytes v) length (λ _. Unit {0}) (next_request_takes v next below) n [] bytes tt fits y e in
    (subst (λ w. Takes bytes w y.1) (sym t.whole) t.taken, omega (arith, t.count))

abbrev problem_text : Version → Instance → List ℕ
problem_text v p = count_bytes v (length p.requests) ++ requests_bytes v p.requests

problem_takes : (v : Version) (h : Head) (bytes : List ℕ) → h.next_number ≤ 40001 → IsBytes bytes → (y : Instance × List ℕ) → problem_at v h bytes ≡ Ok y
    → Takes bytes (problem_text v y.0) y.1 × (y.0 ≡ problem_from h y.0.requests)
unfolding problem_at
problem_takes v h bytes below fits y e =
    step (number_at (width v) bytes) _ y bytes (count_bytes v) (λ n. n < 256 ^ width v) (λ a g. number_takes (width v) (of_width v) bytes a fits g) e (λ n tn pn en.
    step (times (next_request v h.next_number) n.0 [] n.1) _ y n.1 (requests_bytes v) (λ s. length s ≡ n.0) (λ a g. requests_take v h.next_number n.0 n.1 below tn.rest_fits a g) en (λ r tr pr er.
    let both = takes_then bytes (count_bytes v (length r.0)) n.1 (requests_bytes v r.0) r.1 (subst (λ k. Takes bytes (count_bytes v k) n.1) (sym pr) tn) tr in
    subst (λ (z : Instance × List ℕ). Takes bytes (problem_text v z.0) z.1 × (z.0 ≡ problem_from h z.0.requests)) (ok_is (problem_from h r.0, r.1) y er) (both, refl)))

-- ---- the working plan

abbrev IsWork : Version → List (List ℕ) → List (List ℕ) → Type 0
IsWork One plan work = work ≡ plan
IsWork Two plan work = Unit {0}

work_takes : (v : Version) (fleet : ℕ) (plan : List (List ℕ)) (bytes : List ℕ) → IsBytes bytes → (y : List (List ℕ) × List ℕ)
    → work_at v fleet plan bytes ≡ Ok y → Takes bytes (work_bytes v y.0) y.1 × IsWork v plan y.0
work_takes One fleet plan bytes fits y e = subst (λ (z : List (List ℕ) × List ℕ). Takes bytes [] z.1 × (z.0 ≡ plan)) (ok_is (plan, bytes) y e) (record { parts = refl; rest_fits = fits }, refl)
work_takes Two fleet plan bytes fits y e = ((routes_take Two fleet bytes fits y e).0, tt)

-- ---- a job

-- Facts about a job that was read
pub record IsReadJob (v : Version) (j : JobValue) : Type 0 where
  pub of : IsJobOf v j
  pub fleet : length j.pins ≡ j.problem.fleet
  pub deviation : j.deviation ≤ MAX_DEVIATION
  pub seed : j.seed < 2 ^ 64
  pub steps : j.steps ≤ 2 ^ 60

allowed : (v : Version) (d : ℕ) → IsAllowance v d → d ≤ MAX_DEVIATION
allowed One d h = omega (arith, h)
allowed Two d h = h

of_version : (v : Version) (h : Head) (j : JobValue) → IsHeadOf v h → j.problem.fleet ≡ h.fleet → j.problem.next_number ≡ h.next_number
    → j.deviation ≡ h.deviation → IsWork v j.plan j.work → IsJobOf v j
of_version One h j is fleet next deviation work = record
    { fleet = omega (arith, fleet, is.fleet); next_number = omega (arith, next, is.next_number); deviation = deviation ∙ is.deviation; work = work }
of_version Two h j is fleet next deviation work = tt

-- The bytes of the head, for the fields of this problem
abbrev problem_head : Version → Head → Instance → List ℕ
problem_head v h p = kind_code p.kind ∷ number_bytes 8 h.seed
    ++ (number_bytes 8 h.steps ++ (number_bytes 4 p.capacity
    ++ (count_bytes v p.fleet ++ (count_bytes v p.next_number ++ (depot_bytes p.depot ++ deviation_bytes v h.deviation)))))

pub job_takes : (v : Version) (bytes : List ℕ) → IsBytes bytes → (y : JobValue × List ℕ) → job_at v bytes ≡ Ok y → Takes bytes (job_bytes v y.0) y.1 × IsReadJob v y.0
unfolding job_at
job_takes v bytes fits y e =
    step (head_at v bytes) _ y bytes (head_text v) (IsHeadOf v) (head_takes v bytes fits) e (λ h th ph eh.
    step (problem_at v h.0 h.1) _ y h.1 (problem_text v) (λ p. p ≡ problem_from h.0 p.requests) (problem_takes v h.0 h.1 ph.head.next_number_max th.rest_fits) eh (λ p tp pp ep.
    step (times (next_vehicle v) h.0.fleet ([], []) p.1) _ y p.1 (λ (s : List (List ℕ) × List (List ℕ)). vehicles_bytes v s.0 s.1)
    (λ (s : List (List ℕ) × List (List ℕ)). length s.0 ≡ h.0.fleet) (λ a g. (let t = vehicles_take v h.0.fleet p.1 tp.rest_fits a g in (t.0, t.2))) ep
    (λ r tr pr er.
    step (work_at v h.0.fleet r.0.1 r.1) _ y r.1 (work_bytes v) (IsWork v r.0.1) (work_takes v h.0.fleet r.0.1 r.1 tr.rest_fits) er (λ w tw pw ew.
    let made : JobValue = record { problem = p.0; pins = r.0.0; plan = r.0.1; work = w.0; deviation = h.0.deviation; seed = h.0.seed; steps = h.0.steps } in
    let plans = vehicles_bytes v r.0.0 r.0.1 ++ work_bytes v w.0 in
    let t3 = takes_then p.1 (vehicles_bytes v r.0.0 r.0.1) r.1 (work_bytes v w.0) w.1 tr tw in
    let t2 = takes_then h.1 (problem_text v p.0) p.1 plans w.1 tp t3 in
    let t2' = subst (λ t. Takes h.1 t w.1) (append_assoc (count_bytes v (length p.0.requests)) (requests_bytes v p.0.requests) plans) t2 in
    let prefix : head_text v h.0 ≡ problem_head v h.0 p.0 = sym (ap (problem_head v h.0) pp) in
    let t1 = takes_then bytes (problem_head v h.0 p.0) h.1 (count_bytes v (length p.0.requests) ++ (requests_bytes v p.0.requests ++ plans)) w.1 (subst (λ t. Takes bytes t h.1) prefix th) t2' in
    let same : p.0.fleet ≡ h.0.fleet = ap (λ (q : Instance). q.fleet) pp in
    let known : IsReadJob v made = record {
      of = of_version v h.0 made ph same (ap (λ (q : Instance). q.next_number) pp) refl pw;
      fleet = pr
          ∙ sym same;
      deviation = allowed v h.0.deviation ph.deviation;
      seed = ph.seed;
      steps = ph.steps;
    } in
    subst (λ (z : JobValue × List ℕ). Takes bytes (job_bytes v z.0) z.1 × IsReadJob v z.0) (ok_is (made, w.1) y ew) (t1, known)))))

-- ---- all of the bytes of a state

abbrev pub option_bytes : Version → Option JobValue → List ℕ
option_bytes v None = 0 ∷ []
option_bytes v (Some j) = 1 ∷ job_bytes v j

abbrev pub IsReadOption : Version → Option JobValue → Type 0
IsReadOption v None = Unit {0}
IsReadOption v (Some j) = IsReadJob v j

loaded_by : (v : Version) (b : ℕ) (bytes rest : List ℕ) (y : Option JobValue × List ℕ) (zero? one? : Bool) → (b == 0) ≡ zero? → (b == 1) ≡ one? → bytes ≡ b ∷ rest → IsBytes rest
    → cond zero? (Ok (None, rest)) (cond one? (job_at v rest >>= λ job. Ok (Some job.0, job.1)) (Err BadField)) ≡ Ok y → Takes bytes (option_bytes v y.0) y.1 × IsReadOption v y.0
loaded_by v b bytes rest y true one? is0 is1 whole fits e =
    subst (λ (z : Option JobValue × List ℕ). Takes bytes (option_bytes v z.0) z.1 × IsReadOption v z.0) (ok_is (None, rest) y e)
    (record { parts = whole ∙ ap (λ n. n ∷ rest) (eqb-true b 0 is0); rest_fits = fits }, tt)
loaded_by v b bytes rest y false true is0 is1 whole fits e =
    step (job_at v rest) _ y rest (job_bytes v) (IsReadJob v) (job_takes v rest fits) e (λ j tj pj ej.
    subst (λ (z : Option JobValue × List ℕ). Takes bytes (option_bytes v z.0) z.1 × IsReadOption v z.0) (ok_is (Some j.0, j.1) y ej)
    (record { parts = whole ∙ ap (λ n. n ∷ rest) (eqb-true b 1 is1) ∙ ap (λ t. 1 ∷ t) tj.parts; rest_fits = tj.rest_fits }, pj))
loaded_by v b bytes rest y false false is0 is1 whole fits e = absurd cc

state_takes : (v : Version) (bytes : List ℕ) → IsBytes bytes → (y : Option JobValue × List ℕ) → state_at v bytes ≡ Ok y → Takes bytes (option_bytes v y.0) y.1 × IsReadOption v y.0
unfolding state_at
state_takes v bytes fits y e =
    step (byte_at bytes) _ y bytes (λ b. b ∷ []) (λ b. Unit {0}) (λ a h. ((byte_takes bytes fits a h).0, tt)) e (λ b tb pb eb.
    loaded_by v b.0 bytes b.1 y (b.0 == 0) (b.0 == 1) refl refl tb.parts tb.rest_fits eb)

end_ok : {A : Type 0} (b : Bool) (x y : A) → cond b (Ok x) (Err BadField) ≡ Ok y → (b ≡ true) × (x ≡ y)
end_ok true x y e = (refl, ok_is x y e)
end_ok false x y e = absurd cc

pub whole_takes : (v : Version) (bytes : List ℕ) → IsBytes bytes → (o : Option JobValue) → whole_state_at v bytes ≡ Ok o → (bytes ≡ option_bytes v o) × IsReadOption v o
unfolding whole_state_at
whole_takes v bytes fits o e =
    let b = bind_ok (state_at v bytes) (λ s. cond (length s.1 == 0) (Ok s.0) (Err BadField)) o e in
    let t = state_takes v bytes fits b.0 b.1 in
    let g = end_ok (length b.0.1 == 0) b.0.0 o b.2 in
    let none : b.0.1 ≡ [] = nil_from_length b.0.1 (eqb-true _ _ g.0) in
    subst (λ s. (bytes ≡ option_bytes v s) × IsReadOption v s) g.1 (t.0.parts ∙ ap (λ r. option_bytes v b.0.0 ++ r) none ∙ append-nil (option_bytes v b.0.0), t.1)
