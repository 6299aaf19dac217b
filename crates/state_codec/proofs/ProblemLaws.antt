-- The problem that was read is valid
use Rattle.std.proofs.Common.{◌≡◌, ℕ, ◌+◌, ◌-◌, ◌<◌, ◌≤◌, List, [], ◌∷◌, ◌++◌, length, Bool, true, false, cond, Option, Some, None, Ok, Err, refl, ap, subst, ◌∙◌, arith, max, length-append}
use Rattle.std.specs.Prelude.{◌==◌}
use Rattle.std.specs.List.{AllByRecursion, IsDistinct}
use Rattle.std.proofs.Math.Nat.{max-eq_left, max-le}
use Rattle.std.specs.List.Sorted.{IsStrictlySortedBy}
use Rattle.plan_types.specs.Instance.{Instance, IsInstance, with_request}
use Rattle.plan_types.specs.Laws.{PutKeepsProblemValid}
use Rattle.plan_types.specs.Request.{request_name, stops_of, number_after}
use Rattle.plan_types.specs.declared.requests.Request.{Request}
use Rattle.plan_types.specs.declared.requests.Request.TheVariants.{Single, Pair}
use Rattle.command_types.specs.Job.{JobValue}
use Rattle.state_codec.specs.declared.head.Head.{Head}
use Rattle.state_codec.specs.declared.version.Version.{Version}
use Rattle.state_codec.specs.declared.fault.CodecFault.TheVariants.{BadField}
use Rattle.state_codec.specs.Bytes.{request_bytes, requests_bytes, width}
use Rattle.state_codec.specs.Fields.{◌>>=◌, Field, byte_at, number_at}
use Rattle.state_codec.specs.Reading.{times, request_at, next_request, problem_from, problem_at, next_vehicle, work_at, head_at, job_at, state_at, whole_state_at}
use Rattle.state_codec.proofs.FieldLaws.{IsBytes, bind_ok, ok_is, number_takes, of_width}
use Rattle.state_codec.proofs.HeadLaws.{head_takes, IsHeadOf}
use Rattle.state_codec.proofs.PutLemmas.{goes_last, not_taken}
use Rattle.state_codec.proofs.RequestLaws.{IsNew, request_takes, byte_takes}
use Rattle.state_codec.proofs.TimesLaws.{Adds, times_take, flat_map_one}

most_kept : (next : ℕ) (r : Request) → AllByRecursion (λ s. s.number < next) (stops_of r) → max next (number_after r) ≡ next
most_kept next (Single s) below = max-eq_left (let h = below.0 in omega (arith, h))
most_kept next (Pair a b) below = max-eq_left (let h = below.0 in let k = below.1.0 in greatest a.number b.number next h k)
  where
    greatest : (x y n : ℕ) → x < n → y < n → max x y + 1 ≤ n
    greatest x y n h k = let m = max-le {a = x} {b = y} {k = n - 1} (omega (arith, h)) (omega (arith, k)) in omega (arith, m, h)

module _ (puts : PutKeepsProblemValid) (v : Version) (h : Head) (of : IsHeadOf v h) where
  abbrev Filled : List (ℕ × Request) → Type 0
  Filled es = IsInstance (problem_from h es)

  none_yet : Filled []
  unfolding IsDistinct IsStrictlySortedBy
  none_yet = record {
    depot = of.head.depot;
    capacity = of.head.capacity;
    fleet = of.head.fleet;
    named = tt;
    valid = tt;
    ascending = tt;
    distinct = tt;
    above = tt;
    next_number_min = of.head.next_number_min;
    next_number_max = of.head.next_number_max;
  }

  one_more : (es : List (ℕ × Request)) (r : Request) → Filled es → IsNew h.next_number es r → Filled (es ++ (request_name r, r) ∷ [])
  one_more es r filled new =
      let p = problem_from h es in
      let same : with_request p r ≡ problem_from h (es ++ (request_name r, r) ∷ []) = ap
      (λ (x : List (ℕ × Request)). record (problem_from h es) { requests = x; next_number = max h.next_number (number_after r) }) (goes_last r es new.names)
      ∙ ap (λ n. record (problem_from h (es ++ (request_name r, r) ∷ [])) { next_number = n }) (most_kept h.next_number r new.below) in
      subst IsInstance same (puts p r filled new.request (not_taken p h.next_number r new))

  next_takes : (a : List (ℕ × Request)) (bytes : List ℕ) → Filled a → IsBytes bytes → (y : List (ℕ × Request) × List ℕ)
      → next_request v h.next_number a bytes ≡ Ok y → Adds (requests_bytes v) length Filled 1 a bytes y
  next_takes a bytes filled fits y e =
      let b = bind_ok (request_at v h.next_number a bytes) (λ r. Ok (a ++ (request_name r.0, r.0) ∷ [], r.1)) y e in
      let t = request_takes v h.next_number a bytes of.head.next_number_max fits b.0 b.1 in
      subst (λ (z : List (ℕ × Request) × List ℕ). Adds (requests_bytes v) length Filled 1 a bytes z) (ok_is (a ++ (request_name b.0.0, b.0.0) ∷ [], b.0.1) y b.2)
      (record {
        added = request_bytes v b.0.0;
        taken = t.0;
        whole = flat_map_one (λ (e : ℕ × Request). request_bytes v e.1) a (request_name b.0.0, b.0.0);
        count = length-append a ((request_name b.0.0, b.0.0) ∷ []);
        kept = one_more a b.0.0 filled t.1;
      })

  problem_is : (bytes : List ℕ) → IsBytes bytes → (y : Instance × List ℕ) → problem_at v h bytes ≡ Ok y → IsInstance y.0
  unfolding problem_at
  problem_is bytes fits y e =
      let n = bind_ok (number_at (width v) bytes) _ y e in
      let t = number_takes (width v) (of_width v) bytes n.0 fits n.1 in
      let r = bind_ok (times (next_request v h.next_number) n.0.0 [] n.0.1) _ y n.2 in
      let a = times_take (next_request v h.next_number) (requests_bytes v) length Filled next_takes n.0.0 [] n.0.1 none_yet t.0.rest_fits r.0 r.1 in
      subst (λ (z : Instance × List ℕ). IsInstance z.0) (ok_is {A = Instance × List ℕ} (problem_from h r.0.0, r.0.1) y r.2) a.kept

end_ok : {A : Type 0} (b : Bool) (x y : A) → cond b (Ok x) (Err BadField) ≡ Ok y → (b ≡ true) × (x ≡ y)
end_ok true x y e = (refl, ok_is x y e)
end_ok false x y e = absurd cc

module _ (puts : PutKeepsProblemValid) (v : Version) where
  job_problem : (bytes : List ℕ) → IsBytes bytes → (y : JobValue × List ℕ) → job_at v bytes ≡ Ok y → IsInstance y.0.problem
  unfolding job_at
  job_problem bytes fits y e =
      let h = bind_ok (head_at v bytes) _ y e in
      let th = head_takes v bytes fits h.0 h.1 in
      let p = bind_ok (problem_at v h.0.0 h.0.1) _ y h.2 in
      let is = problem_is puts v h.0.0 th.1 h.0.1 th.0.rest_fits p.0 p.1 in
      let r = bind_ok (times (next_vehicle v) h.0.0.fleet ([], []) p.0.1) _ y p.2 in
      let w = bind_ok (work_at v h.0.0.fleet r.0.0.1 r.0.1) _ y r.2 in
      subst (λ (z : JobValue × List ℕ). IsInstance z.0.problem)
      (ok_is {A = JobValue × List ℕ} (
        record {
          problem = p.0.0;
          pins = r.0.0.0;
          plan = r.0.0.1;
          work = w.0.0;
          deviation = h.0.0.deviation;
          seed = h.0.0.seed;
          steps = h.0.0.steps;
        },
        w.0.1,
      ) y w.2) is

  abbrev nothing_at : List ℕ → Field (Option JobValue)
  nothing_at bytes = Ok (None, bytes)

  loaded_problem : (bytes : List ℕ) → IsBytes bytes → (b : ℕ) (zero? one? : Bool) (o : Option JobValue) (more : List ℕ) (j : JobValue)
      → cond zero? (nothing_at bytes) (cond one? (job_at v bytes >>= λ job. Ok (Some job.0, job.1)) (Err BadField)) ≡ Ok (o, more) → o ≡ Some j → IsInstance j.problem
  loaded_problem bytes fits b true one? o more j e is = let same = ok_is {A = Option JobValue × List ℕ} (None, bytes) (o, more) e in
      let n : None ≡ o = ap (λ (z : Option JobValue × List ℕ). z.0) same in let both = n ∙ is in absurd cc
  loaded_problem bytes fits b false true o more j e is =
      let k = bind_ok (job_at v bytes) _ (o, more) e in
      let same = ok_is {A = Option JobValue × List ℕ} (Some k.0.0, k.0.1) (o, more) k.2 in
      let n : Some k.0.0 ≡ o = ap (λ (z : Option JobValue × List ℕ). z.0) same in
      let both = n ∙ is in
      let j-is : k.0.0 ≡ j = cc in
      subst (λ (z : JobValue). IsInstance z.problem) j-is (job_problem bytes fits k.0 k.1)
  loaded_problem bytes fits b false false o more j e is = absurd cc

  pub whole_problem : (bytes : List ℕ) → IsBytes bytes → (j : JobValue) → whole_state_at v bytes ≡ Ok (Some j) → IsInstance j.problem
  unfolding whole_state_at state_at
  whole_problem bytes fits j e =
      let s = bind_ok (state_at v bytes) (λ s. cond (length s.1 == 0) (Ok s.0) (Err BadField)) (Some j) e in
      let g = end_ok (length s.0.1 == 0) s.0.0 (Some j) s.2 in
      let b = bind_ok (byte_at bytes) _ s.0 s.1 in
      let t = byte_takes bytes fits b.0 b.1 in
      loaded_problem b.0.1 t.0.rest_fits b.0.0 (b.0.0 == 0) (b.0.0 == 1) s.0.0 s.0.1 j b.2 g.1
