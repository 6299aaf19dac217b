-- Reading longer bytes returns the same value, with the additional bytes at the end of the rest, or the same
-- bad field. Reading has no other faults than a bad field and the end of the bytes.
use Rattle.std.proofs.Common.{◌≡◌, ◌⊎◌, ℕ, zero, suc, ◌≤◌, Bool, true, false, cond, ltb, List, [], ◌∷◌, ◌++◌, length, drop, Option, Some, None, Result, Ok, Err, refl, sym, ap, ◌∙◌, arith, inl, inr}
use Rattle.std.specs.Prelude.{ℤ, ◌==◌, neg_ℤ}
use Rattle.std.specs.Int.{w32, cast_signed}
use Rattle.std.proofs.lemmas.Bool.{ltb-false, le-ltb, eqb-false, ne_eqb}
use Rattle.std.proofs.lemmas.List.{length-append, drop-append-le}
use Rattle.byteorder.specs.Endian.{big_number}
use Rattle.byteorder.specs.Numbers.{big_from-append}
use Rattle.plan_types.specs.declared.requests.Request.{Request}
use Rattle.plan_types.specs.declared.requests.Stop.{Stop}
use Rattle.plan_types.specs.declared.requests.Kind.TheVariants.{LiLim, Vrp}
use Rattle.command_types.specs.Job.{JobValue}
use Rattle.state_codec.specs.declared.head.Head.{Head}
use Rattle.state_codec.specs.declared.version.Version.{Version}
use Rattle.state_codec.specs.declared.version.Version.TheVariants.{One, Two}
use Rattle.state_codec.specs.declared.fault.CodecFault.{CodecFault}
use Rattle.state_codec.specs.declared.fault.CodecFault.TheVariants.{Truncated, BadField, PlanRefused}
use Rattle.state_codec.specs.Bytes.{width}
use Rattle.state_codec.specs.Fields.{◌>>=◌, Field, only, byte_at, number_at, signed_at, point_at, window_at}
use Rattle.state_codec.specs.Reading.{
  visit_at,
  first_at,
  delivery_at,
  single_at,
  pair_at,
  request_at,
  times,
  next_request,
  next_stop,
  vehicle_at,
  next_vehicle,
  route_at,
  next_route,
  work_at,
  kind_at,
  depot_at,
  job_deviation_at,
  head_at,
  problem_at,
  job_at,
  state_at,
  whole_state_at,
}
use Rattle.state_codec.proofs.FieldLaws.{bind_ok, ok_is}

-- If two steps in sequence fail, the first or the second has failed with this fault
bind_err : {A B : Type 0} (r : Result A CodecFault) (f : A → Result B CodecFault) (e : CodecFault) → (r >>= f) ≡ Err e → (r ≡ Err e) ⊎ ((x : A) × (r ≡ Ok x) × (f x ≡ Err e))
bind_err (Ok x) f e h = inr (x, refl, h)
bind_err (Err d) f e h = let same : d ≡ e = cc in inl (ap Err same)

-- The relation between reading bytes and reading them with more bytes after them
pub record Grows (more : List ℕ) {A : Type 0} (short long : Field A) : Type 0 where
  pub ok : (x : A × List ℕ) → short ≡ Ok x → long ≡ Ok (x.0, x.1 ++ more)
  pub bad : short ≡ Err BadField → long ≡ Err BadField
  pub faults : (e : CodecFault) → short ≡ Err e → (e ≡ Truncated) ⊎ (e ≡ BadField)

module _ (more : List ℕ) where
  done : {A : Type 0} (x : A × List ℕ) → Grows more (Ok x) (Ok (x.0, x.1 ++ more))
  done {A} x = record { ok = λ y e. ap (λ (z : A × List ℕ). Ok (z.0, z.1 ++ more)) (ok_is x y e); bad = λ e. absurd cc; faults = λ e h. absurd cc }

  abbrev failed : {A : Type 0} → CodecFault → Field A
  failed e = Err e

  wrong : {A : Type 0} → Grows more (failed {A = A} BadField) (failed {A = A} BadField)
  wrong = record { ok = λ y e. absurd cc; bad = λ e. e; faults = λ e h. inr cc }

  cut : {A : Type 0} (long : Field A) → Grows more (failed {A = A} Truncated) long
  cut long = record { ok = λ y e. absurd cc; bad = λ e. absurd cc; faults = λ e h. inl cc }

  bind : {A B : Type 0} (r s : Field A) (f : A × List ℕ → Field B) → Grows more r s → ((x : A × List ℕ) → Grows more (f x) (f (x.0, x.1 ++ more))) → Grows more (r >>= f) (s >>= f)
  bind {A} {B} r s f p q = record {
    ok = λ y e. let b = bind_ok r f y e in ap (λ z. z >>= f) (p.ok b.0 b.1) ∙ (q b.0).ok y b.2;
    bad = λ e. elim (bind_err r f BadField e) [
      | inl h ↦ ap (λ z. z >>= f) (p.bad h)
      | inr h ↦ ap (λ z. z >>= f) (p.ok h.0 h.1) ∙ (q h.0).bad h.2
    ];
    faults = λ d e. elim (bind_err r f d e) [
      | inl h ↦ p.faults d h
      | inr h ↦ (q h.0).faults d h.2
    ];
  }

  either : {A : Type 0} (b : Bool) (x y z w : Field A) → Grows more x z → Grows more y w → Grows more (cond b x y) (cond b z w)
  either true x y z w p q = p
  either false x y z w p q = q

  kept : {X : Type 0} (rule : X → Bool) (short long : Field X) → Grows more short long → Grows more (only rule short) (only rule long)
  kept rule short long p = bind short long _ p (λ x. either (rule x.0) (Ok x) _ (Ok (x.0, x.1 ++ more)) _ (done x) wrong)

  -- Reading a field of k bytes, whose value depends only on these bytes
  prefix : {X : Type 0} (value : List ℕ → X) (k : ℕ) (bytes : List ℕ) → (k ≤ length bytes → value (bytes ++ more) ≡ value bytes)
      → Grows more (cond (ltb (length bytes) k) (Err Truncated) (Ok (value bytes, drop k bytes)))
      (cond (ltb (length (bytes ++ more)) k) (Err Truncated) (Ok (value (bytes ++ more), drop k (bytes ++ more))))
  prefix {X} value k bytes same = by_test (ltb (length bytes) k) refl
    where
      by_test : (b : Bool) → ltb (length bytes) k ≡ b → Grows more (cond b (Err Truncated) (Ok (value bytes, drop k bytes)))
          (cond (ltb (length (bytes ++ more)) k) (Err Truncated) (Ok (value (bytes ++ more), drop k (bytes ++ more))))
      by_test true is = cut _
      by_test false is =
          let long : k ≤ length bytes = ltb-false _ _ is in
          let longer : ltb (length (bytes ++ more)) k ≡ false = le-ltb _ _ (omega (arith, long, length-append bytes more)) in
          rw (longer, same long, drop-append-le k bytes more long) (done (value bytes, drop k bytes))

  abbrev Grow : {A : Type 0} → (List ℕ → Field A) → Type 0
  Grow read = (bytes : List ℕ) → Grows more (read bytes) (read (bytes ++ more))

  byte : Grow byte_at
  unfolding byte_at
  byte [] = cut _
  byte (b ∷ rest) = done (b, rest)

  number : (size : ℕ) → Grow (number_at size)
  unfolding number_at
  number size bytes = prefix (big_number size) size bytes (big_from-append size bytes more)

  signed : Grow signed_at
  unfolding signed_at
  signed bytes = prefix (λ b. cast_signed w32 (big_number 4 b)) 4 bytes (λ long. ap (cast_signed w32) (big_from-append 4 bytes more long))

  point : Grow point_at
  unfolding point_at
  point bytes = bind _ _ _ (kept _ _ _ (signed bytes)) (λ x. bind _ _ _ (kept _ _ _ (signed x.1)) (λ y. done _))

  window : Grow window_at
  unfolding window_at
  window bytes = bind _ _ _ (kept _ _ _ (number 4 bytes)) (λ a. bind _ _ _ (kept _ _ _ (number 4 a.1)) (λ b. done _))

  visit : (n : ℕ) (wanted : Option ℤ) → Grow (visit_at n wanted)
  unfolding visit_at
  visit n wanted bytes =
      bind _ _ _ (point bytes) (λ p.
      bind _ _ _ (kept _ _ _ (signed p.1)) (λ q.
      bind _ _ _ (window q.1) (λ w.
      bind _ _ _ (kept _ _ _ (number 4 w.1)) (λ d. done _))))

  depot : Grow depot_at
  unfolding depot_at
  depot bytes = bind _ _ _ (point bytes) (λ p. bind _ _ _ (window p.1) (λ w. done _))

  first : (v : Version) (next : ℕ) (before : List (ℕ × Request)) → Grow (first_at v next before)
  unfolding first_at
  first v next before bytes = bind _ _ _ (kept _ _ _ (number (width v) bytes)) (λ n. visit n.0 None n.1)

  delivery : (v : Version) (next : ℕ) (before : List (ℕ × Request)) (p : Stop) → Grow (delivery_at v next before p)
  unfolding delivery_at
  delivery v next before p bytes = bind _ _ _ (kept _ _ _ (number (width v) bytes)) (λ n. visit n.0 (Some (neg_ℤ p.demand)) n.1)

  single : (v : Version) (next : ℕ) (before : List (ℕ × Request)) → Grow (single_at v next before)
  unfolding single_at
  single v next before bytes = bind _ _ _ (first v next before bytes) (λ s. done _)

  both : (v : Version) (next : ℕ) (before : List (ℕ × Request)) → Grow (pair_at v next before)
  unfolding pair_at
  both v next before bytes = bind _ _ _ (first v next before bytes) (λ p. bind _ _ _ (delivery v next before p.0 p.1) (λ d. done _))

  request : (v : Version) (next : ℕ) (before : List (ℕ × Request)) → Grow (request_at v next before)
  unfolding request_at
  request v next before bytes = bind _ _ _ (byte bytes) (λ f. either _ _ _ _ _ (single v next before f.1) (either _ _ _ _ _ (both v next before f.1) wrong))

  many : {A : Type 0} (one : A → List ℕ → Field A) → ((a : A) → Grow (one a)) → (n : ℕ) (a : A) → Grow (times one n a)
  unfolding times
  many one p zero a bytes = done _
  many one p (suc n) a bytes = bind _ _ _ (p a bytes) (λ x. many one p n x.0 x.1)

  stop : (v : Version) (a : List ℕ) → Grow (next_stop v a)
  stop v a bytes = bind (number_at (width v) bytes) _ _ (number (width v) bytes) (λ x. done _)

  vehicle : (v : Version) → Grow (vehicle_at v)
  unfolding vehicle_at
  vehicle v bytes =
      bind _ _ _ (number (width v) bytes) (λ p.
      bind _ _ _ (kept _ _ _ (number (width v) p.1)) (λ l.
      bind _ _ _ (many (next_stop v) (stop v) l.0 [] l.1) (λ r. done _)))

  route : (v : Version) → Grow (route_at v)
  unfolding route_at
  route v bytes = bind _ _ _ (number (width v) bytes) (λ l. many (next_stop v) (stop v) l.0 [] l.1)

  one_vehicle : (v : Version) (a : List (List ℕ) × List (List ℕ)) → Grow (next_vehicle v a)
  one_vehicle v a bytes = bind (vehicle_at v bytes) _ _ (vehicle v bytes) (λ x. done _)

  one_route : (v : Version) (a : List (List ℕ)) → Grow (next_route v a)
  one_route v a bytes = bind (route_at v bytes) _ _ (route v bytes) (λ x. done _)

  one_request : (v : Version) (next : ℕ) (a : List (ℕ × Request)) → Grow (next_request v next a)
  one_request v next a bytes = bind (request_at v next a bytes) _ _ (request v next a bytes) (λ x. done _)

  work : (v : Version) (fleet : ℕ) (plan : List (List ℕ)) → Grow (work_at v fleet plan)
  work One fleet plan bytes = done _
  work Two fleet plan bytes = many (next_route Two) (one_route Two) fleet [] bytes

  kind : Grow kind_at
  kind bytes = bind (byte_at bytes) _ _ (byte bytes)
      (λ b. either (b.0 == 1) (Ok (LiLim, b.1)) _ (Ok (LiLim, b.1 ++ more)) _ (done (LiLim, b.1))
      (either (b.0 == 2) (Ok (Vrp, b.1)) _ (Ok (Vrp, b.1 ++ more)) _ (done (Vrp, b.1)) wrong))

  allowance : (v : Version) → Grow (job_deviation_at v)
  allowance One bytes = done _
  allowance Two bytes = kept _ _ _ (number 4 bytes)

  head : (v : Version) → Grow (head_at v)
  unfolding head_at
  head v bytes =
      bind _ _ _ (kind bytes) (λ k.
      bind _ _ _ (number 8 k.1) (λ s.
      bind _ _ _ (kept _ _ _ (number 8 s.1)) (λ t.
      bind _ _ _ (kept _ _ _ (number 4 t.1)) (λ q.
      bind _ _ _ (kept _ _ _ (number (width v) q.1)) (λ f.
      bind _ _ _ (kept _ _ _ (number (width v) f.1)) (λ n.
      bind _ _ _ (depot n.1) (λ d.
      bind _ _ _ (allowance v d.1) (λ a. done _))))))))

  problem : (v : Version) (h : Head) → Grow (problem_at v h)
  unfolding problem_at
  problem v h bytes = bind _ _ _ (number (width v) bytes) (λ n. bind _ _ _ (many (next_request v h.next_number) (one_request v h.next_number) n.0 [] n.1) (λ r. done _))

  job : (v : Version) → Grow (job_at v)
  unfolding job_at
  job v bytes =
      bind _ _ _ (head v bytes) (λ h.
      bind _ _ _ (problem v h.0 h.1) (λ p.
      bind _ _ _ (many (next_vehicle v) (one_vehicle v) h.0.fleet ([], []) p.1) (λ r.
      bind _ _ _ (work v h.0.fleet r.0.1 r.1) (λ w. done _))))

  pub state : (v : Version) → Grow (state_at v)
  unfolding state_at
  state v bytes = bind _ _ _ (byte bytes) (λ b. either _ _ _ _ _ (done _) (either _ _ _ _ _ (bind _ _ _ (job v b.1) (λ j. done _)) wrong))

-- ---- all of the bytes

-- The final test either passed and returned the value, or failed with a bad field
end_test : {A : Type 0} (b : Bool) (x : A) (r : Result A CodecFault) → cond b (Ok x) (Err BadField) ≡ r → ((b ≡ true) × (Ok x ≡ r)) ⊎ ((b ≡ false) × (Err BadField ≡ r))
end_test true x r e = inl (refl, e)
end_test false x r e = inr (refl, e)

pub whole_faults : (v : Version) (bytes : List ℕ) (e : CodecFault) → whole_state_at v bytes ≡ Err e → (e ≡ Truncated) ⊎ (e ≡ BadField)
unfolding whole_state_at
whole_faults v bytes e h = elim (bind_err (state_at v bytes) _ e h) [
  | inl f ↦ (state [] v bytes).faults e f
  | inr k ↦ (elim (end_test (length k.0.1 == 0) k.0.0 (Err e) k.2) [
    | inl t ↦ absurd cc
    | inr t ↦ inr cc
  ])
]

pub whole_stays : (v : Version) (bytes more : List ℕ) → whole_state_at v bytes ≡ Err BadField → whole_state_at v (bytes ++ more) ≡ Err BadField
unfolding whole_state_at
whole_stays v bytes more h = elim (bind_err (state_at v bytes) _ BadField h) [
  | inl f ↦ rw ((state more v bytes).bad f) refl
  | inr k ↦ (elim (end_test (length k.0.1 == 0) k.0.0 (Err BadField) k.2) [
    | inl t ↦ absurd cc
    | inr t ↦ (let longer : (length (k.0.1 ++ more) == 0) ≡ false = ne_eqb _ _ (λ e. eqb-false _ _ t.0 (omega (arith, e, length-append k.0.1 more))) in
        rw ((state more v bytes).ok k.0 k.1, longer) refl)
  ])
]

pub whole_and_more : (v : Version) (bytes : List ℕ) (b : ℕ) (more : List ℕ) (o : Option JobValue) → whole_state_at v bytes ≡ Ok o → whole_state_at v (bytes ++ b ∷ more) ≡ Err BadField
unfolding whole_state_at
whole_and_more v bytes b more o h =
    let k = bind_ok (state_at v bytes) _ o h in
    let longer : (length (k.0.1 ++ b ∷ more) == 0) ≡ false = ne_eqb _ _ (λ e. omega (arith, e, length-append k.0.1 (b ∷ more))) in
    rw ((state (b ∷ more) v bytes).ok k.0 k.1, longer) refl

-- Reading a proper prefix fails as truncated, if all of the bytes can be read
pub prefix_is_truncated : (v : Version) (prefix : List ℕ) (b : ℕ) (rest : List ℕ) (o : Option JobValue) → whole_state_at v (prefix ++ b ∷ rest) ≡ Ok o → whole_state_at v prefix ≡ Err Truncated
prefix_is_truncated v prefix b rest o h = by_answer (whole_state_at v prefix) refl
  where
    by_answer : (r : Result (Option JobValue) CodecFault) → whole_state_at v prefix ≡ r → whole_state_at v prefix ≡ Err Truncated
    by_answer (Ok p) e = let both = sym h ∙ whole_and_more v prefix b rest p e in absurd cc
    by_answer (Err f) e = elim (whole_faults v prefix f e) [
      | inl t ↦ e ∙ ap Err t
      | inr t ↦ (let both = sym h ∙ whole_stays v prefix (b ∷ rest) (e ∙ ap Err t) in absurd cc)
    ]

pub whole_is_plain : (v : Version) (bytes : List ℕ) (rule : ℕ) → whole_state_at v bytes ≡ Err (PlanRefused rule) → ⊥
whole_is_plain v bytes rule h = elim (whole_faults v bytes (PlanRefused rule) h) [
  | inl t ↦ absurd cc
  | inr t ↦ absurd cc
]
