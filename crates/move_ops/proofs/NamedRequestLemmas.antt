-- The request of a name, found in the table of stops.
use Rattle.std.proofs.Common.{◌≡◌, ℕ, Option, Some, None, IsSome, refl, sym, ap, subst, ◌∙◌, nat_eq}
use Rattle.std.specs.Map.{lookup}
use Rattle.std.specs.Option.{option_map}
use Rattle.std.proofs.lemmas.Bool.{eq-eqb}
use Rattle.plan_types.specs.Instance.{Instance, IsInstance, stop_at, name_at, partner_at, request_with}
use Rattle.plan_types.specs.Laws.{NamedRequestsAreFound, RequestsAreStoredByName, IsFoundAt}
use Rattle.plan_types.specs.Request.{request_name, stop_in, partner_in}
use Rattle.plan_types.specs.declared.requests.Request.{Request}
use Rattle.plan_types.specs.declared.requests.Request.TheVariants.{Single, Pair}
use Rattle.plan_types.specs.declared.requests.Stop.{Stop}
use Rattle.slack_tables.proofs.InsertLemmas.{delivery-found, request-valid}
use Rattle.move_ops.proofs.ChoiceLemmas.{name_of}
use Rattle.move_ops.proofs.OccurrenceLemmas.{none_some, some_same}

first_in : (r : Request) (n : ℕ) → request_name r ≡ n → IsSome (stop_in n r)
first_in (Single s) n same = rw (eq-eqb s.number n same) refl
first_in (Pair a b) n same = rw (eq-eqb a.number n same) refl

module _ (law : NamedRequestsAreFound) (stored : RequestsAreStoredByName) (p : Instance) (valid : IsInstance p) (n : ℕ) where
  -- the request is found at the number of its first stop
  named_at : (r : Request) → lookup (nat_eq n) p.requests ≡ Some r → IsFoundAt p n r × (request_name r ≡ n)
  named_at r at = let same = name_of p.requests n r valid.named at in (law p n n r valid at (first_in r n same), same)

  unnamed : ((r : Request) → lookup (nat_eq n) p.requests ≡ Some r → ⊥) → None ≡ lookup (nat_eq n) p.requests
  unnamed never = by (lookup (nat_eq n) p.requests) refl
    where
      by : (o : Option Request) → lookup (nat_eq n) p.requests ≡ o → None ≡ lookup (nat_eq n) p.requests
      by None e = sym e
      by (Some r) e = absurd (never r e)

  pub none_named : name_at p n ≡ None → None ≡ lookup (nat_eq n) p.requests
  none_named none = unnamed (λ r at. none_some (request_name r) (sym none ∙ (named_at r at).0.name))

  pub other_named : (m : ℕ) → name_at p n ≡ Some m → (m ≡ n → ⊥) → None ≡ lookup (nat_eq n) p.requests
  other_named m is other = unnamed (λ r at. (let x = named_at r at in other (some_same m (request_name r) (sym is ∙ x.0.name) ∙ x.1)))

  pub no_stop : stop_at p n ≡ None → None ≡ lookup (nat_eq n) p.requests
  no_stop none = unnamed (λ r at. (let x = named_at r at in missing (stop_in n r) (first_in r n x.1) (sym none ∙ x.0.stop)))
    where
      missing : (o : Option Stop) → IsSome o → None ≡ o → ⊥
      missing None some e = (let h : IsSome {T = Stop} None = some in cc)
      missing (Some s) some e = none_some s e

  -- if the request with stop n has the name n, it is found under n
  own : name_at p n ≡ Some n → (r : Request) × (lookup (nat_eq n) p.requests ≡ Some r)
  own is = by (request_with p n) refl is
    where
      by : (o : Option Request) → request_with p n ≡ o → option_map request_name o ≡ Some n → (r : Request) × (lookup (nat_eq n) p.requests ≡ Some r)
      by None e h = absurd (let k : None ≡ Some n = h in none_some n k)
      by (Some r) e h = (r, subst (λ m. lookup (nat_eq m) p.requests ≡ Some r) (some_same (request_name r) n h) (stored p n r valid e))

  pub single_named : (s : Stop) → name_at p n ≡ Some n → stop_at p n ≡ Some s → partner_at p n ≡ None → Some (Single s) ≡ lookup (nat_eq n) p.requests
  single_named s is stop alone = let x = own is in by x.0 x.1
    where
      by : (r : Request) → lookup (nat_eq n) p.requests ≡ Some r → Some (Single s) ≡ lookup (nat_eq n) p.requests
      by (Single t) at =
          let x = named_at (Single t) at in
          let here : stop_in n (Single t) ≡ Some t = rw (eq-eqb t.number n x.1) refl in
          ap (λ u. Some (Single u)) (some_same s t (sym stop ∙ (x.0.stop ∙ here))) ∙ sym at
      by (Pair a b) at =
          let x = named_at (Pair a b) at in
          let other : partner_in n (Pair a b) ≡ Some b.number = rw (eq-eqb a.number n x.1) refl in
          absurd (none_some b.number (sym alone ∙ (x.0.partner ∙ other)))

  -- the other stop of a pair is found under its number
  second_at : (a b : Stop) (m : ℕ) → lookup (nat_eq n) p.requests ≡ Some (Pair a b) → partner_at p n ≡ Some m → stop_at p m ≡ Some b
  second_at a b m at is =
      let x = named_at (Pair a b) at in
      let other : partner_in n (Pair a b) ≡ Some b.number = rw (eq-eqb a.number n x.1) refl in
      let same : b.number ≡ m = some_same b.number m (sym (x.0.partner ∙ other) ∙ is) in
      let here = delivery-found a b (request-valid p n (Pair a b) valid at).2 in
      let some : IsSome (stop_in b.number (Pair a b)) = rw here refl in
      subst (λ k. stop_at p k ≡ Some b) same ((law p b.number n (Pair a b) valid at some).stop ∙ here)

  pub no_second : (m : ℕ) → partner_at p n ≡ Some m → stop_at p m ≡ None → None ≡ lookup (nat_eq n) p.requests
  no_second m is none = unnamed by
    where
      by : (r : Request) → lookup (nat_eq n) p.requests ≡ Some r → ⊥
      by (Single t) at = none_some m (sym (named_at (Single t) at).0.partner ∙ is)
      by (Pair a b) at = none_some b (sym none ∙ second_at a b m at is)

  pub pair_named : (s t : Stop) (m : ℕ) → name_at p n ≡ Some n → stop_at p n ≡ Some s → partner_at p n ≡ Some m → stop_at p m ≡ Some t
      → Some (Pair s t) ≡ lookup (nat_eq n) p.requests
  pair_named s t m is stop partner second = let x = own is in by x.0 x.1
    where
      by : (r : Request) → lookup (nat_eq n) p.requests ≡ Some r → Some (Pair s t) ≡ lookup (nat_eq n) p.requests
      by (Single u) at = absurd (none_some m (sym (named_at (Single u) at).0.partner ∙ partner))
      by (Pair a b) at =
          let x = named_at (Pair a b) at in
          let here : stop_in n (Pair a b) ≡ Some a = rw (eq-eqb a.number n x.1) refl in
          let first = some_same s a (sym stop ∙ (x.0.stop ∙ here)) in
          let last = some_same t b (sym second ∙ second_at a b m at partner) in
          ap (λ u. Some (Pair u t)) first ∙ (ap (λ u. Some (Pair a u)) last ∙ sym at)
