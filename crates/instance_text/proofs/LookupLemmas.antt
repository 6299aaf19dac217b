-- Lookups in a problem whose requests are pairs.
use Rattle.std.proofs.Common.{◌≡◌, ◌≢◌, ℕ, Bool, true, false, cond, eqb, List, [], ◌∷◌, nat_eq, Option, Some, None, IsSome, inl, inr, refl, sym, subst, ◌∙◌, ◌⊎◌}
use Rattle.std.specs.List.{AllByRecursion, list_all}
use Rattle.std.specs.Map.{lookup}
use Rattle.std.specs.Option.{option_map, option_or}
use Rattle.std.proofs.lemmas.Bool.{and_parts, eq-eqb, false≢true}
use Rattle.std.proofs.lemmas.Bool.Decides.{eqb_tells}
use Rattle.plan_types.specs.Instance.{Instance, IsInstance, first_some, partner_at, pickup_at, request_with, stop_at}
use Rattle.plan_types.specs.Request.{IsRequest, pickup_in, request_name, stop_in}
use Rattle.plan_types.specs.declared.requests.Request.{Request}
use Rattle.plan_types.specs.declared.requests.Request.TheVariants.{Single, Pair}
use Rattle.plan_types.specs.declared.requests.Stop.{Stop}
use Rattle.plan_types.proofs.LawProofs.{named_are_found}
use Rattle.plan_types.proofs.LookupLemmas.{itself, lookup-free, lookup-request_with, none_some}
use Rattle.plan_types.proofs.TakeLemmas.{found-has}
use Rattle.instance_text.specs.Formats.{is_pair}

some_same : {X : Type 0} {x y : X} → Some x ≡ Some y → x ≡ y
some_same h = cc

-- what is true for each entry is true for the one that a lookup of a name finds
lookup_holds : (P : ℕ × Request → Type 0) (name : ℕ) (es : List (ℕ × Request)) (r : Request) → AllByRecursion P es → lookup (nat_eq name) es ≡ Some r → P (name, r)
lookup_holds P name [] r all is = absurd (none_some r is)
lookup_holds P name (e ∷ es) r all is = by (eqb_tells name e.0) (λ h. lookup_holds P name es r all.1 h)
  where
    by : ((eqb name e.0 ≡ true) × (name ≡ e.0)) ⊎ ((eqb name e.0 ≡ false) × (name ≢ e.0)) → (lookup (nat_eq name) es ≡ Some r → P (name, r)) → P (name, r)
    by (inl t) rest =
        let same : e.1 ≡ r = (let g : cond (eqb name e.0) (Some e.1) (lookup (nat_eq name) es) ≡ Some r = is in some_same (rw t.0 at g)) in
        subst (λ x. P (name, x)) same (subst (λ n. P (n, e.1)) (sym t.1) all.0)
    by (inr t) rest = rest (let g : cond (eqb name e.0) (Some e.1) (lookup (nat_eq name) es) ≡ Some r = is in rw t.0 at g)

all_true : (test : ℕ × Request → Bool) (es : List (ℕ × Request)) → list_all test es ≡ true → AllByRecursion (λ e. test e ≡ true) es
all_true test [] is = tt
all_true test (e ∷ es) is = let parts = and_parts (test e) (list_all test es) is in (parts.0, all_true test es parts.1)

-- if no request has a stop with this number, no lookup finds one
none_itself : (n : ℕ) (es : List (ℕ × Request)) → first_some (itself n) es ≡ None → first_some (stop_in n) es ≡ None
none_itself n [] is = refl
none_itself n (e ∷ es) is = by (stop_in n e.1) refl (λ h. none_itself n es h)
  where
    by : (o : Option Stop) → stop_in n e.1 ≡ o → (first_some (itself n) es ≡ None → first_some (stop_in n) es ≡ None) → option_or (stop_in n e.1) (first_some (stop_in n) es) ≡ None
    by None o rest = rw o (rest (let g : option_or (option_map (λ _. e.1) (stop_in n e.1)) (first_some (itself n) es) ≡ None = is in rw o at g))
    by (Some s) o rest = absurd (none_some e.1 (sym (let g : option_or (option_map (λ _. e.1) (stop_in n e.1)) (first_some (itself n) es) ≡ None = is in rw o at g)))

-- the results of lookups for both numbers of a pair
pub record IsPairIn (p : Instance) (a b : Stop) : Type 0 where
  pub valid : IsRequest (Pair a b)
  pub named : lookup (nat_eq a.number) p.requests ≡ Some (Pair a b)
  pub pickup : stop_at p a.number ≡ Some a
  pub delivery : stop_at p b.number ≡ Some b
  pub pickup_of_pickup : pickup_at p a.number ≡ None
  pub pickup_of_delivery : pickup_at p b.number ≡ Some a.number
  pub partner_of_pickup : partner_at p a.number ≡ Some b.number

-- no lookup finds a stop or a request with this number
pub record IsFree (p : Instance) (n : ℕ) : Type 0 where
  pub stop : stop_at p n ≡ None
  pub named : lookup (nat_eq n) p.requests ≡ None

pub record IsPickup (p : Instance) (n : ℕ) : Type 0 where
  pub a : Stop
  pub b : Stop
  pub pair : IsPairIn p a b
  pub here : a.number ≡ n

pub record IsDelivery (p : Instance) (n : ℕ) : Type 0 where
  pub a : Stop
  pub b : Stop
  pub pair : IsPairIn p a b
  pub here : b.number ≡ n
  pub named : lookup (nat_eq n) p.requests ≡ None

abbrev pub Place : Instance → ℕ → Type 0
Place p n = IsFree p n ⊎ (IsPickup p n ⊎ IsDelivery p n)

module _ (p : Instance) (valid : IsInstance p) (pairs : list_all (λ e. is_pair e.1) p.requests ≡ true) where
  own_pickup : (a b : Stop) → stop_in a.number (Pair a b) ≡ Some a
  own_pickup a b = rw (eq-eqb a.number a.number refl) refl

  own_delivery : (a b : Stop) → eqb a.number b.number ≡ false → stop_in b.number (Pair a b) ≡ Some b
  own_delivery a b apart = rw (apart, eq-eqb b.number b.number refl) refl

  is_some_of : {X : Type 0} (o : Option X) (x : X) → o ≡ Some x → IsSome o
  is_some_of o x is = rw is refl

  pair_found : (a b : Stop) → lookup (nat_eq a.number) p.requests ≡ Some (Pair a b) → eqb a.number b.number ≡ false → IsPairIn p a b
  pair_found a b named apart =
      let first = named_are_found p a.number a.number (Pair a b) valid named (is_some_of _ a (own_pickup a b)) in
      let second = named_are_found p b.number a.number (Pair a b) valid named (is_some_of _ b (own_delivery a b apart)) in
      record {
        valid = lookup_holds (λ e. IsRequest e.1) a.number p.requests (Pair a b) valid.valid named;
        named = named;
        pickup = first.stop ∙ own_pickup a b;
        delivery = second.stop ∙ own_delivery a b apart;
        pickup_of_pickup = first.pickup ∙ rw (eq-eqb a.number a.number refl) refl;
        pickup_of_delivery = second.pickup ∙ rw (apart, eq-eqb b.number b.number refl) refl;
        partner_of_pickup = first.partner ∙ rw (eq-eqb a.number a.number refl) refl;
      }

  -- a delivery's number is not the name of a request
  no_name : (a b : Stop) → IsPairIn p a b → lookup (nat_eq b.number) p.requests ≡ None
  no_name a b pair = by (lookup (nat_eq b.number) p.requests) refl
    where
      named_so : (r : Request) → lookup (nat_eq b.number) p.requests ≡ Some r → b.number ≡ request_name r
      named_so r is = lookup_holds (λ e. e.0 ≡ request_name e.1) b.number p.requests r valid.named is

      own : (r : Request) → b.number ≡ request_name r → IsSome (stop_in b.number r) × (pickup_in b.number r ≡ None)
      own (Single s) is = (rw (eq-eqb s.number b.number (sym is)) refl, refl)
      own (Pair c d) is = (rw (eq-eqb c.number b.number (sym is)) refl, rw (eq-eqb c.number b.number (sym is)) refl)

      by : (o : Option Request) → lookup (nat_eq b.number) p.requests ≡ o → lookup (nat_eq b.number) p.requests ≡ None
      by None is = is
      by (Some r) is =
          let its = own r (named_so r is) in
          let found = named_are_found p b.number b.number r valid is its.0 in
          absurd (none_some a.number (sym (found.pickup ∙ its.1) ∙ pair.pickup_of_delivery))

  place_of_pair : (n : ℕ) (a b : Stop) → lookup (nat_eq a.number) p.requests ≡ Some (Pair a b) → stop_in n (Pair a b) ≢ None → Place p n
  place_of_pair n a b named has =
      let is : IsRequest (Pair a b) = lookup_holds (λ e. IsRequest e.1) a.number p.requests (Pair a b) valid.valid named in
      by_apart is (eqb_tells a.number b.number)
    where
      by_number : IsPairIn p a b → ((eqb a.number n ≡ true) × (a.number ≡ n)) ⊎ ((eqb a.number n ≡ false) × (a.number ≢ n))
          → ((eqb b.number n ≡ true) × (b.number ≡ n)) ⊎ ((eqb b.number n ≡ false) × (b.number ≢ n)) → Place p n
      by_number pair (inl t) u = inr (inl (record { a = a; b = b; pair = pair; here = t.1 }))
      by_number pair (inr t) (inl u) = inr (inr (record { a = a; b = b; pair = pair; here = u.1; named = subst (λ m. lookup (nat_eq m) p.requests ≡ None) u.1 (no_name a b pair) }))
      by_number pair (inr t) (inr u) = absurd (has (rw (t.0, u.0) refl))

      by_apart : IsRequest (Pair a b) → ((eqb a.number b.number ≡ true) × (a.number ≡ b.number)) ⊎ ((eqb a.number b.number ≡ false) × (a.number ≢ b.number)) → Place p n
      by_apart is (inl t) = absurd (is.2 t.1)
      by_apart is (inr t) = by_number (pair_found a b named t.0) (eqb_tells a.number n) (eqb_tells b.number n)

  pub place_at : (n : ℕ) → Place p n
  place_at n = by (request_with p n) refl
    where
      by_request : (r : Request) → request_with p n ≡ Some r → is_pair r ≡ true → lookup (nat_eq (request_name r)) p.requests ≡ Some r → Place p n
      by_request (Single s) is pair named = absurd (false≢true pair)
      by_request (Pair a b) is pair named = place_of_pair n a b named (found-has p.requests n (Pair a b) is)

      by : (o : Option Request) → request_with p n ≡ o → Place p n
      by None is =
          let none = none_itself n p.requests is in
          inl (record { stop = none; named = lookup-free p.requests n valid.named none })
      by (Some r) is =
          let named = lookup-request_with p n r valid is in
          by_request r is (lookup_holds (λ e. is_pair e.1 ≡ true) (request_name r) p.requests r (all_true (λ e. is_pair e.1) p.requests pairs) named) named
