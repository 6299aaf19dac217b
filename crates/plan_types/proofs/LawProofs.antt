-- Proofs of the laws about every problem.
use Rattle.std.proofs.Common.{◌≡◌, ℕ, zero, suc, ◌<◌, true, false, List, [], ◌∷◌, slice_get, Option, Some, None, IsSome, refl, sym, ap, ◌∙◌, subst, inl, inr, arith}
use Rattle.std.specs.List.{AllByRecursion}
use Rattle.std.specs.Option.{option_map, option_or, option_and_then}
use Rattle.plan_types.specs.Instance.{Instance, stop_at, request_with, first_some, with_request, without_entry, without_request}
use Rattle.plan_types.specs.Laws.{
  RequestsAreStoredByName,
  IsBelowNext,
  RequestsAreBelowNext,
  FoundRequestsAreBelowNext,
  StopsAreBelowNext,
  NewNumbersAreFree,
  IsFoundAt,
  IsFreeAt,
  IsSameAt,
  NamedRequestsAreFound,
  PutKeepsProblemValid,
  PutRequestIsFound,
  PutKeepsOthers,
  LookupAfterPut,
  TakeKeepsProblemValid,
  TakeFreesNumbers,
  TakeKeepsOthers,
  LookupAfterTake,
  TakeOfUnknownName,
}
use Rattle.plan_types.specs.Request.{request_name, stop_in, partner_in, pickup_in}
use Rattle.plan_types.specs.declared.requests.Stop.{Stop}
use Rattle.plan_types.specs.declared.requests.Request.{Request}
use Rattle.plan_types.specs.declared.requests.Request.TheVariants.{Single, Pair}
use Rattle.plan_types.proofs.LookupLemmas.{
  none_some,
  first_some-holds,
  below-each,
  NumbersBelow,
  lookup-request_with,
  lookup-name-free,
  stop_at-below,
  itself,
  itself-asks,
  none-asked,
  found-with_entry,
}
use Rattle.plan_types.proofs.InsertLemmas.{lookup-with_entry, splits_free}
use Rattle.plan_types.proofs.InstanceLemmas.{IsInstance-with_request}
use Rattle.plan_types.proofs.TakeLemmas.{named-found, freed, kept-others, lookup-without, without-none, IsInstance-without_request}

all-numbers : (p : Instance) (r : Request) → NumbersBelow p.next_number r → IsBelowNext p r
unfolding NumbersBelow
all-numbers p (Single s) h = (h, tt)
all-numbers p (Pair a b) h = (h.0, (h.1, tt))

all-at : {X : Type 0} (P : X → Type 0) (xs : List X) (k : ℕ) (x : X) → AllByRecursion P xs → slice_get xs k ≡ Some x → P x
all-at P [] k x all at = absurd (none_some x at)
all-at P (y ∷ ys) zero x all at = let same : y ≡ x = (let g : Some y ≡ Some x = at in cc) in subst P same all.0
all-at P (y ∷ ys) (suc k) x all at = all-at P ys k x all.1 at

pub requests_are_stored_by_name : RequestsAreStoredByName
requests_are_stored_by_name = lookup-request_with

pub requests_are_below_next : RequestsAreBelowNext
requests_are_below_next p k name r valid at =
    all-numbers p r (all-at (λ e. NumbersBelow p.next_number e.1) p.requests k (name, r) (below-each p.next_number p.requests valid.above) at)

pub found_are_below_next : FoundRequestsAreBelowNext
found_are_below_next p n r valid is =
    first_some-holds (λ r. option_map (λ _. r) (stop_in n r)) (NumbersBelow p.next_number) (IsBelowNext p)
    (λ r q below h. itself r q (stop_in n r) below h) p.requests r (below-each p.next_number p.requests valid.above) is
  where
    itself : (r q : Request) (o : Option Stop) → NumbersBelow p.next_number r → option_map (λ _. r) o ≡ Some q → IsBelowNext p q
    itself r q None below h = absurd (none_some q h)
    itself r q (Some s) below h = let same : r ≡ q = (let g : Some r ≡ Some q = h in cc) in subst (IsBelowNext p) same (all-numbers p r below)

pub stops_are_below_next : StopsAreBelowNext
stops_are_below_next p n valid there = by (stop_at p n) refl there
  where
    by : (o : Option Stop) → stop_at p n ≡ o → IsSome o → n < p.next_number
    by (Some s) e there = stop_at-below p n s valid e
    by None e there = absurd (let g : false ≡ true = there in cc)

pub fresh_are_free : NewNumbersAreFree
fresh_are_free p (Single s) valid all taken = let from = all.0 in let below = stops_are_below_next p s.number valid taken in omega arith
fresh_are_free p (Pair a b) valid all (inl taken) = let from = all.0 in let below = stops_are_below_next p a.number valid taken in omega arith
fresh_are_free p (Pair a b) valid all (inr taken) = let from = all.1.0 in let below = stops_are_below_next p b.number valid taken in omega arith

-- a lookup of a stop finds the stop of the request that is found
stop_of_found : (n : ℕ) (es : List (ℕ × Request)) → first_some (stop_in n) es ≡ option_and_then (stop_in n) (first_some (itself n) es)
stop_of_found n [] = refl
stop_of_found n (e ∷ es) = by (stop_in n e.1) refl (stop_of_found n es)
  where
    by : (o : Option Stop) → stop_in n e.1 ≡ o → first_some (stop_in n) es ≡ option_and_then (stop_in n) (first_some (itself n) es)
        → option_or (stop_in n e.1) (first_some (stop_in n) es) ≡ option_and_then (stop_in n) (option_or (itself n e.1) (first_some (itself n) es))
    by None o rest = rw o rest
    by (Some s) o rest = rw (o, o) refl

-- every lookup of a number follows from the lookup of the request that has it
found_at : (p : Instance) (n : ℕ) (r : Request) → request_with p n ≡ Some r → IsFoundAt p n r
found_at p n r is = record {
  stop = stop_of_found n p.requests ∙ ap (option_and_then (stop_in n)) is;
  request = is;
  name = ap (option_map request_name) is;
  partner = ap (option_and_then (partner_in n)) is;
  pickup = ap (option_and_then (pickup_in n)) is;
}

free_at : (p : Instance) (n : ℕ) → request_with p n ≡ None → IsFreeAt p n
free_at p n is = record {
  stop = stop_of_found n p.requests ∙ ap (option_and_then (stop_in n)) is;
  request = is;
  name = ap (option_map request_name) is;
  partner = ap (option_and_then (partner_in n)) is;
  pickup = ap (option_and_then (pickup_in n)) is;
}

same_at : (p q : Instance) (n : ℕ) → request_with q n ≡ request_with p n → IsSameAt p q n
same_at p q n is = record {
  stop = stop_of_found n q.requests ∙ ap (option_and_then (stop_in n)) is ∙ sym (stop_of_found n p.requests);
  request = is;
  name = ap (option_map request_name) is;
  partner = ap (option_and_then (partner_in n)) is;
  pickup = ap (option_and_then (pickup_in n)) is;
}

some_of : {X : Type 0} (o : Option X) → IsSome o → (x : X) × (o ≡ Some x)
some_of (Some x) h = (x, refl)
some_of None h = absurd (let g : false ≡ true = h in cc)

pub named_are_found : NamedRequestsAreFound
named_are_found p n name r valid at has =
    let s = some_of (stop_in n r) has in
    found_at p n r (named-found n (itself n) (itself-asks n) p.requests name r s.0 r valid.distinct at s.1 (ap (option_map (λ _. r)) s.1))

pub put_gives_problem : PutKeepsProblemValid
put_gives_problem p r valid fits free = IsInstance-with_request p r valid fits free (splits_free p r valid free)

pub put_is_found : PutRequestIsFound
put_is_found p r n valid free has =
    let s = some_of (stop_in n r) has in
    found_at (with_request p r) n r
    (found-with_entry p r n (itself n) (itself-asks n) free (splits_free p r valid free)
    ∙ ap (λ (o : Option Stop). option_or (option_map (λ _. r) o) (request_with p n)) s.1)

pub put_keeps_others : PutKeepsOthers
put_keeps_others p r n valid free none =
    same_at p (with_request p r) n
    (found-with_entry p r n (itself n) (itself-asks n) free (splits_free p r valid free)
    ∙ ap (λ (o : Option Stop). option_or (option_map (λ _. r) o) (request_with p n)) none)

pub put_by_name : LookupAfterPut
put_by_name p r m valid free = lookup-with_entry p.requests r m (splits_free p r valid free) (lookup-name-free p r valid free)

pub take_gives_problem : TakeKeepsProblemValid
take_gives_problem = IsInstance-without_request

pub take_frees_numbers : TakeFreesNumbers
take_frees_numbers p name n valid is = by (request_with p n) refl
  where
    by : (o : Option Request) → request_with p n ≡ o → IsFreeAt (without_request p name) n
    by None h = absurd (none_some name (sym (ap (option_map request_name) h) ∙ is))
    by (Some r) h =
        let same : request_name r ≡ name = (let g : Some (request_name r) ≡ Some name = sym (ap (option_map request_name) h) ∙ is in cc) in
        let none : first_some (stop_in n) (without_entry p.requests name) ≡ None =
        subst (λ m. first_some (stop_in n) (without_entry p.requests m) ≡ None) same (freed p.requests n r valid.named valid.distinct h) in
        free_at (without_request p name) n (none-asked n (itself n) (itself-asks n) (without_entry p.requests name) none)

pub take_keeps_others : TakeKeepsOthers
take_keeps_others p name n valid other =
    same_at p (without_request p name) n
    (kept-others n name (itself n) (itself-asks n) p.requests valid.named valid.distinct
    (λ r h same. other (ap (option_map request_name) h ∙ ap Some same)))

pub take_by_name : LookupAfterTake
take_by_name p name m = lookup-without p.requests name m

pub take_of_none : TakeOfUnknownName
take_of_none p name none = ap (λ (es : List (ℕ × Request)). record p { requests = es }) (without-none p.requests name none)
