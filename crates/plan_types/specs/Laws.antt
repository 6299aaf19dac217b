-- Facts about every problem: under which name a request is stored, how large the stop numbers are, and what
-- lookups find after a `put` or a `take`.
use Rattle.std.specs.Prelude.{◌≡◌, ◌≢◌, ℕ, ◌<◌, ◌≤◌, ◌==◌, nat_eq, slice_get, Some, None, IsSome, if◌then◌else◌}
use Rattle.std.specs.List.{AllByRecursion}
use Rattle.std.specs.Map.{lookup}
use Rattle.plan_types.specs.Request.{request_name, stops_of, stop_in, partner_in, pickup_in, IsRequest}
use Rattle.plan_types.specs.Instance.{Instance, IsInstance, IsTaken, stop_at, name_at, request_with, partner_at, pickup_at, with_request, without_request}
use Rattle.plan_types.specs.declared.requests.Request.{Request}

-- the request that has a stop with this number is the one stored under its own name
abbrev pub RequestsAreStoredByName : Type 0
RequestsAreStoredByName = (p : Instance) (n : ℕ) (r : Request) → IsInstance p → request_with p n ≡ Some r → lookup (nat_eq (request_name r)) p.requests ≡ Some r

-- each number of the request is below the next number
abbrev pub IsBelowNext : Instance → Request → Type 0
IsBelowNext p r = AllByRecursion (λ s. s.number < p.next_number) (stops_of r)

-- the numbers of the request at each index are below the next number
abbrev pub RequestsAreBelowNext : Type 0
RequestsAreBelowNext = (p : Instance) (k name : ℕ) (r : Request) → IsInstance p → slice_get p.requests k ≡ Some (name, r) → IsBelowNext p r

-- the numbers of the request that has the stop with a given number are below the next number
abbrev pub FoundRequestsAreBelowNext : Type 0
FoundRequestsAreBelowNext = (p : Instance) (n : ℕ) (r : Request) → IsInstance p → request_with p n ≡ Some r → IsBelowNext p r

-- the number of each stop of the problem is below the next number
abbrev pub StopsAreBelowNext : Type 0
StopsAreBelowNext = (p : Instance) (n : ℕ) → IsInstance p → IsSome (stop_at p n) → n < p.next_number

-- numbers from the next number on are free
abbrev pub NewNumbersAreFree : Type 0
NewNumbersAreFree = (p : Instance) (r : Request) → IsInstance p → AllByRecursion (λ s. p.next_number ≤ s.number) (stops_of r) → ¬ IsTaken p r

-- each lookup of this number finds this request
pub record IsFoundAt (p : Instance) (n : ℕ) (r : Request) : Type 0 where
  pub stop : stop_at p n ≡ stop_in n r
  pub request : request_with p n ≡ Some r
  pub name : name_at p n ≡ Some (request_name r)
  pub partner : partner_at p n ≡ partner_in n r
  pub pickup : pickup_at p n ≡ pickup_in n r

-- no request has a stop with this number
pub record IsFreeAt (p : Instance) (n : ℕ) : Type 0 where
  pub stop : stop_at p n ≡ None
  pub request : request_with p n ≡ None
  pub name : name_at p n ≡ None
  pub partner : partner_at p n ≡ None
  pub pickup : pickup_at p n ≡ None

-- each lookup of this number finds the same in q as in p
pub record IsSameAt (p q : Instance) (n : ℕ) : Type 0 where
  pub stop : stop_at q n ≡ stop_at p n
  pub request : request_with q n ≡ request_with p n
  pub name : name_at q n ≡ name_at p n
  pub partner : partner_at q n ≡ partner_at p n
  pub pickup : pickup_at q n ≡ pickup_at p n

-- a request that is stored under a name is found by lookups of each of its numbers
abbrev pub NamedRequestsAreFound : Type 0
NamedRequestsAreFound = (p : Instance) (n name : ℕ) (r : Request) → IsInstance p → lookup (nat_eq name) p.requests ≡ Some r → IsSome (stop_in n r) → IsFoundAt p n r

-- adding a request with free numbers keeps the problem valid
abbrev pub PutKeepsProblemValid : Type 0
PutKeepsProblemValid = (p : Instance) (r : Request) → IsInstance p → IsRequest r → ¬ IsTaken p r → IsInstance (with_request p r)

-- after a `put`, lookups of the new request's numbers find it
abbrev pub PutRequestIsFound : Type 0
PutRequestIsFound = (p : Instance) (r : Request) (n : ℕ) → IsInstance p → ¬ IsTaken p r → IsSome (stop_in n r) → IsFoundAt (with_request p r) n r

-- after a `put`, lookups of other numbers find what they found before
abbrev pub PutKeepsOthers : Type 0
PutKeepsOthers = (p : Instance) (r : Request) (n : ℕ) → IsInstance p → ¬ IsTaken p r → stop_in n r ≡ None → IsSameAt p (with_request p r) n

-- after a `put`, a lookup of the new request's name finds it; lookups of other names find what they found
-- before
abbrev pub LookupAfterPut : Type 0
LookupAfterPut =
    (p : Instance) (r : Request) (m : ℕ) → IsInstance p → ¬ IsTaken p r
    → lookup (nat_eq m) (with_request p r).requests ≡ (if m == request_name r then Some r else lookup (nat_eq m) p.requests)

-- removing a request keeps the problem valid
abbrev pub TakeKeepsProblemValid : Type 0
TakeKeepsProblemValid = (p : Instance) (name : ℕ) → IsInstance p → IsInstance (without_request p name)

-- after a `take`, lookups of the removed request's numbers find nothing
abbrev pub TakeFreesNumbers : Type 0
TakeFreesNumbers = (p : Instance) (name n : ℕ) → IsInstance p → name_at p n ≡ Some name → IsFreeAt (without_request p name) n

-- after a `take`, lookups of other numbers find what they found before
abbrev pub TakeKeepsOthers : Type 0
TakeKeepsOthers = (p : Instance) (name n : ℕ) → IsInstance p → name_at p n ≢ Some name → IsSameAt p (without_request p name) n

-- after a `take`, a lookup of the removed name finds nothing; lookups of other names find what they found
-- before
abbrev pub LookupAfterTake : Type 0
LookupAfterTake = (p : Instance) (name m : ℕ) → lookup (nat_eq m) (without_request p name).requests ≡ (if m == name then None else lookup (nat_eq m) p.requests)

-- removing a name that no request has changes nothing
abbrev pub TakeOfUnknownName : Type 0
TakeOfUnknownName = (p : Instance) (name : ℕ) → lookup (nat_eq name) p.requests ≡ None → without_request p name ≡ p
