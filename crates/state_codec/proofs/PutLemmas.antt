-- A request that was read is added after those before it
use Rattle.std.proofs.Common.{◌≡◌, ℕ, ◌<◌, true, false, List, [], ◌∷◌, ◌++◌, Option, Some, None, refl, sym, ap, subst, arith, nat_lt, inl, inr}
use Rattle.std.specs.Prelude.{IsSome, not, is_some}
use Rattle.std.specs.List.{list_all, AllByRecursion}
use Rattle.std.proofs.lemmas.Bool.{and_parts}
use Rattle.plan_types.specs.Request.{request_name, stops_of}
use Rattle.plan_types.specs.Instance.{Instance, IsTaken, stop_at, lesser_names, greater_names, with_entry, with_request, numbers_among}
use Rattle.plan_types.specs.declared.requests.Request.{Request}
use Rattle.plan_types.specs.declared.requests.Request.TheVariants.{Single, Pair}
use Rattle.state_codec.specs.FilledProblem.{IsFilledBelow}
use Rattle.state_codec.proofs.RequestLaws.{IsNew}

all_lesser : (name : ℕ) (es : List (ℕ × Request)) → list_all (λ e. nat_lt e.0 name) es ≡ true → lesser_names es name ≡ es
all_lesser name [] h = refl
all_lesser name (e ∷ es) h =
    let p = and_parts (nat_lt e.0 name) (list_all (λ e. nat_lt e.0 name) es) h in
    rw p.0 (ap (λ fs. e ∷ fs) (all_lesser name es p.1))

not_both : (a b : ℕ) → nat_lt a b ≡ true → nat_lt b a ≡ false
not_both a b h = grind (arith, h)

none_greater : (name : ℕ) (es : List (ℕ × Request)) → list_all (λ e. nat_lt e.0 name) es ≡ true → greater_names es name ≡ []
none_greater name [] h = refl
none_greater name (e ∷ es) h =
    let p = and_parts (nat_lt e.0 name) (list_all (λ e. nat_lt e.0 name) es) h in
    rw (not_both e.0 name p.0) (none_greater name es p.1)

-- If all names before are smaller, the new request becomes the last one
pub goes_last : (r : Request) (es : List (ℕ × Request)) → list_all (λ e. nat_lt e.0 (request_name r)) es ≡ true → with_entry es r ≡ es ++ (request_name r, r) ∷ []
goes_last r es h = rw (all_lesser (request_name r) es h, none_greater (request_name r) es h) refl

not_some : {X : Type 0} (o : Option X) → not (is_some o) ≡ true → IsSome o → ⊥
not_some None h s = absurd cc
not_some (Some x) h s = absurd cc

-- The stop numbers of a new request are free
pub not_taken : (p : Instance) (next : ℕ) (r : Request) → IsNew next p.requests r → IsTaken p r → ⊥
not_taken p next (Single s) new t = not_some (stop_at p s.number) new.free.0 t
not_taken p next (Pair a b) new (inl t) = not_some (stop_at p a.number) new.free.0 t
not_taken p next (Pair a b) new (inr t) = not_some (stop_at p b.number) new.free.1.0 t

all_one_more : (next : ℕ) (es : List (ℕ × Request)) (r : Request) → AllByRecursion (λ n. n < next) (numbers_among es)
    → AllByRecursion (λ s. s.number < next) (stops_of r) → AllByRecursion (λ n. n < next) (numbers_among (es ++ (request_name r, r) ∷ []))
all_one_more next [] (Single s) all new = (new.0, tt)
all_one_more next [] (Pair a b) all new = (new.0, (new.1.0, tt))
all_one_more next ((n, Single s) ∷ es) r all new = (all.0, all_one_more next es r all.1 new)
all_one_more next ((n, Pair a b) ∷ es) r all new = (all.0, (all.1.0, all_one_more next es r all.1.1 new))

-- Adding one more new request keeps `IsFilledBelow`
pub filled_more : (before after : Instance) (next : ℕ) (r : Request) → IsFilledBelow before next after → IsNew next after.requests r → IsFilledBelow before next (with_request after r)
filled_more before after next r filled new = record {
  kind = filled.kind;
  depot = filled.depot;
  capacity = filled.capacity;
  fleet = filled.fleet;
  below = subst (λ es. AllByRecursion (λ n. n < next) (numbers_among es)) (sym (goes_last r after.requests new.names)) (all_one_more next after.requests r filled.below new.below);
}
