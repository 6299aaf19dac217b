-- Adding a request with the next stop numbers keeps a problem valid, and changes nothing for the current stops
use Rattle.std.proofs.Common.{◌≡◌, ℕ, ◌+◌, ◌<◌, ◌≤◌, true, false, None, ℤ, pos, negsuc, neg_ℤ, ◌≤ℤ◌, int_le, nat_le, refl, sym, subst, eqb, arith, T}
use Rattle.std.specs.Int.Signed.{le_z_yes}
use Rattle.std.specs.List.{AllByRecursion}
use Rattle.std.proofs.lemmas.Bool.{and_parts, leb-true, le-leb, ne_eqb}
use Rattle.plan_types.specs.Limits.{IsCoordinate, IsVisit, IsDemand}
use Rattle.plan_types.specs.Request.{stop_in, stops_of, IsRequest}
use Rattle.plan_types.specs.Instance.{Instance, IsInstance, with_request}
use Rattle.plan_types.specs.Laws.{NewNumbersAreFree, StopsAreBelowNext, PutKeepsProblemValid, PutKeepsOthers}
use Rattle.plan_types.specs.declared.requests.Request.{Request}
use Rattle.plan_types.specs.declared.requests.Request.TheVariants.{Single, Pair}
use Rattle.route_sched.specs.Route.{IsKnownStop}
use Rattle.command_types.specs.AddedRequests.{is_coordinate, is_spot, is_demand, stop_at_spot, single_at, pair_at}
use Rattle.command_types.specs.declared.commands.Spot.{Spot}
use Rattle.command_types.proofs.PassLemmas.{Agree}

at_most : (a b : ℤ) → int_le a b ≡ true → a ≤ℤ b
at_most a b test = le_z_yes (subst T (sym test) tt)

pub coordinate : (x : ℤ) → is_coordinate x ≡ true → IsCoordinate x
coordinate x test = let both = and_parts (int_le (negsuc 999999) x) (int_le x (pos 1000000)) test in (at_most _ _ both.0, at_most _ _ both.1)

-- A spot within the limits has the coordinates, window and service time of a stop
pub visit : (s : Spot) (n : ℕ) (q : ℤ) → is_spot s ≡ true → IsVisit (stop_at_spot s n q)
visit s n q test =
    let a = and_parts (is_coordinate s.x) _ test in
    let b = and_parts (is_coordinate s.y) _ a.1 in
    let c = and_parts (nat_le s.earliest s.latest) _ b.1 in
    let d = and_parts (nat_le s.latest 100000000) (nat_le s.service 1000000) c.1 in
    record { x = coordinate s.x a.0; y = coordinate s.y b.0; window = leb-true s.earliest s.latest c.0; latest = leb-true s.latest 100000000 d.0; service = leb-true s.service 1000000 d.1 }

demand : (q : ℕ) → is_demand q ≡ true → IsDemand (pos q)
demand q test = (at_most (pos 0) (pos q) (le-leb 0 q (omega arith)), at_most (pos q) (pos 1000000) test)

pub single_is_request : (n q : ℕ) (s : Spot) → 1 ≤ n → n ≤ 40000 → is_demand q ≡ true → is_spot s ≡ true → IsRequest (single_at n q s)
single_is_request n q s from to goods spot = (record { from_one = from; to_max = to; visit = visit s n (pos q) spot }, demand q goods)

pub pair_is_request : (n q : ℕ) (a b : Spot) → 1 ≤ n → n + 1 ≤ 40000 → is_demand q ≡ true → is_spot a ≡ true → is_spot b ≡ true → IsRequest (pair_at n q a b)
pair_is_request n q a b from to goods first second = (
  record { from_one = from; to_max = omega arith; visit = visit a n (pos q) first },
  record { from_one = omega arith; to_max = to; visit = visit b (n + 1) (neg_ℤ (pos q)) second },
  (λ same. let h : n ≡ n + 1 = same in absurd (omega arith)),
  demand q goods,
  refl,
)

-- The stops of the request have the next free numbers
abbrev pub IsNext : Instance → Request → Type 0
IsNext p r = AllByRecursion (λ s. p.next_number ≤ s.number) (stops_of r)

-- No stop of the next request has a number below the problem's next number
none_at : (p : Instance) (r : Request) (n : ℕ) → IsNext p r → n < p.next_number → stop_in n r ≡ None
none_at p (Single s) n next less = let e : eqb s.number n ≡ false = ne_eqb s.number n (λ same. let h = next.0 in absurd (omega arith)) in rw e refl
none_at p (Pair a b) n next less =
    let e : eqb a.number n ≡ false = ne_eqb a.number n (λ same. let h = next.0 in absurd (omega arith)) in
    let f : eqb b.number n ≡ false = ne_eqb b.number n (λ same. let h = next.1.0 in absurd (omega arith)) in
    rw e (rw f refl)

module _ (fresh : NewNumbersAreFree) (p : Instance) (r : Request) (valid : IsInstance p) (next : IsNext p r) where
  pub new_problem : PutKeepsProblemValid → IsRequest r → IsInstance (with_request p r)
  new_problem put is = put p r valid is (fresh p r valid next)

  pub same_at_known : PutKeepsOthers → StopsAreBelowNext → Agree p (with_request p r) (IsKnownStop p)
  same_at_known others below = record {
    kind = refl;
    depot = refl;
    capacity = refl;
    fleet = refl;
    same = λ n known. others p r n valid (fresh p r valid next) (none_at p r n next (below p n valid known));
  }
