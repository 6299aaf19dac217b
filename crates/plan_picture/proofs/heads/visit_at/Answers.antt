-- The visit at place n of a route is the item with index n - 1 of the list of visits: places count from 1,
-- indices from 0.
use Rattle.std.proofs.Common.{◌≡◌, ◌∙◌, ℕ, zero, suc, ◌-◌, ◌<◌, List, ap, sym, arith, slice_get}
use Rattle.std.specs.Option.{option_map}
use Rattle.std.proofs.lemmas.Iterator.Adapters.{option_map_id}
use Rattle.std.proofs.lemmas.Iterator.Consumers.{nth_from_yields_List, YieldsList-from_first}
use Rattle.route_sched.specs.VisitsValue.{VisitsValue}
use Rattle.route_sched.specs.VisitList.{visits_from}
use Rattle.plan_audit.specs.Rules.{item_at}
use Rattle.plan_picture.proofs.heads.visit_at.Goals as goal

-- the item at place n, counted from 1, is the item at index n - 1, counted from 0
item_before : {X : Type 0} (xs : List X) (n : ℕ) → 0 < n → item_at xs n ≡ slice_get xs (n - 1)
item_before xs zero some = absurd (omega arith)
item_before xs (suc k) some = ap (slice_get xs) (let e : k ≡ suc k - 1 = omega arith in e)

pub returns : goal.returns
returns c =
    let all = visits_from c.args.problem.now c.args.route.now 0 in
    let found : option_map (λ v. v) c.nth.result ≡ slice_get all (c.args.place - 1) =
    nth_from_yields_List c.nth.result c.nth.new.self (c.args.place - 1) c.nth.ensures.ran
    (YieldsList-from_first (λ v. v) (λ v. visits_from v.problem v.route v.place) all (ap (λ (v : VisitsValue). visits_from v.problem v.route v.place) c.new.ensures))
    in
    sym (option_map_id c.nth.result) ∙ (found ∙ sym (item_before all c.args.place (omega (arith, c.if-place-eq0.false))))
