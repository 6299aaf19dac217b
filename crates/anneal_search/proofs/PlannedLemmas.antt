-- The stops in strings are in the plan, so their requests are planned and are movable if none of their stops is
-- pinned
use Rattle.std.proofs.Common.{◌≡◌, ℕ, ◌+◌, ◌-◌, Bool, true, false, not, cond, List, [], ◌∷◌, ◌++◌, length, drop, Option, Some, None, refl, sym, ap, ◌∙◌, eq-eqb, arith}
use Rattle.std.specs.Prelude.{nat_eq, slice_index}
use Rattle.std.specs.List.{concat, slice_range, AllByRecursion}
use Rattle.std.specs.Option.{option_map_or}
use Rattle.std.specs.Map.{lookup}
use Rattle.std.proofs.lemmas.Bool.{or_left, or_right}
use Rattle.std.proofs.lemmas.List.Elements.{All-append, All-drop, All-from_recursion, All-nil, All-take}
use Rattle.plan_types.specs.Instance.{Instance, name_at, request_with}
use Rattle.plan_types.specs.declared.requests.Request.{Request}
use Rattle.route_sched.specs.Cost.{has_stop, is_planned}
use Rattle.plan_audit.specs.Passes.{has}
use Rattle.move_ops.specs.Insertion.{route_of, request_named}
use Rattle.move_ops.specs.Moves.{is_movable, is_movable_name}
use Rattle.move_ops.proofs.DraftLemmas.{has_in_vehicle}
use Rattle.move_ops.proofs.FitLemmas.{had_often}
use Rattle.move_ops.proofs.InsertionLemmas.{nowhere}
use Rattle.move_ops.proofs.PlanRemovalLemmas.{found_has}
use Rattle.anneal_search.specs.StepLoops.{ArePlanned}
use Rattle.anneal_search.specs.Strings.{cut_of, cut_stops, movable_at, strings_of}
use Rattle.anneal_search.specs.declared.routes.NearStop.{NearStop}
use Rattle.anneal_search.specs.declared.strings.Cut.{Cut}

-- ---- stops of strings
all_had : (P : ℕ → Type 0) (ns : List ℕ) → ((n : ℕ) → has ns n ≡ true → P n) → AllByRecursion P ns
all_had P [] each = tt
all_had P (n ∷ ns) each = (each n (or_left (nat_eq n n) (has ns n) (eq-eqb n n refl)), all_had P ns (λ m had. each m (or_right (nat_eq m n) (has ns m) had)))

route_planned : (routes : List (List ℕ)) (v : ℕ) → ArePlanned routes (route_of routes v)
route_planned routes v =
    All-from_recursion (λ n. has_stop routes n ≡ true) (route_of routes v)
    (all_had (λ n. has_stop routes n ≡ true) (route_of routes v) (λ n had. has_in_vehicle routes v n had))

range_planned : (routes : List (List ℕ)) (ns : List ℕ) (a b : ℕ) → ArePlanned routes ns → ArePlanned routes (slice_range ns a b)
range_planned routes ns a b all =
    All-take (λ n. has_stop routes n ≡ true) (b - a) (drop a ns) (All-drop (λ n. has_stop routes n ≡ true) a ns all)

cut_planned : (routes : List (List ℕ)) (ns : List ℕ) (cut : Cut) → ArePlanned routes ns → ArePlanned routes (cut_stops ns cut)
cut_planned routes ns cut all = by cut.kept
  where
    by : (o : Option ℕ) → ArePlanned routes (option_map_or (λ kept. slice_range ns cut.first kept ++ slice_range ns (kept + 1) cut.end) o (slice_range ns cut.first cut.end))
    by None = range_planned routes ns cut.first cut.end all
    by (Some kept) =
        All-append (λ n. has_stop routes n ≡ true) (slice_range ns cut.first kept) (slice_range ns (kept + 1) cut.end)
        (range_planned routes ns cut.first kept all) (range_planned routes ns (kept + 1) cut.end all)

pub strings_planned : (routes : List (List ℕ)) (words : List ℕ) (most t : ℕ) (nears : List NearStop) → ArePlanned routes (strings_of routes words most t nears)
strings_planned routes words most t [] = All-nil (λ n. has_stop routes n ≡ true)
strings_planned routes words most t (near ∷ nears) =
    All-append (λ n. has_stop routes n ≡ true)
    (cut_stops (route_of routes near.vehicle) (cut_of most (slice_index words (4 + t)) (length (route_of routes near.vehicle)) near.place))
    (strings_of routes words most (t + 1) nears)
    (cut_planned routes (route_of routes near.vehicle) (cut_of most (slice_index words (4 + t)) (length (route_of routes near.vehicle)) near.place)
    (route_planned routes near.vehicle))
    (strings_planned routes words most (t + 1) nears)

-- ---- a stop that is planned
module _ (p : Instance) (pins routes : List (List ℕ)) (n name : ℕ) (r : Request) where
  planned : request_with p n ≡ Some r → has_stop routes n ≡ true → (b : Bool) → is_planned routes r ≡ b → is_planned routes r ≡ true
  planned at had true is = is
  planned at had false is =
      let none = nowhere routes r is n (found_has n r p.requests at) in
      let some = had_often (concat routes) n had in
      absurd (omega arith)

  -- The request of the stop is movable if none of its stops is pinned
  pub planned_at : (b : Bool) → name_at p n ≡ Some name → lookup (nat_eq name) p.requests ≡ request_with p n → request_named p name ≡ Some r
      → has_stop routes n ≡ true → is_planned pins r ≡ b → movable_at p pins routes n ≡ cond b None (Some name)
  planned_at b at found named had pinned =
      let movable : is_movable_name p pins routes name ≡ not b =
      ap (λ (o : Option Request). option_map_or (is_movable pins routes) o false) named
      ∙ (rw (planned (sym found ∙ named) had (is_planned routes r) refl, pinned) refl) in
      rw (at, movable) (turned b)
    where
      turned : (b : Bool) → cond (not b) (Some name) None ≡ cond b None (Some name)
      turned true = refl
      turned false = refl
