-- The test of a plan, split into its parts and into its routes
use Rattle.std.proofs.Common.{◌≡◌, ℕ, Bool, true, ◌==◌, ◌&&◌, List, [], ◌∷◌, All, length, is_some, refl, ap, ◌∙◌}
use Rattle.std.specs.List.{list_all, concat}
use Rattle.std.proofs.lemmas.Bool.{and_parts}
use Rattle.std.proofs.lemmas.List.Folds.{list_all-append}
use Rattle.std.proofs.lemmas.List.Sums.{AllPass-from_list_all}
use Rattle.plan_types.specs.Instance.{Instance, stop_at}
use Rattle.route_sched.specs.Route.{AreDistinctStops}
use Rattle.plan_audit.specs.Passes.{are_distinct, are_distinct_stops, begin_with_pins, feasible_alone, passes}
use Rattle.plan_audit.specs.Locality.{PlansAreDisjointRoutes}
use Rattle.move_ops.proofs.OccurrenceLemmas.{distinct_from}
use Rattle.command_core.proofs.CountLemmas.{at_most_once}

-- The test of a plan, as the conjunction of its parts
pub in_parts : (p : Instance) (pins routes : List (List ℕ))
    → passes p pins routes ≡ (are_distinct_stops p (concat routes) && ((length routes == p.fleet) && (list_all (feasible_alone p) routes && begin_with_pins routes pins)))
unfolding passes
in_parts p pins routes = refl

-- All numbers of the joined lists pass a test exactly if all numbers of each list do
pub all_of_joined : (f : ℕ → Bool) (lists : List (List ℕ)) → list_all f (concat lists) ≡ list_all (list_all f) lists
all_of_joined f [] = refl
all_of_joined f (xs ∷ lists) = list_all-append f xs (concat lists) ∙ ap (λ b. list_all f xs && b) (all_of_joined f lists)

-- Routes whose stops pass the test have current stops, each once
pub each_known_once : PlansAreDisjointRoutes → (p : Instance) (routes : List (List ℕ)) → are_distinct_stops p (concat routes) ≡ true → All (AreDistinctStops p) routes
each_known_once local p routes test =
    let stops = concat routes in
    let both = and_parts (list_all (λ n. is_some (stop_at p n)) stops) (are_distinct stops) test in
    ((local p routes).0 (record {
      live = AllPass-from_list_all (λ n. is_some (stop_at p n)) stops both.0;
      distinct = distinct_from stops (at_most_once stops both.1);
    })).0
