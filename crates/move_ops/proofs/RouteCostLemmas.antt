-- The cost of a plan with another route for a vehicle.
use Rattle.std.proofs.Common.{◌≡◌, ℕ, zero, suc, ◌+◌, ◌-◌, ◌≤◌, List, [], ◌∷◌, length, set, ap, ◌∙◌, arith}
use Rattle.std.specs.List.{sum_by}
use Rattle.std.proofs.lemmas.List.{length-map}
use Rattle.std.proofs.lemmas.List.Sums.{sum_by-cons}
use Rattle.plan_types.specs.Instance.{Instance}
use Rattle.route_sched.specs.Cost.{total_length}
use Rattle.route_sched.specs.Schedule.{route_length}
use Rattle.slack_tables.specs.Course.{Course, course_route}
use Rattle.move_ops.specs.Insertion.{route_of, with_route}
use Rattle.move_ops.specs.Tables.{plan_of}
use Rattle.move_ops.proofs.InsertionCosts.{replaced}
use Rattle.move_ops.proofs.DraftLemmas.{plan_with}

part_of : (f : List ℕ → ℕ) (routes : List (List ℕ)) (v : ℕ) → 1 ≤ v → v ≤ length routes → f (route_of routes v) ≤ sum_by f routes
part_of f routes zero from within = absurd (omega arith)
part_of f [] (suc k) from within = absurd (omega arith)
part_of f (r ∷ routes) (suc zero) from within = let e = sum_by-cons f r routes in omega arith
part_of f (r ∷ routes) (suc (suc k)) from within = let e = sum_by-cons f r routes in let h = part_of f routes (suc k) (omega arith) (omega arith) in omega arith

-- a sum over all routes, in which the part of one vehicle is replaced by that of another route
module _ (f : List ℕ → ℕ) (tours : List Course) (v : ℕ) (from : 1 ≤ v) (within : v ≤ length tours) where
  in_plan : v ≤ length (plan_of tours)
  in_plan = let e = length-map tours course_route in omega arith

  pub part : f (route_of (plan_of tours) v) ≤ sum_by f (plan_of tours)
  part = part_of f (plan_of tours) v from in_plan

  pub part_changed : (new : List ℕ) → sum_by f (with_route (plan_of tours) v new) ≡ sum_by f (plan_of tours) - f (route_of (plan_of tours) v) + f new
  part_changed new = let e = replaced f (plan_of tours) v new from in_plan in let g = part in omega arith

-- the total distance after one tour is replaced
pub length_moved : (p : Instance) (tours new : List Course) (v : ℕ) (tour : Course) → new ≡ set tours (v - 1) tour → 1 ≤ v → v ≤ length tours
    → total_length p (plan_of new) + route_length p (route_of (plan_of tours) v) ≡ total_length p (plan_of tours) + route_length p (course_route tour)
length_moved p tours new v tour is from within =
    let m = length-map tours course_route in
    ap (λ (l : List (List ℕ)). total_length p l + route_length p (route_of (plan_of tours) v)) (ap plan_of is ∙ plan_with tours (v - 1) tour)
    ∙ replaced (route_length p) (plan_of tours) v (course_route tour) from (omega arith)
