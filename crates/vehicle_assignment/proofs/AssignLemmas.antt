-- Routes taken one after another.
use Rattle.std.proofs.Common.{◌≡◌, ℕ, ◌+◌, List, [], ◌∷◌, ◌++◌, Some, None, Result, Ok, Err, refl, sym, ap, ◌∙◌}
use Rattle.std.proofs.lemmas.List.{append_assoc, append-nil}
use Rattle.vehicle_assignment.specs.Assignments.{assign_by_pins, or_no_route, take_route, with_route}
use Rattle.vehicle_assignment.specs.declared.assignment.Assignment.{Assignment}
use Rattle.vehicle_assignment.specs.declared.faults.AssignmentFault.{AssignmentFault}
use Rattle.vehicle_assignment.specs.declared.faults.AssignmentFault.TheVariants.{PinWithoutRoute}

-- routes of earlier vehicles, before those of an assignment
abbrev pub with_seats : List (List ℕ) → Result Assignment AssignmentFault → Result Assignment AssignmentFault
with_seats assigned (Ok claims) = Ok (record claims { assigned = assigned ++ claims.assigned })
with_seats assigned (Err fault) = Err fault

one_more : (assigned : List (List ℕ)) (route : List ℕ) (r : Result Assignment AssignmentFault) → with_seats assigned (with_route route r) ≡ with_seats (assigned ++ route ∷ []) r
one_more assigned route (Ok claims) = ap (λ all. Ok (record claims { assigned = all })) (sym (append_assoc assigned (route ∷ []) claims.assigned))
one_more assigned route (Err fault) = refl

pub none_yet : (r : Result Assignment AssignmentFault) → with_seats [] r ≡ r
none_yet (Ok claims) = refl
none_yet (Err fault) = refl

-- the routes so far, that of the next vehicle, and those of all later vehicles are all routes
module _ (all : Result Assignment AssignmentFault) (assigned : List (List ℕ)) (v : ℕ) (pins : List (List ℕ)) (pin : List ℕ) (rest routes : List (List ℕ))
    (next : pins ≡ pin ∷ rest) (said : with_seats assigned (assign_by_pins v pins routes) ≡ all) where
  said_next : with_seats assigned (or_no_route v (λ taken. with_route taken.route (assign_by_pins (v + 1) rest taken.remaining)) (take_route pin routes)) ≡ all
  unfolding assign_by_pins
  said_next = sym (ap (λ ps. with_seats assigned (assign_by_pins v ps routes)) next) ∙ said

  pub takes : (route : List ℕ) (remaining : List (List ℕ)) → take_route pin routes ≡ Some (record { route = route; remaining = remaining }) → with_seats (assigned ++ route ∷ []) (assign_by_pins (v + 1) rest remaining) ≡ all
  takes route remaining is =
      sym (one_more assigned route (assign_by_pins (v + 1) rest remaining))
      ∙ sym (ap (λ t. with_seats assigned (or_no_route v (λ taken. with_route taken.route (assign_by_pins (v + 1) rest taken.remaining)) t)) is) ∙ said_next

  pub finds_none : take_route pin routes ≡ None → all ≡ Err (PinWithoutRoute v)
  finds_none is = sym said_next ∙ ap (λ t. with_seats assigned (or_no_route v (λ taken. with_route taken.route (assign_by_pins (v + 1) rest taken.remaining)) t)) is

pub ends : (all : Result Assignment AssignmentFault) (assigned : List (List ℕ)) (v : ℕ) (pins routes : List (List ℕ)) → pins ≡ []
    → with_seats assigned (assign_by_pins v pins routes) ≡ all → all ≡ Ok (record { assigned = assigned; remaining = routes })
unfolding assign_by_pins
ends all assigned v pins routes none said = sym said ∙ ap (λ ps. with_seats assigned (assign_by_pins v ps routes)) none ∙ ap (λ s. Ok (record { assigned = s; remaining = routes })) (append-nil assigned)
