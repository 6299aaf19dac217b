-- A vehicle with a route keeps it. A vehicle without one gets the next used route, if there is one.
use Rattle.std.proofs.Common.{◌≡◌, ◌∙◌, [], sym, rules}
use Rattle.std.proofs.lemmas.List.{nil_from_length}
use Rattle.std.specs.Vec.Iter.{into_iter_items}
use Rattle.vehicle_assignment.proofs.FillLemmas.{gets, stays, stays_empty}
use Rattle.vehicle_assignment.proofs.fill.route_or_next.Goals as goal

pub returns-then-not-is_empty : goal.returns-then-not-is_empty
returns-then-not-is_empty c = stays c.args.seat _ (search rules)

pub returns-in-Some : goal.returns-in-Some
returns-in-Some c = gets c.args.seat _ (search rules) c.in-Some.route _ (search rules)

pub returns-in-None : goal.returns-in-None
returns-in-None c =
    let none : into_iter_items c.next.new.self ≡ [] = nil_from_length (into_iter_items c.next.new.self) (sym c.next.new.self.rest.ok.0 ∙ c.in-None.ensures.cases.1) in
    stays_empty c.args.seat _ (search rules) (search rules) _ (c.in-None.ensures.items ∙ none) none
