-- The number of visits left is the number of stops after this place, plus one for the return.
use Rattle.std.proofs.Common.{◌∙◌, ℕ, Some, length, sym, ap, arith}
use Rattle.route_sched.specs.VisitList.{visits_from}
use Rattle.route_sched.proofs.VisitLemmas.{visit_count}
use Rattle.route_sched.proofs.visits.VisitsIterator.size_hint.Goals as goal

pub returns-clause-lower : goal.returns-clause-lower
returns-clause-lower c _ =
    omega (
      arith,
      visit_count c.self.inside.problem.now c.self.inside.route.now c.self.inside.place,
      ap (λ w. length (visits_from w.problem w.route w.place)) c.self.view_is,
    )

pub returns-clause-upper : goal.returns-clause-upper
returns-clause-upper c = (
  tt,
  omega (
    arith,
    visit_count c.self.inside.problem.now c.self.inside.route.now c.self.inside.place,
    ap (λ w. length (visits_from w.problem w.route w.place)) c.self.view_is,
  ),
)

pub returns-clause-exact : goal.returns-clause-exact
returns-clause-exact c =
    let left =
    sym (visit_count c.self.inside.problem.now c.self.inside.route.now c.self.inside.place)
    ∙ ap (λ w. length (visits_from w.problem w.route w.place)) c.self.view_is in
    ap (λ (n : ℕ). (n, Some n)) left
