-- A vehicle with stops is appended, one without is skipped. No vehicle after the used part has stops, so at the
-- end the list has all used vehicles.
use Rattle.std.proofs.Common.{rules, ◌≡◌, ◌+◌, ◌<◌, ◌==◌, ◌++◌, ◌∷◌, [], not, true, false, length, subst, arith}
use Rattle.move_ops.specs.Insertion.{route_of}
use Rattle.move_ops.specs.Drafts.{draft_of, AreIdleAfter}
use Rattle.seeded_search.specs.Steps.{used_vehicles}
use Rattle.seeded_search.proofs.NameLemmas.{used_pushed, used_passed, used_end}
use Rattle.seeded_search.proofs.lists.used_vehicles.Goals as goal
use Rattle.seeded_search.proofs.lists.used_vehicles.Goals.{then-not-is_empty+in_ok-push, else-not-is_empty}

pub loop-index-preserved : goal.loop-index-preserved
loop-index-preserved c =
    let routes = draft_of c.args.draft.now in
    let below = c.loop-index-test.true in
    let used_len = c.used_len-index-end.ensures.within in
    let within : c.loop-index.index < length routes = omega arith in
    elim c.if-not-is_empty.branch [
      | then-not-is_empty+in_ok-push w ↦ (
          let made : c.if-not-is_empty.used.items ≡ c.loop-index.used.items ++ (c.loop-index.index + 1) ∷ [] = search rules in
          let is : not (length (route_of routes (c.loop-index.index + 1)) == 0) ≡ true = search rules in
          used_pushed routes c.loop-index.used.items c.if-not-is_empty.used.items (used_vehicles routes) c.loop-index.index c.loop-index.invariant within is made)
      | else-not-is_empty w ↦ (
          let made : c.if-not-is_empty.used.items ≡ c.loop-index.used.items = search rules in
          let is : not (length (route_of routes (c.loop-index.index + 1)) == 0) ≡ false = search rules in
          used_passed routes c.loop-index.used.items c.if-not-is_empty.used.items (used_vehicles routes) c.loop-index.index c.loop-index.invariant within is made)
    ]

pub returns : goal.returns
returns c =
    let routes = draft_of c.args.draft.now in
    let end : c.loop-index.index ≡ c.used_len-index-end.result = search rules in
    used_end routes c.loop-index.used.items (used_vehicles routes) c.loop-index.index c.loop-index.invariant (subst (λ n. AreIdleAfter n routes) (search rules) c.used_len-index-end.ensures.idle)
