-- The greater of the first and the last leg is at least each of them.
use Rattle.std.proofs.Common.{◌≤ℤ◌, ◌-◌, w64, rules, get_or, length, subst, sym, arith}
use mir.Val.{SFits}
use Rattle.std.proofs.lemmas.Int.{ints, clamps, to_z-of_z}
use Rattle.slack_tables.specs.Span.{table_leg}
use Rattle.slack_tables.specs.declared.progress.PlaceSlack.{PlaceSlack}
use Rattle.slack_tables.proofs.span.longest_depot_leg.Goals as goal

pub returns-clause-first : goal.returns-clause-first
returns-clause-first c = λ d.
    (let fits : SFits w64 c.max.result = search rules in
    let value = c.max.ensures.value in
    let le : table_leg c.small_row-depot.result.now c.small_row-first.result.now ≤ℤ c.max.result = omega (arith, ints, clamps) in
    subst (λ x. table_leg (get_or c.args.places.now 0 d) (get_or c.args.places.now 1 d) ≤ℤ x) (sym (to_z-of_z w64 c.max.result fits))
    (subst (λ (e : PlaceSlack). table_leg e (get_or c.args.places.now 1 d) ≤ℤ c.max.result) (c.small_row-depot.ensures.place d)
    (subst (λ (e : PlaceSlack). table_leg c.small_row-depot.result.now e ≤ℤ c.max.result) (c.small_row-first.ensures.place d) le)))

pub returns-clause-last : goal.returns-clause-last
returns-clause-last c = λ d.
    (let fits : SFits w64 c.max.result = search rules in
    let value = c.max.ensures.value in
    let le : table_leg c.small_row-last.result.now c.small_row-end.result.now ≤ℤ c.max.result = omega (arith, ints, clamps) in
    subst (λ x. table_leg (get_or c.args.places.now (length c.args.places.now - 2) d)
    (get_or c.args.places.now (length c.args.places.now - 1) d)
    ≤ℤ x) (sym (to_z-of_z w64 c.max.result fits))
    (subst (λ (e : PlaceSlack). table_leg e (get_or c.args.places.now (length c.args.places.now - 1) d) ≤ℤ c.max.result)
    (c.small_row-last.ensures.place d)
    (subst (λ (e : PlaceSlack). table_leg c.small_row-last.result.now e ≤ℤ c.max.result) (c.small_row-end.ensures.place d) le)))
