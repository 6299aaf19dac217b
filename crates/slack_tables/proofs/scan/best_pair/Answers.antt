-- No pair fits before the first open place, so the best from that place on is the best of all. If no place is
-- open, there is none.
use Rattle.std.proofs.Common.{◌-◌, rules, w64, subst}
use mir.Val.{SFits}
use Rattle.std.proofs.lemmas.Int.{to_z-of_z}
use Rattle.slack_tables.specs.Best.{IsFirstOf}
use Rattle.slack_tables.specs.ClosedPlaces.{AreClosed}
use Rattle.slack_tables.specs.Scan.{AddsPair}
use Rattle.slack_tables.proofs.TightLemmas.{none-open, open-only}
use Rattle.slack_tables.proofs.scan.best_pair.Goals as goal

pub returns-then-first-places : goal.returns-then-first-places
returns-then-first-places c = λ d.
    (let limits = c.args.limits in
    let places = c.args.places.now in
    let pickup = c.args.pickup.now in
    let delivery = c.args.delivery.now in
    none-open limits places pickup delivery c.args.kept _ d
    (subst (AreClosed limits places pickup c.args.kept) (search rules) c.first_open-first.ensures.closed))

pub returns-then-places-gt-BUFFER_LEN : goal.returns-then-places-gt-BUFFER_LEN
returns-then-places-gt-BUFFER_LEN c = λ d.
    (let limits = c.args.limits in
    let places = c.args.places.now in
    let pickup = c.args.pickup.now in
    let delivery = c.args.delivery.now in
    let below : SFits w64 c.args.below = record { sfits = c.ranges.below.sfits } in
    open-only limits places pickup delivery c.args.kept c.first_open-first.result _ d _ c.first_open-first.ensures.following c.first_open-first.ensures.closed
    (subst (λ x. IsFirstOf (AddsPair limits places pickup delivery (c.first_open-first.result - 1) x d) c.best_from.result)
    (to_z-of_z w64 c.args.below below) (c.best_from.ensures d)))

pub returns-then-places-gt-SHORT_BUFFER_LEN : goal.returns-then-places-gt-SHORT_BUFFER_LEN
returns-then-places-gt-SHORT_BUFFER_LEN c = λ d.
    (let limits = c.args.limits in
    let places = c.args.places.now in
    let pickup = c.args.pickup.now in
    let delivery = c.args.delivery.now in
    let below : SFits w64 c.args.below = record { sfits = c.ranges.below.sfits } in
    open-only limits places pickup delivery c.args.kept c.first_open-first.result _ d _ c.first_open-first.ensures.following c.first_open-first.ensures.closed
    (subst (λ x. IsFirstOf (AddsPair limits places pickup delivery (c.first_open-first.result - 1) x d) c.best_with_buffer.result)
    (to_z-of_z w64 c.args.below below) (c.best_with_buffer.ensures d)))

pub returns : goal.returns
returns c = λ d.
    (let limits = c.args.limits in
    let places = c.args.places.now in
    let pickup = c.args.pickup.now in
    let delivery = c.args.delivery.now in
    let below : SFits w64 c.args.below = record { sfits = c.ranges.below.sfits } in
    open-only limits places pickup delivery c.args.kept c.first_open-first.result _ d _ c.first_open-first.ensures.following c.first_open-first.ensures.closed
    (subst (λ x. IsFirstOf (AddsPair limits places pickup delivery (c.first_open-first.result - 1) x d) c.best_with_buffer-2.result)
    (to_z-of_z w64 c.args.below below) (c.best_with_buffer-2.ensures d)))
