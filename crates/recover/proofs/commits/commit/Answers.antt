-- A commit leads to the state after the command, with four calls if a snapshot is due.
use Rattle.std.proofs.Common.{rules, ◌≡◌, ℕ, sym, subst}
use Rattle.checkpoint.specs.declared.places.Place.{Place}
use Rattle.checkpoint.specs.Places.{place_after_snapshot}
use Rattle.recover.specs.Applying.{calls_of, place_after}
use Rattle.recover.specs.Committing.{CommitsState}
use Rattle.recover.proofs.commits.commit.Goals as goal

pub returns-clause-leads : goal.returns-clause-leads
returns-clause-leads g c state accepted same honest all =
    let d = g.D.Sectors in
    let start = c.args.device.now in
    let end = c.commit_as_snapshot.new.device in
    let place = c.args.place in
    let command = c.args.command.now in
    let next = c.args.next.now in
    let four : calls_of place command ≡ 4 = search rules in
    let following : place_after place command ≡ place_after_snapshot place = search rules in
    subst (λ (n : ℕ). CommitsState d c.commit_as_snapshot.result n state next (place_after place command) start end) (sym four)
    (subst (λ (p : Place). CommitsState d c.commit_as_snapshot.result 4 state next p start end) (sym following) (c.commit_as_snapshot.ensures.leads state honest all))
