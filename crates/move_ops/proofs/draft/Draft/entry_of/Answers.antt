-- An entry with the vehicle's number is an entry of the vehicle.
use Rattle.std.proofs.Common.{rules, ◌≡◌, ◌∙◌, ℕ, List, Some, length, get_or, refl, ap, subst}
use Rattle.std.proofs.lemmas.Option.{slice_get_read}
use Rattle.slack_tables.specs.Course.{Course}
use Rattle.move_ops.proofs.draft.Draft.entry_of.Goals as goal

pub returns-then-index-vehicle : goal.returns-then-index-vehicle
returns-then-index-vehicle c =
    let log = c.args.self.now.log in
    let k = c.loop-entry.entry in
    let x = c.index.result.now in
    let at : x ≡ get_or log k x = subst (λ (l : List (ℕ × Course)). c.index.result.now ≡ get_or l c.loop-entry.entry c.index.result.now)
    (search rules) c.index.ensures in
    (x.1, slice_get_read log (length log) k x refl (search rules) at ∙ ap (λ (v : ℕ). Some (v, x.1)) c.if-index-vehicle.true)
