-- The coordinates of a draft, times its scale, fit their types.
use Rattle.std.proofs.Common.{◌≡◌, ◌∙◌, None, ap, sym, subst, rules, ℤ, pos, w32}
use Rattle.std.proofs.lemmas.Int.{to_z-of_z}
use Rattle.std.specs.Prelude.{FitsSigned, slice_index_or, unwrap_or}
use Rattle.instance_read.specs.DraftLines.{point_at}
use Rattle.instance_read.specs.Scales.{times_ℤ}
use Rattle.instance_read.proofs.CustomerLemmas.{point_fits}
use Rattle.instance_read.proofs.vrp_problem.node_stop.Goals as goal

pub times_signed-requires : goal.times_signed-requires
times_signed-requires c =
    let draft = c.args.draft.now in
    let point = c.unwrap_or-x.result in
    let is : point ≡ point_at draft c.args.number = c.unwrap_or-x.ensures
    ∙ ap (λ o. unwrap_or o (pos 0, pos 0)) (c.entry_of.ensures ∙ ap (λ t. slice_index_or t c.args.number None) c.deref.ensures.value) in
    let fits : FitsSigned w32 point.0 = search rules in
    let P : ℤ → Type 0 = λ z. FitsSigned w32 (times_ℤ draft.scale z) in
    subst P (sym (to_z-of_z w32 point.0 fits)) (point_fits draft c.requires c.args.number point is).0

pub times_signed-requires-2 : goal.times_signed-requires-2
times_signed-requires-2 c =
    let draft = c.args.draft.now in
    let point = c.unwrap_or-x.result in
    let is : point ≡ point_at draft c.args.number = c.unwrap_or-x.ensures
    ∙ ap (λ o. unwrap_or o (pos 0, pos 0)) (c.entry_of.ensures ∙ ap (λ t. slice_index_or t c.args.number None) c.deref.ensures.value) in
    let fits : FitsSigned w32 point.1 = search rules in
    let P : ℤ → Type 0 = λ z. FitsSigned w32 (times_ℤ draft.scale z) in
    subst P (sym (to_z-of_z w32 point.1 fits)) (point_fits draft c.requires c.args.number point is).1
