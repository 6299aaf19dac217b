-- Names ascend, so a number above the last one is above all
use Rattle.std.proofs.Common.{◌≡◌, ◌-◌, length, Some, slice_get, sym, subst}
use Rattle.plan_types.specs.Instance.{Instance, IsInstance}
use Rattle.state_codec.proofs.NameLemmas.{last_decides}
use Rattle.state_codec.proofs.requests.is_above_names.Goals as goal

pub returns-in-Some : goal.returns-in-Some
returns-in-Some c =
    let valid = subst IsInstance c.problem.view_is c.problem.invariant.valid in
    let entry = c.in-Some.ensures.entry in
    let at = subst (λ (p : Instance). slice_get p.requests (length p.requests - 1) ≡ Some (c.in-Some.last.now, c.in-Some.field-0-1.now)) c.problem.view_is (sym entry) in
    last_decides c.args.number c.args.problem.now.requests (c.in-Some.last.now, c.in-Some.field-0-1.now) valid.ascending at
