-- The new plan leaves few requests out, so adding the removed requests to the count does not overflow. Once the
-- tours are set, the draft has no stop of the named requests.
use Rattle.std.proofs.Common.{rules, ◌≡◌, ap, ◌∙◌, arith}
use Rattle.plan_types.specs.declared.plans.Cost.{Cost}
use Rattle.move_ops.specs.Changes.{changes_of, with_routes}
use Rattle.move_ops.specs.Drafts.{draft_of}
use Rattle.move_ops.proofs.DraftLemmas.{named_gone}
use Rattle.move_ops.proofs.LeftOutLemmas.{few_left_out}
use Rattle.move_ops.proofs.draft.Draft.install_removal.Goals as goal

pub overflow_add-unplanned : goal.overflow_add-unplanned
overflow_add-unplanned c =
    let cost : c.self.inside.cost ≡ c.args.self.now.cost = search rules in
    let held = ap (λ (k : Cost). k.unplanned) cost in
    let f = few_left_out c.args.problem.now c.requires.is.valid (with_routes (draft_of c.args.self.now) (changes_of c.args.tours.items)) in
    omega arith

pub clear_named-requires : goal.clear_named-requires
clear_named-requires c =
    named_gone c.args.problem.now c.args.names.now (draft_of c.args.self.now) (draft_of c.install.new.self) ((search rules) ∙ c.requires.names)
