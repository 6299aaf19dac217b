-- A line with a key is refused with its first fault; otherwise the draft records the key and takes its value.
use Rattle.std.proofs.Common.{subst}
use Rattle.std.specs.Prelude.{is_some}
use Rattle.std.proofs.lemmas.Result.{err_from_is_err_and}
use Rattle.instance_read.specs.declared.vrp_draft.VrpDraft.{VrpDraft}
use Rattle.instance_read.specs.Drafts.{ReportsKind}
use Rattle.instance_read.specs.RowViews.{row_view}
use Rattle.instance_read.specs.Vrp.{key_fault}
use Rattle.instance_read.proofs.KeyLemmas.{same_key, same_value, takes_key, tells_key}
use Rattle.instance_read.proofs.vrp_draft.VrpDraft.take_key.Goals as goal

pub returns-in_err-take_value-clause-err : goal.returns-in_err-take_value-clause-err
returns-in_err-take_value-clause-err c =
    let old = c.args.self.now in
    let row = row_view c.args.line.now in
    let key = c.read_key-key.result.0 in
    let value = c.read_key-key.result.1.now in
    let kind = c.in_err-take_value.field-0.0 in
    let P : VrpDraft → Type 0 = λ mid. ReportsKind (key_fault (is_some mid.nodes) c.mark-stands.result value key) kind in
    let reported = subst P c.mark-stands.ensures.after c.in_err-take_value.ensures.err in
    let p = err_from_is_err_and c.from_residual.result c.from_residual.ensures.1 in
    rw (p.1, p.2) (tells_key old row key value c.mark-stands.result (same_key row key c.read_key-key.ensures.key)
    (same_value row value c.read_key-key.ensures.value) c.mark-stands.ensures.before kind reported)

pub returns-clause-ok : goal.returns-clause-ok
returns-clause-ok c =
    let old = c.args.self.now in
    let row = row_view c.args.line.now in
    let key = c.read_key-key.result.0 in
    let value = c.read_key-key.result.1.now in
    let took = c.in_ok-take_value.ensures.ok in
    let all = takes_key old row key value c.mark-stands.result (same_key row key c.read_key-key.ensures.key) (same_value row value c.read_key-key.ensures.value) c.mark-stands.ensures.before
    c.mark-stands.new.self c.take_value.new.self c.after_key-next.result c.mark-stands.ensures.after c.after_key-next.ensures took.0 took.1 in
    (all.0, all.1, all.2, took.2)
