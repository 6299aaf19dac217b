-- If the list can't be opened, the line that says so is the whole output.
use Rattle.std.proofs.Common.{[], ap, subst, Err}
use Rattle.std.specs.IoError.{error_kind}
use Rattle.std.proofs.lemmas.Result.{IfOk-weaker}
use Rattle.auditor_cli.specs.Audits.{list_state}
use Rattle.auditor_cli.specs.Messages.{PrintsReadFailure}
use Rattle.auditor_cli.proofs.ReadListLemmas.{unopened}
use Rattle.auditor_cli.proofs.audits.audit_list.Goals as goal

pub returns-in-Err-clause-reads : goal.returns-in-Err-clause-reads
returns-in-Err-clause-reads g c = (Err (error_kind c.in-Err.error), ([], c.in-Err.ensures))

pub returns-in-Err-clause-reported : goal.returns-in-Err-clause-reported
returns-in-Err-clause-reported g c =
    let path = c.args.list.now in
    let errors = g.E.Write.contents c.args.errors.now in
    let before = g.W.Write.contents c.args.output.now in
    let after = g.W.Write.contents c.print_read_failure.new.output in
    IfOk-weaker c.print_read_failure.result _ _
    (λ status reported. (
      0,
      unopened c.args.routes_alone c.args.format path _ _ before after (error_kind c.in-Err.error) status (ap (λ files. list_state files errors 0) c.in-Err.ensures)
          (subst (λ kind. PrintsReadFailure path kind before after status) c.kind.ensures reported),
    ))
    c.print_read_failure.ensures
