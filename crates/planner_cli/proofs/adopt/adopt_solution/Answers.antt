-- Either the file can't be read, or the store is opened.
use Rattle.std.proofs.Common.{inl, inr, refl, subst}
use Rattle.std.specs.Prelude.{IfOk}
use Rattle.std.specs.IoError.{error_kind}
use Rattle.auditor_cli.specs.Messages.{PrintsReadFailure}
use Rattle.planner_cli.proofs.adopt.adopt_solution.Goals as goal

pub returns-in-Ok-clause-adopts : goal.returns-in-Ok-clause-adopts
returns-in-Ok-clause-adopts g c = inl (c.in-Ok.text.items, c.in-Ok.ensures, c.adopt_store.ensures.requests, rw c.deref.ensures.value at c.adopt_store.ensures.adopts)

pub returns-in-Err-clause-adopts : goal.returns-in-Err-clause-adopts
returns-in-Err-clause-adopts g c =
    let path = c.args.solution.now in
    let before = g.W.Write.contents c.args.output.now.inner in
    let after = g.W.Write.contents c.print_read_failure.new.output.inner in
    inr (
      error_kind c.in-Err.error,
      c.in-Err.ensures,
      refl {a = g.X.DeviceFiles.requested c.args.disks.now},
      refl,
      subst (λ kind. IfOk c.print_read_failure.result (PrintsReadFailure path kind before after)) c.kind.ensures c.print_read_failure.ensures,
    )
