-- The case that the file can't be read.
use Rattle.std.proofs.Common.{inr, refl, subst}
use Rattle.std.specs.Prelude.{IfOk}
use Rattle.std.specs.IoError.{error_kind}
use Rattle.auditor_cli.specs.Messages.{PrintsReadFailure}
use Rattle.planner_cli.proofs.load.load_instance.Goals as goal

pub returns-in-Err-clause-loads : goal.returns-in-Err-clause-loads
returns-in-Err-clause-loads g c =
    let requested = c.args.loading in
    let before = g.W.Write.contents c.args.output.now.inner in
    let after = g.W.Write.contents c.print_read_failure-reported.new.output.inner in
    inr (
      error_kind c.in-Err.error,
      c.in-Err.ensures,
      refl {a = g.X.DeviceFiles.requested c.args.disks.now},
      c.none.ensures,
      subst (λ kind. IfOk c.print_read_failure-reported.result (PrintsReadFailure requested.instance.now kind before after)) c.kind.ensures c.print_read_failure-reported.ensures,
    )
