-- Either the plan is written and its line printed, or the reason why it is not written is printed.
use Rattle.std.proofs.Common.{◌≡◌, [], ◌∷◌, Ok, Err, inl, inr, subst}
use Rattle.std.specs.IoError.{error_kind}
use Rattle.std.proofs.lemmas.Result.{IfOk-weaker}
use Rattle.planner_cli.specs.Solves.{PrintsPlaced}
use Rattle.auditor_cli.specs.Messages.{write_failure_line}
use Rattle.planner_cli.proofs.SolvesLemmas.{placed_plan, unwritten}
use Rattle.planner_cli.proofs.solves.write_plan.Goals as goal

pub returns-in-Ok-clause-does : goal.returns-in-Ok-clause-does
returns-in-Ok-clause-does g c =
    let path = c.args.path.now in
    let solved = c.args.solved.now in
    let before = g.W.Write.contents c.args.output.now in
    let after = g.W.Write.contents c.print_placed.new.output in
    let made = g.N.WriteFiles.writes c.args.new_files.now in
    let left = g.N.WriteFiles.writes c.write_new.new.self in
    let noted = subst (λ text. left ≡ (path, Ok text) ∷ made) c.deref.ensures.value c.in-Ok.ensures in
    record {
      kept = ((path, Ok c.deref.result.now) ∷ [], c.in-Ok.ensures);
      reported = IfOk-weaker c.print_placed.result _ _
          (λ status reported k x is.
          let so = placed_plan k x solved.text.items solved.unplanned.items c.args.audited.now before after status is
          (subst (λ names. PrintsPlaced c.args.audited.now names before after status) c.deref-in-Ok.ensures.value reported) in
          (so.0, inl (record { noted = noted; plan = so.1 }), so.2))
          c.print_placed.ensures.reported;
    }

pub returns-in-Err-clause-does : goal.returns-in-Err-clause-does
returns-in-Err-clause-does g c =
    let path = c.args.path.now in
    let error = error_kind c.in-Err.error in
    record {
      kept = ((path, Err error) ∷ [], c.in-Err.ensures);
      reported = IfOk-weaker c.print_write_failure.result _ _
          (λ status reported k x is.
          let so = unwritten path _ c.kind.result _ _ _ _ status c.kind.ensures c.in-Err.ensures reported in
          (write_failure_line path error, inr (inl so.0), so.1))
          c.print_write_failure.ensures.reported;
    }
