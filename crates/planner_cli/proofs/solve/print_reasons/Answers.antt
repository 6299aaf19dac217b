-- The reasons for the first requests were printed, and then `out of memory`.
use Rattle.std.proofs.Common.{◌++◌, codes, inr, refl, take}
use Rattle.std.proofs.KnownBytes.{Appends-trans}
use Rattle.std.proofs.lemmas.Result.{IfOk-weaker}
use Rattle.command_text.specs.Answers.{line}
use Rattle.planner_cli.specs.Solve.{reasons_text}
use Rattle.planner_cli.proofs.solve.print_reasons.Goals as goal

pub returns-in-Err-clause-reported : goal.returns-in-Err-clause-reported
returns-in-Err-clause-reported g c =
    let before = g.E.Write.contents c.args.errors.now in
    let now = g.E.Write.contents c.loop-name.errors in
    let after = g.E.Write.contents c.print_out_of_memory.new.output in
    let k = c.loop-name.name-index in
    let reported_so_far = reasons_text c.args.job.now (take k c.args.names.now) in
    IfOk-weaker c.print_out_of_memory.result _ _
    (λ status reported. (
      reported_so_far ++ line (codes "out of memory"),
      inr (k, reported.0, refl),
      Appends-trans before now after reported_so_far (line (codes "out of memory")) c.loop-name.invariant reported.1,
    )) c.print_out_of_memory.ensures
