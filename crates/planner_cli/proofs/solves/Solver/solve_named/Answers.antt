-- Either the line names two paths and their result is printed, or the line is bad.
use Rattle.std.proofs.Common.{[], codes, inl, inr, refl, rules}
use Rattle.std.specs.Io.KnownBytes.{Appends}
use Rattle.std.proofs.lemmas.Result.{IfOk-weaker}
use Rattle.command_text.specs.Answers.{line}
use Rattle.auditor_cli.specs.Audits.{pair_text}
use Rattle.auditor_cli.proofs.ListLemmas.{paths_text, reported_of_pair}
use Rattle.planner_cli.proofs.solves.Solver.solve_named.Goals as goal

pub returns-in-None-clause-does : goal.returns-in-None-clause-does
returns-in-None-clause-does g c = record {
  kept = (([], refl), ([], refl));
  reported = IfOk-weaker c.print_bad_line.result _ _ (λ status reported. (line (codes "bad line"), inr (c.in-None.ensures, refl, refl, reported.0), reported.1)) c.print_bad_line.ensures;
}

pub returns-clause-does : goal.returns-clause-does
returns-clause-does g c =
    let instance = c.in-Some.pair.0.now in
    let path = c.in-Some.pair.1.now in
    let before = g.W.Write.contents c.args.output.now in
    let mid = g.W.Write.contents c.write.new.self in
    let wrote : Appends before mid (paths_text instance path) = search rules in
    record {
      kept = c.solve_into.ensures.does.kept;
      reported = IfOk-weaker c.solve_into.result _ _
          (λ status reported. (
            pair_text instance path reported.0,
            inl (record { instance = instance; path = path; pair = c.in-Some.ensures; reported = reported.0; does = reported.1; text_is = refl }),
            reported_of_pair instance path reported.0 before mid _ wrote reported.2,
          )) c.solve_into.ensures.does.reported;
    }
