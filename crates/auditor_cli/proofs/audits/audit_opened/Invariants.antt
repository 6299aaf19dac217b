-- The results of the lines so far were printed, and the list was the first file that was read.
use Rattle.std.proofs.Common.{◌≤◌}
use Rattle.auditor_cli.specs.Audits.{list_state}
use Rattle.auditor_cli.proofs.ReadListLemmas.{IsFirstIn, IsSoFar}
use Rattle.auditor_cli.proofs.audits.audit_opened.Given as goal

abbrev pub invariant-loop : goal.invariant-loop
invariant-loop g l =
    IsSoFar l.fn.asked.routes_alone l.fn.asked.format l.fn.asked.path.now
    (list_state (g.F.ReadFiles.reads l.fn.files) (g.E.Write.contents l.fn.errors) 0) (g.W.Write.contents l.fn.output)
    (list_state (g.F.ReadFiles.reads l.files) (g.E.Write.contents l.errors) l.answered) (g.W.Write.contents l.output) l.greatest
    × (l.greatest ≤ 4)
    × IsFirstIn l.fn.asked.path.now (g.F.ReadFiles.reads l.fn.files) l.counter (g.F.ReadFiles.reads l.files)
