-- The results of the lines so far were printed.
use Rattle.std.proofs.Common.{◌≤◌}
use Rattle.auditor_cli.specs.Audits.{IsAudited, list_state}
use Rattle.auditor_cli.specs.Reads.{IsGrown}
use Rattle.auditor_cli.proofs.ListLemmas.{IsSoFar}
use Rattle.auditor_cli.proofs.audits.audit_lines.Given as goal

abbrev pub invariant-loop-line : goal.invariant-loop-line
invariant-loop-line g l =
    IsSoFar (IsAudited l.fn.asked.routes_alone l.fn.asked.format l.fn.asked.path.now) l.fn.lines
    (list_state (g.F.ReadFiles.reads l.fn.files) (g.E.Write.contents l.fn.errors) l.fn.answered) (g.W.Write.contents l.fn.output)
    (list_state (g.F.ReadFiles.reads l.files) (g.E.Write.contents l.errors) l.answered) (g.W.Write.contents l.output) l.line-iterator l.greatest
    × (l.greatest ≤ 4)
    × IsGrown (g.F.ReadFiles.reads l.fn.files) (g.F.ReadFiles.reads l.files)
