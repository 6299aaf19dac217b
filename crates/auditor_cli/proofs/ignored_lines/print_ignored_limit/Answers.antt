use Rattle.std.proofs.Common.{◌∙◌, OnOk, List, ℕ, sym, ap, subst}
use Rattle.std.specs.Prelude.{codes, decimal}
use Rattle.std.specs.Io.KnownBytes.{Appends}
use Rattle.auditor_cli.specs.IgnoredLines.{ignored_limit_note_by}
use Rattle.auditor_cli.proofs.NoteLemmas.{five_pieces}
use Rattle.auditor_cli.proofs.ignored_lines.print_ignored_limit.Goals as goal

pub returns-in-Some : goal.returns-in-Some
returns-in-Some g c =
    let is = sym c.ignored_limit_line.ensures ∙ c.in-Some.is in
    let bytes = five_pieces (codes "planner: ") c.args.path.now (codes ": line ") (decimal c.in-Some.number) (codes " sets a limit that no rule checks") in
    subst (λ (t : List ℕ). OnOk c.writeln.result (Appends (g.E.Write.contents c.args.errors.now) (g.E.Write.contents c.writeln.new.self) t))
    (bytes ∙ ap (ignored_limit_note_by c.args.path.now) (sym is)) c.writeln.ensures.bytes
