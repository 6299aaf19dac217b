-- A line that was kept whole is parsed, and a longer one is bad.
use Rattle.std.proofs.Common.{◌∙◌, ◌≤◌, ◌<◌, length, true, false, ap, sym, rules}
use Rattle.command_text.specs.Parsing.{parsed_line}
use Rattle.std.specs.Str.Lines.{strip_carriage_return}
use Rattle.command_server.proofs.InputLemmas.{requested_kept, requested_too_long}
use Rattle.command_server.proofs.input.PartialLine.requested.Goals as goal

pub returns-then-len-lt-KEPT_LEN : goal.returns-then-len-lt-KEPT_LEN
returns-then-len-lt-KEPT_LEN c = λ line is.
    let kept = c.args.self.now.kept.items in
    let short : length kept < 1026 = search rules in
    c.read_line.ensures ∙ ap parsed_line c.without_return.ensures ∙ ap (λ l. parsed_line (strip_carriage_return l)) c.as_slice.ensures.value ∙ requested_kept kept line is.0 short

pub returns-then-announces_text : goal.returns-then-announces_text
returns-then-announces_text c = λ line is.
    let kept = c.args.self.now.kept.items in
    let long : 1026 ≤ length kept = search rules in
    requested_too_long kept line true is.0 long (sym c.if-announces_text.true ∙ c.announces_text.ensures line is.1)

pub returns-else-announces_text : goal.returns-else-announces_text
returns-else-announces_text c = λ line is.
    let kept = c.args.self.now.kept.items in
    let long : 1026 ≤ length kept = search rules in
    requested_too_long kept line false is.0 long (sym c.if-announces_text.false ∙ c.announces_text.ensures line is.1)
