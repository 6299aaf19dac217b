-- The key and the value are the trimmed parts before and after the first colon; without a colon the whole line
-- is the key.
use Rattle.std.proofs.Common.{◌+◌, take, drop, sym, ap, ◌∙◌, arith}
use Rattle.std.specs.List.{position_or_len}
use Rattle.std.proofs.lemmas.List.{drop_all, take_all, take_rest}
use Rattle.instance_read.specs.VrpLines.{is_colon, trimmed}
use Rattle.instance_read.proofs.vrp_lines.split_key.Goals as goal

pub returns-in-Some-clause-key : goal.returns-in-Some-clause-key
returns-in-Some-clause-key c = c.trim_blanks.ensures ∙ ap (λ k. trimmed (take k c.args.line.now)) c.in-Some.ensures.place

pub returns-in-Some-clause-value : goal.returns-in-Some-clause-value
returns-in-Some-clause-value c =
    c.trim_blanks-in-Some.ensures ∙ ap trimmed (take_rest c.args.line.now (c.in-Some.colon + 1))
    ∙ ap (λ k. trimmed (drop (k + 1) c.args.line.now)) c.in-Some.ensures.place

pub returns-in-None-clause-key : goal.returns-in-None-clause-key
returns-in-None-clause-key c =
    let line = c.args.line.now in
    c.trim_blanks-in-None.ensures ∙ ap trimmed (sym (take_all (position_or_len is_colon line) line c.in-None.ensures.place))

pub returns-in-None-clause-value : goal.returns-in-None-clause-value
returns-in-None-clause-value c =
    let line = c.args.line.now in
    ap trimmed (sym (drop_all (position_or_len is_colon line + 1) line (omega (arith, c.in-None.ensures.place))))
