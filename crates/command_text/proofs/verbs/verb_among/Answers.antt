-- If a name is the word, its command is returned. Otherwise the loop goes on.
use Rattle.std.proofs.Common.{sym, ◌∙◌}
use native.Mathlib.Numerals.{unary_clauses}
use Rattle.command_text.proofs.VerbLemmas.{found, passed, none_left}
use Rattle.command_text.proofs.verbs.verb_among.Goals as goal

pub returns-then-is_word : goal.returns-then-is_word
returns-then-is_word c =
    let l = c.loop-name in
    sym (found c.args.verbs.now c.args.word.now l.name-index _ c.loop-name-test.true (sym c.is_word.ensures ∙ c.if-is_word.true)) ∙ l.invariant

pub loop-name-preserved : goal.loop-name-preserved
loop-name-preserved c =
    let l = c.loop-name in
    simp unary_clauses
    (passed c.args.verbs.now c.args.word.now l.name-index _ c.loop-name-test.true (sym c.is_word.ensures ∙ c.if-is_word.false) ∙ l.invariant)

pub returns : goal.returns
returns c = sym (none_left c.args.verbs.now c.args.word.now c.loop-name.name-index c.loop-name-test.false) ∙ c.loop-name.invariant
