-- The bytes after the blanks, up to the next blank, are the next word, and one word fewer is left. If there is
-- no byte after the blanks, no word is left.
use Rattle.std.proofs.Common.{ap, sym, ◌∙◌, arith, length, not}
use Rattle.std.proofs.lemmas.Bool.{eqb-true, eqb-false}
use Rattle.std.proofs.lemmas.List.Sums.{prefix_len-le-length}
use Rattle.text_lines.specs.Words.{is_blank}
use Rattle.text_lines.proofs.WordLemmas.{step_none, step_word}
use Rattle.text_lines.proofs.word_iter.WordsIterator.next.Goals as goal

pub split_at-requires : goal.split_at-requires
split_at-requires c =
    omega (arith, c.word_len.ensures, prefix_len-le-length (λ b. not (is_blank b)) c.trim_blanks_start-rest.result.now)

pub returns-then-is_empty-clause-steps : goal.returns-then-is_empty-clause-steps
returns-then-is_empty-clause-steps c =
    let word = c.split_at.result.0.now in
    let none = step_none c.self.inside.rest.now c.trim_blanks_start-rest.result.now word c.split_at.result.1.now c.word_len.result
    c.trim_blanks_start-rest.ensures c.word_len.ensures c.split_at.ensures.front c.split_at.ensures.back
    (eqb-true (length word) 0 (sym c.is_empty.ensures ∙ c.if-is_empty.true)) in
    (sym c.self.view_is ∙ none.0, none.1)

pub returns-clause-steps : goal.returns-clause-steps
returns-clause-steps c =
    let word = c.split_at.result.0.now in
    sym c.self.view_is ∙ step_word c.self.inside.rest.now c.trim_blanks_start-rest.result.now word c.split_at.result.1.now c.word_len.result
    c.trim_blanks_start-rest.ensures c.word_len.ensures c.split_at.ensures.front c.split_at.ensures.back
    (eqb-false (length word) 0 (sym c.is_empty.ensures ∙ c.if-is_empty.false))

pub returns-clause-goes : goal.returns-clause-goes
returns-clause-goes c =
    let word = c.split_at.result.0.now in
    let steps = sym c.self.view_is ∙ step_word c.self.inside.rest.now c.trim_blanks_start-rest.result.now word c.split_at.result.1.now c.word_len.result
    c.trim_blanks_start-rest.ensures c.word_len.ensures c.split_at.ensures.front c.split_at.ensures.back
    (eqb-false (length word) 0 (sym c.is_empty.ensures ∙ c.if-is_empty.false)) in
    record { on = λ _. (tt, tt, omega (arith, ap length steps)); keeps = tt; rests = λ _. tt }
