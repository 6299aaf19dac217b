-- A number at the beginning of the rest is the value of the next word, and the words after it are the words of
-- the new rest.
use Rattle.std.proofs.Common.{w32, drop, sym, ap, ◌∙◌, to_z-of_z}
use Rattle.text_lines.specs.NumberPrefix.{BeginsWithNumber}
use Rattle.text_lines.specs.Numbers.{first_number, within}
use Rattle.text_lines.specs.Words.{words_of}
use Rattle.text_lines.proofs.NumberLemmas.{within-from_SomeIff}
use Rattle.text_lines.proofs.WordLemmas.{words_of-trim}
use Rattle.text_lines.proofs.word_iter.Words.next_number.Goals as goal

pub returns-clause-rest : goal.returns-clause-rest
returns-clause-rest c =
    let begins : BeginsWithNumber c.trim_blanks_start.result.now c.in-Some.number c.in-Some.rest.now = rw c.in-Some.is at c.parse_prefix.ensures in
    let steps = sym c.self.view_is ∙ sym (words_of-trim c.self.inside.rest.now) ∙ ap words_of (sym c.trim_blanks_start.ensures) ∙ begins.1 in
    sym (ap (drop 1) steps)

pub returns-clause-number : goal.returns-clause-number
returns-clause-number c =
    let begins : BeginsWithNumber c.trim_blanks_start.result.now c.in-Some.number c.in-Some.rest.now = rw c.in-Some.is at c.parse_prefix.ensures in
    let steps = sym c.self.view_is ∙ sym (words_of-trim c.self.inside.rest.now) ∙ ap words_of (sym c.trim_blanks_start.ensures) ∙ begins.1 in
    let here = rw (to_z-of_z {w = w32} {z = c.args.least} c.ranges.least, to_z-of_z {w = w32} {z = c.args.most} c.ranges.most) at c.within-2.ensures in
    within-from_SomeIff c.args.least c.args.most c.in-Some.number c.within-2.result here
    ∙ ap (within c.args.least c.args.most) (sym (ap first_number steps ∙ begins.2))
