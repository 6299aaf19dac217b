-- The words are taken one by one. The result has all their numbers, or is `None` if a word is not an integer or
-- there are too many words.
use Rattle.std.proofs.Common.{rules}
use Rattle.command_text.proofs.FieldLemmas.{begin, go_on, no_integer, too_many, all_taken}
use Rattle.command_text.proofs.fields.integers.Goals as goal

pub loop-word-init : goal.loop-word-init
loop-word-init c = search (rules, begin c.args.words.now)

pub loop-word-preserved : goal.loop-word-preserved
loop-word-preserved c =
    search (rules, go_on c.args.words.now c.loop-word.fields c.in-Some.word.now c.loop-word.word-iterator.now c.next.new.self.now c.in-Some.ensures.steps c.loop-word.invariant c.in_ok-integer.field-0)

pub returns-in_err-integer : goal.returns-in_err-integer
returns-in_err-integer c = search (rules, no_integer c.args.words.now c.loop-word.fields c.in-Some.word.now c.loop-word.word-iterator.now c.next.new.self.now)

pub returns-in_err-push : goal.returns-in_err-push
returns-in_err-push c = search (rules, too_many c.args.words.now c.loop-word.fields c.in-Some.word.now c.loop-word.word-iterator.now c.next.new.self.now)

pub returns : goal.returns
returns c = search (rules, all_taken c.args.words.now c.loop-word.fields, c.in-None.ensures.steps)
