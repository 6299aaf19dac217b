-- Three cases: a line feed, a byte that is kept, and one that is not.
use Rattle.std.proofs.Common.{◌∙◌, ap, arith}
use Rattle.command_server.specs.Strict.{failed_answer_of}
use Rattle.command_server.proofs.StrictLemmas.{follows_feed, follows_full, follows_more}
use Rattle.command_server.proofs.strict.LastLines.take.Goals as goal

pub returns-then-byte-eq10 : goal.returns-then-byte-eq10
returns-then-byte-eq10 c = λ text f. let ended = follows_feed text c.args.self.now c.args.byte c.if-byte-eq10.true f in
    (c.clear.ensures ∙ ended.0, c.failed_answer_of-self.ensures ∙ ap failed_answer_of c.as_slice.ensures.value ∙ ended.1)

pub returns-then-len-lt-KEPT_LEN : goal.returns-then-len-lt-KEPT_LEN
returns-then-len-lt-KEPT_LEN c = λ text f.
    let more = follows_more text c.args.self.now c.args.byte c.if-byte-eq10.false (omega (arith, c.len.ensures.value, c.if-len-lt-KEPT_LEN.true)) f in
    (c.push.ensures.items ∙ more.0, more.1)

pub returns-else-len-lt-KEPT_LEN : goal.returns-else-len-lt-KEPT_LEN
returns-else-len-lt-KEPT_LEN c = λ text f. follows_full text c.args.self.now c.args.byte c.if-byte-eq10.false (omega (arith, c.len.ensures.value, c.if-len-lt-KEPT_LEN.false)) f
