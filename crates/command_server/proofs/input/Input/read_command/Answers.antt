-- The parts up to the line feed, or to the end of the input, make up the line.
use Rattle.std.proofs.Common.{◌<◌, ◌≡◌, length, ap, arith, subst}
use Rattle.command_server.specs.Input.{TakesLess, TakesPart, left_of}
use Rattle.command_server.specs.KnownInput.{Beforehand}
use Rattle.command_server.proofs.CutLemmas.{all_following, all_nothing, counts_after, counts_nothing, kept_at_end, none_taken, on_some, part_feed, part_last, part_more}
use Rattle.command_server.proofs.input.Input.read_command.Goals as goal

pub returns-in-Feed-clause-cuts : goal.returns-in-Feed-clause-cuts
returns-in-Feed-clause-cuts g c = λ how fits.
    let old = left_of g.R.Source how c.args.self.now c.args.reader.now in
    let mid = left_of g.R.Source how c.loop-self.self c.loop-self.reader in
    let new = left_of g.R.Source how c.take_line.new.self c.take_line.new.reader in
    part_feed old mid new c.loop-self.self.line c.take_line.new.self.line c.in-Feed.field-0 c.requested.result
    (c.loop-self.invariant.0 how (c.take_line.ensures.counted how fits).0)
    (subst (TakesPart mid new c.loop-self.self.line c.take_line.new.self.line) c.in-Feed.is (c.in_ok-take_line.ensures.part how fits)) c.requested.ensures

pub returns-in-End-clause-cuts : goal.returns-in-End-clause-cuts
returns-in-End-clause-cuts g c = λ how fits.
    let old = left_of g.R.Source how c.args.self.now c.args.reader.now in
    let mid = left_of g.R.Source how c.loop-self.self c.loop-self.reader in
    let new = left_of g.R.Source how c.take_line.new.self c.take_line.new.reader in
    part_last old mid new c.loop-self.self.line c.take_line.new.self.line c.last_command.result
    (c.loop-self.invariant.0 how (c.take_line.ensures.counted how fits).0)
    (subst (TakesPart mid new c.loop-self.self.line c.take_line.new.self.line) c.in-End.is (c.in_ok-take_line.ensures.part how fits)) c.last_command.ensures.last

pub returns-in-End-clause-less : goal.returns-in-End-clause-less
returns-in-End-clause-less g c =
    let mid = left_of g.R.Source Beforehand c.loop-self.self c.loop-self.reader in
    let new = left_of g.R.Source Beforehand c.take_line.new.self c.take_line.new.reader in
    let taken = subst (TakesPart mid new c.loop-self.self.line c.take_line.new.self.line) c.in-End.is (c.in_ok-take_line.ensures.part Beforehand tt) in
    let seen = c.loop-self.invariant.0 Beforehand tt in
    let same : length c.take_line.new.self.line.kept.items ≡ length c.loop-self.self.line.kept.items = kept_at_end mid new c.loop-self.self.line c.take_line.new.self.line seen.seen seen.kept taken in
    let stays : c.take_line.new.self.left ≡ c.loop-self.self.left = subst (TakesLess c.loop-self.self.left c.take_line.new.self.left) c.in-End.is c.in_ok-take_line.ensures.less in
    on_some c.last_command.result (0 < length c.take_line.new.self.line.kept.items) (c.take_line.new.self.left < c.args.self.now.left) c.last_command.ensures.some
    (λ some. omega (arith, stays, c.loop-self.invariant.3 (omega (arith, some, same))))

pub loop-self-preserved : goal.loop-self-preserved
loop-self-preserved g c =
    let less : c.take_line.new.self.left < c.loop-self.self.left = subst (TakesLess c.loop-self.self.left c.take_line.new.self.left) c.in-More.is c.in_ok-take_line.ensures.less in (
      λ how fits.
          let old = left_of g.R.Source how c.args.self.now c.args.reader.now in
          let mid = left_of g.R.Source how c.loop-self.self c.loop-self.reader in
          let new = left_of g.R.Source how c.take_line.new.self c.take_line.new.reader in
          part_more old mid new c.loop-self.self.line c.take_line.new.self.line c.in-More.field-0 (c.loop-self.invariant.0 how (c.take_line.ensures.counted how fits).0)
          (subst (TakesPart mid new c.loop-self.self.line c.take_line.new.self.line) c.in-More.is (c.in_ok-take_line.ensures.part how fits)),
      counts_after g.R.Source c.args.self.now c.loop-self.self c.take_line.new.self c.args.reader.now c.loop-self.reader c.take_line.new.reader c.loop-self.invariant.1 c.take_line.ensures.counted,
      omega (arith, less, c.loop-self.invariant.2),
      λ some. omega (arith, less, c.loop-self.invariant.2),
      all_following g.R.Source c.args.self.now c.loop-self.self c.take_line.new.self c.args.reader.now c.loop-self.reader c.take_line.new.reader
          c.loop-self.invariant.4 c.take_line.ensures.counted c.in_ok-take_line.ensures.exact,
    )

pub returns-in_err-take_line-clause-counted : goal.returns-in_err-take_line-clause-counted
returns-in_err-take_line-clause-counted g c =
    counts_after g.R.Source c.args.self.now c.loop-self.self c.take_line.new.self c.args.reader.now c.loop-self.reader c.take_line.new.reader c.loop-self.invariant.1 c.take_line.ensures.counted

pub returns-in-Feed-clause-counted : goal.returns-in-Feed-clause-counted
returns-in-Feed-clause-counted g c =
    counts_after g.R.Source c.args.self.now c.loop-self.self c.take_line.new.self c.args.reader.now c.loop-self.reader c.take_line.new.reader c.loop-self.invariant.1 c.take_line.ensures.counted

pub returns-in-End-clause-counted : goal.returns-in-End-clause-counted
returns-in-End-clause-counted g c =
    counts_after g.R.Source c.args.self.now c.loop-self.self c.take_line.new.self c.args.reader.now c.loop-self.reader c.take_line.new.reader c.loop-self.invariant.1 c.take_line.ensures.counted

pub loop-self-init : goal.loop-self-init
loop-self-init g c = (
  λ how fits. none_taken (left_of g.R.Source how c.args.self.now c.args.reader.now) c.begin.new.self c.begin.ensures,
  counts_nothing g.R.Source c.args.self.now c.args.reader.now,
  omega arith,
  λ some. absurd (omega (arith, some, ap length c.begin.ensures.0)),
  all_nothing g.R.Source c.args.self.now c.args.reader.now,
)

pub returns-in-Feed-clause-exact : goal.returns-in-Feed-clause-exact
returns-in-Feed-clause-exact g c =
    all_following g.R.Source c.args.self.now c.loop-self.self c.take_line.new.self c.args.reader.now c.loop-self.reader c.take_line.new.reader
    c.loop-self.invariant.4 c.take_line.ensures.counted c.in_ok-take_line.ensures.exact

pub returns-in-End-clause-exact : goal.returns-in-End-clause-exact
returns-in-End-clause-exact g c =
    all_following g.R.Source c.args.self.now c.loop-self.self c.take_line.new.self c.args.reader.now c.loop-self.reader c.take_line.new.reader
    c.loop-self.invariant.4 c.take_line.ensures.counted c.in_ok-take_line.ensures.exact
