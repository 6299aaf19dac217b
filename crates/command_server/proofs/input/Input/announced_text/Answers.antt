-- The bytes that were taken are appended to the part of the text.
use Rattle.std.proofs.Common.{subst, ◌≡◌, true, arith, rules}
use Rattle.command_server.specs.Input.{TakesMore, left_of}
use Rattle.command_server.specs.KnownInput.{Beforehand}
use Rattle.command_server.proofs.CutLemmas.{all_following, counts_after, text_more}
use Rattle.command_server.proofs.input.Input.announced_text.Goals as goal

pub loop-text-preserved : goal.loop-text-preserved
loop-text-preserved g c =
    let some : c.in_ok-take_more.field-0 ≡ true = search rules in (
      λ how fits.
          let old = left_of g.R.Source how c.args.self.now c.args.reader.now in
          let mid = left_of g.R.Source how c.loop-text.self c.loop-text.reader in
          let new = left_of g.R.Source how c.take_more.new.self c.take_more.new.reader in
          text_more c.args.len old mid new c.loop-text.text c.take_more.new.text (c.loop-text.invariant.0 how (c.take_more.ensures.counted how fits).0)
          (subst (TakesMore mid new c.loop-text.text c.take_more.new.text) some (c.in_ok-take_more.ensures.more how fits)),
      counts_after g.R.Source c.args.self.now c.loop-text.self c.take_more.new.self c.args.reader.now c.loop-text.reader c.take_more.new.reader c.loop-text.invariant.1 c.take_more.ensures.counted,
      omega (arith, c.loop-text.invariant.2, c.take_more.ensures.less),
      all_following g.R.Source c.args.self.now c.loop-text.self c.take_more.new.self c.args.reader.now c.loop-text.reader c.take_more.new.reader
          c.loop-text.invariant.3 c.take_more.ensures.counted c.in_ok-take_more.ensures.exact,
    )

pub loop-text-smaller : goal.loop-text-smaller
loop-text-smaller g c = let some : c.in_ok-take_more.field-0 ≡ true = search rules in (c.in_ok-take_more.ensures.more Beforehand tt).less some
