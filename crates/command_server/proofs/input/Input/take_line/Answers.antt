-- The bytes read ahead are those that the reader has lost, for both kinds of knowledge about the input.
use Rattle.std.proofs.Common.{arith, rules, subst, sym}
use Rattle.command_server.specs.Input.{CountsAll, CountsTaken, left_of}
use Rattle.command_server.specs.KnownInput.{left_by}
use Rattle.std.specs.Io.KnownBytes.{prepend_known}
use Rattle.command_server.proofs.CutLemmas.{all_part, counts_kept, counts_part, part_named, part_taken}
use Rattle.command_server.proofs.input.Input.take_line.Goals as goal

pub returns-in_err-fill-clause-counted : goal.returns-in_err-fill-clause-counted
returns-in_err-fill-clause-counted g c = λ how fits. (c.fill.ensures.fits how fits, counts_kept _ _ c.args.self.now.left (c.fill.ensures.bytes how fits))

pub returns-in_err-count-clause-counted : goal.returns-in_err-count-clause-counted
returns-in_err-count-clause-counted g c = λ how fits.
    let known = left_of g.R.Source how c.args.self.now c.args.reader.now in
    let rest = left_by g.R.Source how c.fill.new.reader in (
      c.fill.ensures.fits how fits,
      subst (λ a. CountsTaken known c.args.self.now.left (prepend_known a rest) c.count.new.self.left) (sym c.count.ensures.ahead)
          (counts_part rest known c.fill.new.self c.take_part-part.new.ahead c.args.self.now.line c.take_part-part.new.line c.take_part-part.result
          c.in-More.len c.args.self.now.left c.count.new.self.left (c.fill.ensures.bytes how fits)
          c.take_part-part.ensures c.in-More.is (omega (arith, c.in_err-count.ensures.left.1))),
    )

pub returns-in_default-clause-part : goal.returns-in_default-clause-part
returns-in_default-clause-part g c = λ how fits. part_taken _ _ _ _ (c.fill.ensures.bytes how fits) _ _ _ (λ empty. c.in_ok-fill.ensures.end empty how fits) c.take_part-part.ensures

pub returns-in_default-clause-counted : goal.returns-in_default-clause-counted
returns-in_default-clause-counted g c = λ how fits. let keeps = c.fill.ensures.bytes how fits in (c.fill.ensures.fits how fits, search (rules, keeps))

pub returns-in_ok-count-clause-part : goal.returns-in_ok-count-clause-part
returns-in_ok-count-clause-part g c = λ how fits.
    let known = left_of g.R.Source how c.args.self.now c.args.reader.now in
    let rest = left_by g.R.Source how c.fill.new.reader in
    part_named rest known c.take_part-part.new.ahead c.count.new.self.ahead c.args.self.now.line c.take_part-part.new.line c.count.new.self.line
    c.take_part-part.result c.in-More.part c.count.ensures.ahead c.count.ensures.line (sym c.in-More.part-is)
    (part_taken rest known c.fill.new.self c.take_part-part.new.ahead
    (c.fill.ensures.bytes how fits) c.args.self.now.line c.take_part-part.new.line c.take_part-part.result
    (λ empty. c.in_ok-fill.ensures.end empty how fits) c.take_part-part.ensures)

pub returns-in_ok-count-clause-counted : goal.returns-in_ok-count-clause-counted
returns-in_ok-count-clause-counted g c = λ how fits.
    let known = left_of g.R.Source how c.args.self.now c.args.reader.now in
    let rest = left_by g.R.Source how c.fill.new.reader in (
      c.fill.ensures.fits how fits,
      subst (λ a. CountsTaken known c.args.self.now.left (prepend_known a rest) c.count.new.self.left) (sym c.count.ensures.ahead)
          (counts_part rest known c.fill.new.self c.take_part-part.new.ahead c.args.self.now.line c.take_part-part.new.line c.take_part-part.result
          c.in-More.len c.args.self.now.left c.count.new.self.left (c.fill.ensures.bytes how fits)
          c.take_part-part.ensures c.in-More.is (omega (arith, c.in_ok-count.ensures.left))),
    )

pub returns-in_default-clause-exact : goal.returns-in_default-clause-exact
returns-in_default-clause-exact g c = λ how fits. let keeps = c.fill.ensures.bytes how fits in search (rules, keeps)

pub returns-in_ok-count-clause-exact : goal.returns-in_ok-count-clause-exact
returns-in_ok-count-clause-exact g c = λ how fits.
    let known = left_of g.R.Source how c.args.self.now c.args.reader.now in
    let rest = left_by g.R.Source how c.fill.new.reader in
    subst (λ a. CountsAll known c.args.self.now.left (prepend_known a rest) c.count.new.self.left) (sym c.count.ensures.ahead)
    (all_part rest known c.fill.new.self c.take_part-part.new.ahead c.args.self.now.line c.take_part-part.new.line c.take_part-part.result c.in-More.len
    c.args.self.now.left c.count.new.self.left (c.fill.ensures.bytes how fits)
    c.take_part-part.ensures c.in-More.is (sym c.in_ok-count.ensures.left) c.in_ok-count.ensures.some)
