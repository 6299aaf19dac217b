-- Each line is served, until there is none left or serving ends.
use Rattle.std.proofs.Common.{◌<◌, ◌∙◌, arith, refl, subst, sym}
use Rattle.std.proofs.lemmas.Result.{err_from_is_err_and}
use Rattle.std.specs.Prelude.{MatchResult, OnSome}
use Rattle.command_text.specs.Cutting.{pieces_of}
use Rattle.command_server.specs.Input.{CutsNext, left_of}
use Rattle.command_server.specs.ServeContract.{IsCutShort, IsServed}
use Rattle.command_server.specs.ServeSteps.{TakesKnown}
use Rattle.command_server.proofs.CommandLemmas.{all_served, cut_between, input_begun, input_ended, line_cut, line_served}
use Rattle.command_server.proofs.CutLemmas.{CutLaws, all_following, all_nothing, counts_after, counts_nothing}
use Rattle.command_server.proofs.TakeLemmas.{known_on, none_taken_yet, taken_to_end, taken_whole}
use Rattle.command_server.proofs.answering.serve_lines.Goals as goal

pub loop-requested-init : goal.loop-requested-init
loop-requested-init g c = (
  λ reading bytes how is fits known. input_begun reading c.args.session.now bytes (g.W.Sink.stream c.args.writer.now) (left_of g.R.Source how c.args.input.now c.args.reader.now) known,
  refl,
  counts_nothing g.R.Source c.args.input.now c.args.reader.now,
  all_nothing g.R.Source c.args.input.now c.args.reader.now,
  λ how fits. none_taken_yet (left_of g.R.Source how c.args.input.now c.args.reader.now),
)

pub returns-in_err-requested-clause-serves : goal.returns-in_err-requested-clause-serves
returns-in_err-requested-clause-serves g c = λ reading bytes how is fits known.
    let old = c.args.session.now in
    let new = c.loop-requested.session in
    let before = g.W.Sink.stream c.args.writer.now in
    let after = g.W.Sink.stream c.loop-requested.writer in
    let so_far = c.loop-requested.invariant.0 reading bytes how is (c.read_command.ensures.counted how fits).0 known in
    let reported = err_from_is_err_and c.from_residual.result c.from_residual.ensures.1 in
    subst (λ r. MatchResult r (λ _. IsServed g.D.Sectors reading old bytes before after new) (λ _. IsCutShort g.D.Sectors reading old (pieces_of bytes) before after new)) (sym reported.1)
    (cut_between reading old new (pieces_of bytes) before after (left_of g.R.Source how c.loop-requested.input c.loop-requested.reader) so_far)

pub returns-in_default-clause-serves : goal.returns-in_default-clause-serves
returns-in_default-clause-serves g c = λ reading bytes how is fits known.
    let old = c.args.session.now in
    let new = c.loop-requested.session in
    let before = g.W.Sink.stream c.args.writer.now in
    let after = g.W.Sink.stream c.loop-requested.writer in
    let left = left_of g.R.Source how c.loop-requested.input c.loop-requested.reader in
    let next = left_of g.R.Source how c.read_command.new.self c.read_command.new.reader in
    let ended = subst (λ requested. CutsNext requested left next) c.in_default.is (c.in_ok-requested.ensures.cuts how fits) in
    all_served c.states_follow.ensures reading old new bytes before after left
    (input_ended reading old new new (pieces_of bytes) before after after left c.pieces_follow.ensures.none
    (c.loop-requested.invariant.0 reading bytes how is (c.read_command.ensures.counted how fits).0 known) ended)

pub returns-in_err-serve_command-clause-serves : goal.returns-in_err-serve_command-clause-serves
returns-in_err-serve_command-clause-serves g c = λ reading bytes how is fits known.
    let laws : CutLaws = record { ended = c.pieces_follow.ensures.ended; last = c.pieces_follow.ensures.last; none = c.pieces_follow.ensures.none } in
    let old = c.args.session.now in
    let new = c.serve_command.new.session in
    let before = g.W.Sink.stream c.args.writer.now in
    let after = g.W.Sink.stream c.serve_command.new.writer in
    let mid_fits = (c.serve_command.ensures.counted how fits).0 in
    let so_far = c.loop-requested.invariant.0 reading bytes how is (c.read_command.ensures.counted how mid_fits).0 known in
    let reported = err_from_is_err_and c.from_residual-in_err-serve_command.result c.from_residual-in_err-serve_command.ensures.1 in
    subst (λ r. MatchResult r (λ _. IsServed g.D.Sectors reading old bytes before after new) (λ _. IsCutShort g.D.Sectors reading old (pieces_of bytes) before after new)) (sym reported.1)
    (line_cut laws c.in-Some.is so_far (c.in_ok-requested.ensures.cuts how mid_fits) (λ rest q. c.in_err-serve_command.ensures.serves reading rest how is fits q))

pub returns-in-Finish-clause-serves : goal.returns-in-Finish-clause-serves
returns-in-Finish-clause-serves g c = λ reading bytes how is fits known.
    let laws : CutLaws = record { ended = c.pieces_follow.ensures.ended; last = c.pieces_follow.ensures.last; none = c.pieces_follow.ensures.none } in
    let following = left_of g.R.Source how c.serve_command.new.input c.serve_command.new.reader in
    let mid_fits = (c.serve_command.ensures.counted how fits).0 in
    let so_far = c.loop-requested.invariant.0 reading bytes how is (c.read_command.ensures.counted how mid_fits).0 known in
    let served = line_served laws c.in-Some.is so_far (c.in_ok-requested.ensures.cuts how mid_fits) c.in-Finish.is (λ rest q. c.in_ok-serve_command.ensures.serves reading rest how is fits q) in
    all_served c.states_follow.ensures reading c.args.session.now c.serve_command.new.session bytes (g.W.Sink.stream c.args.writer.now) (g.W.Sink.stream c.serve_command.new.writer) following served

pub loop-requested-preserved : goal.loop-requested-preserved
loop-requested-preserved g c =
    let laws : CutLaws = record { ended = c.pieces_follow.ensures.ended; last = c.pieces_follow.ensures.last; none = c.pieces_follow.ensures.none } in (
      λ reading bytes how is fits known.
          let mid_fits = (c.serve_command.ensures.counted how fits).0 in
          let so_far = c.loop-requested.invariant.0 reading bytes how is (c.read_command.ensures.counted how mid_fits).0 known in
          line_served laws c.in-Some.is so_far (c.in_ok-requested.ensures.cuts how mid_fits) c.in-Continue.is (λ rest q. c.in_ok-serve_command.ensures.serves reading rest how is fits q),
      c.serve_command.ensures.origin ∙ c.loop-requested.invariant.1,
      counts_after g.R.Source c.args.input.now c.read_command.new.self c.serve_command.new.input c.args.reader.now c.read_command.new.reader c.serve_command.new.reader
          (counts_after g.R.Source c.args.input.now c.loop-requested.input c.read_command.new.self c.args.reader.now c.loop-requested.reader c.read_command.new.reader
          c.loop-requested.invariant.2 c.read_command.ensures.counted)
          c.serve_command.ensures.counted,
      all_following g.R.Source c.args.input.now c.read_command.new.self c.serve_command.new.input c.args.reader.now c.read_command.new.reader c.serve_command.new.reader
          (all_following g.R.Source c.args.input.now c.loop-requested.input c.read_command.new.self c.args.reader.now c.loop-requested.reader c.read_command.new.reader
          c.loop-requested.invariant.3 c.read_command.ensures.counted c.in_ok-requested.ensures.exact)
          c.serve_command.ensures.counted c.in_ok-serve_command.ensures.taken.exact,
      λ how fits.
          let old = left_of g.R.Source how c.args.input.now c.args.reader.now in
          let left = left_of g.R.Source how c.loop-requested.input c.loop-requested.reader in
          let next = left_of g.R.Source how c.read_command.new.self c.read_command.new.reader in
          let following = left_of g.R.Source how c.serve_command.new.input c.serve_command.new.reader in
          let mid_fits = (c.serve_command.ensures.counted how fits).0 in
          let left_fits = (c.read_command.ensures.counted how mid_fits).0 in
          let cuts = subst (λ requested. CutsNext requested left next) c.in-Some.is (c.in_ok-requested.ensures.cuts how mid_fits) in
          known_on laws.ended c.in-Some.requested old left next following (c.loop-requested.invariant.4 how left_fits) cuts
          (subst (λ goes. TakesKnown c.in-Some.requested goes next following) c.in-Continue.is (c.in_ok-serve_command.ensures.taken.takes how fits)),
    )

pub loop-requested-smaller : goal.loop-requested-smaller
loop-requested-smaller g c =
    let less : c.read_command.new.self.left < c.loop-requested.input.left = subst (λ requested. OnSome requested (c.read_command.new.self.left < c.loop-requested.input.left)) c.in-Some.is c.in_ok-requested.ensures.less in
    omega (arith, less, c.in_ok-serve_command.ensures.taken.less)

pub returns-in_default-clause-most : goal.returns-in_default-clause-most
returns-in_default-clause-most g c = λ bytes how fits known some.
    let old = left_of g.R.Source how c.args.input.now c.args.reader.now in
    let left = left_of g.R.Source how c.loop-requested.input c.loop-requested.reader in
    let next = left_of g.R.Source how c.read_command.new.self c.read_command.new.reader in
    let ended = subst (λ requested. CutsNext requested left next) c.in_default.is (c.in_ok-requested.ensures.cuts how fits) in
    taken_whole bytes old left c.args.input.now.left c.loop-requested.input.left known ended (c.loop-requested.invariant.3 how (c.read_command.ensures.counted how fits).0) some

pub returns-in-Finish-clause-most : goal.returns-in-Finish-clause-most
returns-in-Finish-clause-most g c = λ bytes how fits known some.
    let old = left_of g.R.Source how c.args.input.now c.args.reader.now in
    let left = left_of g.R.Source how c.loop-requested.input c.loop-requested.reader in
    let next = left_of g.R.Source how c.read_command.new.self c.read_command.new.reader in
    let following = left_of g.R.Source how c.serve_command.new.input c.serve_command.new.reader in
    let mid_fits = (c.serve_command.ensures.counted how fits).0 in
    let left_fits = (c.read_command.ensures.counted how mid_fits).0 in
    let cuts = subst (λ requested. CutsNext requested left next) c.in-Some.is (c.in_ok-requested.ensures.cuts how mid_fits) in
    let counts = all_following g.R.Source c.args.input.now c.read_command.new.self c.serve_command.new.input c.args.reader.now c.read_command.new.reader c.serve_command.new.reader
    (all_following g.R.Source c.args.input.now c.loop-requested.input c.read_command.new.self c.args.reader.now c.loop-requested.reader c.read_command.new.reader
    c.loop-requested.invariant.3 c.read_command.ensures.counted c.in_ok-requested.ensures.exact)
    c.serve_command.ensures.counted c.in_ok-serve_command.ensures.taken.exact in
    taken_to_end c.pieces_follow.ensures.ended c.in-Some.requested bytes old left next following c.args.input.now.left c.serve_command.new.input.left known (c.loop-requested.invariant.4 how left_fits) cuts
    (subst (λ goes. TakesKnown c.in-Some.requested goes next following) c.in-Finish.is (c.in_ok-serve_command.ensures.taken.takes how fits)) (counts how fits) some
