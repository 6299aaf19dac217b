-- Nothing was read yet, so the rest of the input is everything that the reader has. At each moment of a run
-- over a session, a prefix of its operations is kept.
use Rattle.std.proofs.Common.{◌≡◌, ◌<◌, ◌^◌, ◌∙◌, ℕ, List, [], Some, ap, arith, refl, subst, length}
use Rattle.std.proofs.lemmas.Result.{IfErr-weaker, on_ok_weaker}
use Rattle.std.proofs.KnownBytes.{prepend_known-nil}
use Rattle.std.specs.Io.KnownBytes.{prepend_known}
use Rattle.command_server.specs.Input.{CountsTaken, left_of}
use Rattle.command_server.specs.KnownInput.{Fits, InputKnowledge, left_by}
use Rattle.command_server.specs.ServeContract.{HasCause, IsTaken}
use Rattle.command_server.specs.ServeSteps.{IsCause}
use Rattle.command_server.proofs.ActLemmas.{honest_before}
use Rattle.command_server.proofs.CommandLemmas.{cause_of, whole_input}
use Rattle.command_server.proofs.CutLemmas.{known_somehow}
use Rattle.command_server.proofs.answering.serve_source.Goals as goal

pub returns-clause-serves : goal.returns-clause-serves
returns-clause-serves g c = λ reading input is given.
    let known = known_somehow g.R.Source c.args.reader.now c.serve_lines.new.reader input given in
    let how = known.0 in
    let reader = left_by g.R.Source how c.args.reader.now in
    let start : left_of g.R.Source how c.new-input.result c.args.reader.now ≡ Some input = ap (λ a. prepend_known a reader) c.new-input.ensures.ahead ∙ prepend_known-nil reader ∙ known.2 in
    c.serve_lines.ensures.serves reading input how is known.1 start

pub returns-clause-moments : goal.returns-clause-moments
returns-clause-moments g c = λ commands replies run whole honest.
    let old = c.args.session.now in
    let recovers = c.images_recover_to_the_state.ensures whole (honest_before g.D.Sectors commands replies old c.serve_lines.new.session run honest) in
    c.runs_compose.ensures.moments old old c.serve_lines.new.session [] commands [] replies refl run whole honest recovers

pub returns-clause-cause : goal.returns-clause-cause
returns-clause-cause g c = λ input given.
    let known = known_somehow g.R.Source c.args.reader.now c.serve_lines.new.reader input given in
    let how = known.0 in
    let reader = left_by g.R.Source how c.args.reader.now in
    let start : left_of g.R.Source how c.new-input.result c.args.reader.now ≡ Some input = ap (λ a. prepend_known a reader) c.new-input.ensures.ahead ∙ prepend_known-nil reader ∙ known.2 in
    let rest = left_of g.R.Source how c.serve_lines.new.input c.serve_lines.new.reader in
    let left = c.serve_lines.new.input.left in
    let read = g.R.Source.has_failed c.serve_lines.new.reader in
    let written = g.W.Sink.has_failed c.serve_lines.new.writer in
    let counted = subst (λ k. CountsTaken k 1000000000000 rest left) start
    (subst (λ l. CountsTaken (left_of g.R.Source how c.new-input.result c.args.reader.now) l rest left) c.new-input.ensures.left (c.serve_lines.ensures.counted how known.1).1) in
    IfErr-weaker c.serve_lines.result (λ f. IsCause f read written left) (λ f. HasCause f read written (length input))
    (λ f cause. cause_of f read written left (length input) (λ none. whole_input input rest left counted none) cause) c.serve_lines.ensures.cause

pub returns-clause-most : goal.returns-clause-most
returns-clause-most g c = λ input given.
    let known = known_somehow g.R.Source c.args.reader.now c.serve_lines.new.reader input given in
    let how = known.0 in
    let reader = left_by g.R.Source how c.args.reader.now in
    let start : left_of g.R.Source how c.new-input.result c.args.reader.now ≡ Some input = ap (λ a. prepend_known a reader) c.new-input.ensures.ahead ∙ prepend_known-nil reader ∙ known.2 in
    let some : 0 < c.new-input.result.left = omega (arith, c.new-input.ensures.left) in
    let weaker : ((bytes : List ℕ) (how : InputKnowledge) → Fits g.R.Source how c.serve_lines.new.reader
    → left_of g.R.Source how c.new-input.result c.args.reader.now ≡ Some bytes → 0 < c.new-input.result.left → IsTaken c.new-input.result.left bytes)
    → IsTaken (10 ^ 12) input =
    λ most. subst (λ n. IsTaken n input) c.new-input.ensures.left (most input how known.1 start some) in
    on_ok_weaker c.serve_lines.result weaker c.serve_lines.ensures.most
