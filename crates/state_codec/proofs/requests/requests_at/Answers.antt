-- One more request has a new name and is added after the others. A fault is returned
use Rattle.std.proofs.Common.{◌≡◌, ◌<◌, ◌-◌, ◌++◌, ◌∷◌, [], Ok, refl, sym, ap, ◌∙◌, arith, subst}
use Rattle.std.proofs.lemmas.Result.{err_from_is_err_and}
use Rattle.plan_types.specs.Request.{request_name}
use Rattle.plan_types.specs.Instance.{Instance, with_request, numbers_among}
use Rattle.std.specs.List.{AllByRecursion}
use Rattle.state_codec.specs.Reading.{times, request_at, next_request}
use Rattle.state_codec.proofs.Loop.{goes_on, ends, is_done, fails, fails_on}
use Rattle.state_codec.proofs.RequestLaws.{request_takes}
use Rattle.state_codec.proofs.PutLemmas.{goes_last, not_taken, filled_more}
use Rattle.state_codec.proofs.requests.requests_at.Goals as goal

pub returns-in_err-request-clause-read : goal.returns-in_err-request-clause-read
returns-in_err-request-clause-read c =
    let p = err_from_is_err_and c.from_residual.result c.from_residual.ensures.1 in
    let more = next_request c.args.version c.args.next in
    let e = c.in_err-request.field-0.0 in
    rw (p.1, p.2) (ends more c.args.count c.loop.counter c.loop.problem.requests c.loop.rest.now
    (times more c.args.count [] c.args.bytes.now) c.loop.invariant.read c.loop-test.true e
    (fails_on e (request_at c.args.version c.args.next c.loop.problem.requests c.loop.rest.now)
    (λ r. Ok (c.loop.problem.requests ++ (request_name r.0, r.0) ∷ [], r.1))
    (fails e (request_at c.args.version c.args.next c.loop.problem.requests c.loop.rest.now) c.in_err-request.ensures)))

pub put_new-requires-clause-request : goal.put_new-requires-clause-request
put_new-requires-clause-request c = (request_takes c.args.version c.args.next c.loop.problem.requests c.loop.rest.now c.requires.next c.loop.invariant.bytes
    (c.in_ok-request.request, c.in_ok-request.after.now) c.in_ok-request.ensures).1.request

pub put_new-requires-clause-free : goal.put_new-requires-clause-free
put_new-requires-clause-free c = not_taken c.loop.problem c.args.next c.in_ok-request.request
    (request_takes c.args.version c.args.next c.loop.problem.requests c.loop.rest.now c.requires.next c.loop.invariant.bytes
    (c.in_ok-request.request, c.in_ok-request.after.now) c.in_ok-request.ensures).1

pub loop-init : goal.loop-init
loop-init c =
    let more = next_request c.args.version c.args.next in
    let all : c.args.count - 0 ≡ c.args.count = omega arith in
    record {
      read = ap (λ n. times more n c.args.problem.requests c.args.bytes.now) all ∙ ap (λ es. times more c.args.count es c.args.bytes.now) c.requires.empty;
      bytes = λ i. omega (arith, c.type_inv.bytes i);
      filled = record { kind = refl; depot = refl; capacity = refl; fleet = refl; below = subst (λ es. AllByRecursion (λ n. n < c.args.next) (numbers_among es)) (sym c.requires.empty) tt };
    }

pub loop-preserved : goal.loop-preserved
loop-preserved c =
    let more = next_request c.args.version c.args.next in
    let read = (request_takes c.args.version c.args.next c.loop.problem.requests c.loop.rest.now c.requires.next c.loop.invariant.bytes
    (c.in_ok-request.request, c.in_ok-request.after.now) c.in_ok-request.ensures) in
    let r = c.in_ok-request.request in
    let es = c.loop.problem.requests in
    let put : c.put_new.new.problem ≡ with_request c.loop.problem r = c.in_ok-put_new.ensures.ok in
    let last : c.put_new.new.problem.requests ≡ es ++ (request_name r, r) ∷ [] = ap (λ (p : Instance). p.requests) put ∙ goes_last r es read.1.names in
    record {
      read = rw last (goes_on more c.args.count c.loop.counter es c.loop.rest.now
          (times more c.args.count [] c.args.bytes.now) c.loop.invariant.read c.loop-test.true (es ++ (request_name r, r) ∷ []) c.in_ok-request.after.now
          (rw c.in_ok-request.ensures refl));
      bytes = read.0.rest_fits;
      filled = rw put (filled_more c.args.problem c.loop.problem c.args.next r c.loop.invariant.filled read.1);
    }

pub returns-clause-read : goal.returns-clause-read
returns-clause-read c =
    let more = next_request c.args.version c.args.next in
    is_done more c.args.count c.loop.counter c.loop.problem.requests c.loop.rest.now (times more c.args.count [] c.args.bytes.now) c.loop.invariant.read c.loop-test.false
