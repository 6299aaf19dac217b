-- Reading one more item keeps the invariant. A fault is returned, and after the last item all items are read
use Rattle.std.proofs.lemmas.Result.{err_from_is_err_and}
use Rattle.state_codec.specs.Reading.{times}
use Rattle.state_codec.proofs.Loop.{goes_on, ends, is_done}
use Rattle.state_codec.proofs.fields.times.Goals as goal

pub returns-in_err-all : goal.returns-in_err-all
returns-in_err-all g c = λ next reads.
    let p = err_from_is_err_and c.from_residual.result c.from_residual.ensures.1 in
    let e = c.in_err-all.field-0.0 in
    rw (p.1, p.2) (ends next c.args.count c.loop.counter c.loop.all c.loop.rest.now (times next c.args.count c.args.before c.args.bytes.now)
    (c.loop.invariant next reads) c.loop-test.true e (reads c.loop.all c.loop.rest _ c.in_err-all.ensures))

pub loop-preserved : goal.loop-preserved
loop-preserved g c = λ next reads.
    goes_on next c.args.count c.loop.counter c.loop.all c.loop.rest.now (times next c.args.count c.args.before c.args.bytes.now)
    (c.loop.invariant next reads) c.loop-test.true c.in_ok-all.field-0-0 c.in_ok-all.field-0-1.now (reads c.loop.all c.loop.rest _ c.in_ok-all.ensures)

pub returns : goal.returns
returns g c = λ next reads.
    is_done next c.args.count c.loop.counter c.loop.all c.loop.rest.now (times next c.args.count c.args.before c.args.bytes.now) (c.loop.invariant next reads) c.loop-test.false
