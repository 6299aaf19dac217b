-- A customer is a request within its limits, and the customer's number is free.
use Rattle.std.proofs.Common.{◌+◌, ap, get_or, map, take}
use Rattle.std.proofs.lemmas.List.{get_or_default}
use Rattle.plan_types.specs.Instance.{Instance}
use Rattle.plan_types.specs.declared.requests.Request.TheVariants.{Single}
use Rattle.instance_read.specs.Solomon.{single_of}
use Rattle.instance_read.proofs.PairLemmas.{no_task, put_step}
use Rattle.instance_read.proofs.SingleLemmas.{single_free, single_last, single_valid}
use Rattle.instance_read.proofs.singles.put_singles.Goals as goal

pub put_request-requires-clause-valid : goal.put_request-requires-clause-valid
put_request-requires-clause-valid c =
    let tasks = c.args.customers.now in
    let i = c.loop-customer.customer-index in
    let t = get_or tasks i no_task in
    single_valid tasks i t c.requires.valid c.requires.loads c.requires.ascending c.loop-customer-test.true (get_or_default tasks i no_task t c.loop-customer-test.true)

pub put_request-requires-clause-free : goal.put_request-requires-clause-free
put_request-requires-clause-free c =
    let tasks = c.args.customers.now in
    let i = c.loop-customer.customer-index in
    let t = get_or tasks i no_task in
    single_free tasks i t c.requires.valid c.requires.loads c.requires.ascending c.loop-customer-test.true (get_or_default tasks i no_task t c.loop-customer-test.true)
    c.loop-customer.problem (ap (λ (p : Instance). p.requests) c.loop-customer.invariant)

pub loop-customer-preserved : goal.loop-customer-preserved
loop-customer-preserved c =
    let tasks = c.args.customers.now in
    let i = c.loop-customer.customer-index in
    let t = get_or tasks i no_task in
    put_step c.args.problem.now c.loop-customer.problem c.put_request.new.problem (Single t.stop)
    (map single_of (take i tasks)) (map single_of (take (i + 1) tasks)) c.loop-customer.invariant c.in_ok-put_request.ensures
    (single_last tasks i t c.requires.valid c.requires.loads c.requires.ascending c.loop-customer-test.true (get_or_default tasks i no_task t c.loop-customer-test.true))
