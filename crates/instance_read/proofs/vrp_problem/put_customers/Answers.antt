-- The next node is a customer within its limits, and its number is free.
use Rattle.std.proofs.Common.{◌≡◌, ◌+◌, ◌-◌, ◌∙◌, ap, subst, arith}
use Rattle.plan_types.specs.Instance.{Instance, with_request}
use Rattle.instance_read.specs.DraftLines.{customers_in}
use Rattle.instance_read.proofs.CustomerLemmas.{customer_free, customer_put, customer_valid}
use Rattle.instance_read.proofs.vrp_problem.put_customers.Goals as goal

pub put_request-requires-clause-valid : goal.put_request-requires-clause-valid
put_request-requires-clause-valid c =
    rw c.customer.ensures (customer_valid c.args.draft.now c.requires.draft c.loop-number.number c.loop-number.invariant.from_one
    (omega (arith, c.loop-number-test.true, c.node_count-number-end.ensures)))

pub put_request-requires-clause-free : goal.put_request-requires-clause-free
put_request-requires-clause-free c =
    rw c.customer.ensures (customer_free c.args.draft.now c.loop-number.problem c.loop-number.number c.loop-number.invariant.from_one (ap (λ (p : Instance). p.requests) c.loop-number.invariant.put))

pub loop-number-preserved : goal.loop-number-preserved
loop-number-preserved c =
    let n = c.loop-number.number in
    let draft = c.args.draft.now in
    let before = c.loop-number.problem in
    let put = c.in_ok-put_request.ensures ∙ ap (with_request before) c.customer.ensures in
    let back : n ≡ n + 1 - 1 = omega arith in
    let P : Instance → Type 0 = λ p. c.put_request.new.problem ≡ p in
    record {
      from_one = omega (arith, c.loop-number.invariant.from_one);
      put = subst P (ap (λ k. record c.args.problem.now { requests = customers_in draft k; next_number = n + 1 }) back)
          (customer_put draft c.args.problem.now before c.put_request.new.problem n c.loop-number.invariant.from_one c.loop-number.invariant.put put);
    }
