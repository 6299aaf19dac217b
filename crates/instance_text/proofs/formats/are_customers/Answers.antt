-- If the requests so far and the remaining ones are customers with consecutive numbers, all requests are.
use Rattle.std.proofs.Common.{sym, ◌∙◌, arith}
use Rattle.instance_text.proofs.WriteLemmas.{customers_fail, customers_pass}
use Rattle.instance_text.proofs.formats.are_customers.Goals as goal

pub returns-then-not-is_customer_at : goal.returns-then-not-is_customer_at
returns-then-not-is_customer_at c =
    sym (sym c.loop-index.invariant.left ∙ customers_fail c.loop-index.number c.args.problem.now.requests c.loop-index.index (sym c.is_customer_at.ensures ∙ c.if-not-is_customer_at.true))

pub loop-index-preserved : goal.loop-index-preserved
loop-index-preserved c = record {
  place = omega (arith, c.loop-index.invariant.place);
  left =
      sym (customers_pass c.loop-index.number c.args.problem.now.requests c.loop-index.index (sym c.is_customer_at.ensures ∙ c.if-not-is_customer_at.false))
      ∙ c.loop-index.invariant.left;
}
