-- The text so far, followed by that of the remaining customers, is the old text followed by that of all
-- customers.
use Rattle.std.proofs.Common.{◌≡◌, ◌++◌, drop}
use Rattle.sol_text.specs.Written.{customers_text}
use Rattle.sol_text.proofs.write.write_customers.Given as goal

abbrev pub invariant-loop-customer : goal.invariant-loop-customer
invariant-loop-customer l = l.text.items ++ customers_text (drop l.customer-index l.route) ≡ l.fn.text.items ++ customers_text l.route
