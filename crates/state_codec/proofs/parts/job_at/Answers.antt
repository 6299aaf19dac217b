-- A head that was read is within its limits
use Rattle.std.proofs.Common.{arith}
use Rattle.state_codec.proofs.HeadLaws.{head_takes}
use Rattle.state_codec.proofs.parts.job_at.Goals as goal

pub problem_at-requires : goal.problem_at-requires
problem_at-requires c = (head_takes c.args.version c.args.bytes.now (λ i. omega (arith, c.type_inv.bytes i)) (c.in_ok-head.head, c.in_ok-head.rest.now) c.in_ok-head.ensures).1.head
