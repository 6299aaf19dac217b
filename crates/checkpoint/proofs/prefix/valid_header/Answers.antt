-- The header in a sector is valid in each image with this prefix if it is allowed there.
use Rattle.std.proofs.Common.{arith}
use Rattle.checkpoint.proofs.HeaderLemmas.{valid_there, none_there, not_there}
use Rattle.checkpoint.proofs.prefix.valid_header.Goals as goal

pub returns-then-is_allowed-clause-valid : goal.returns-then-is_allowed-clause-valid
returns-then-is_allowed-clause-valid c image whole =
    valid_there c.args.layout c.args.sectors c.args.prefix.now image whole c.args.index c.requires.index c.sector_at.result c.sector_at.ensures c.in-Some.header
    c.in-Some.ensures.only (c.is_allowed.ensures.0 c.if-is_allowed.true)

pub returns-else-is_allowed-clause-valid : goal.returns-else-is_allowed-clause-valid
returns-else-is_allowed-clause-valid c image whole =
    not_there c.args.layout c.args.sectors c.args.prefix.now image whole c.args.index c.requires.index c.sector_at.result c.sector_at.ensures c.in-Some.header c.in-Some.ensures.all (omega arith)
    (λ allowed. let yes = c.is_allowed.ensures.1 allowed in cc (yes, c.if-is_allowed.false))

pub returns-in-None-clause-valid : goal.returns-in-None-clause-valid
returns-in-None-clause-valid c image whole =
    none_there c.args.layout c.args.sectors c.args.prefix.now image whole c.args.index c.requires.index c.sector_at.result c.sector_at.ensures c.in-None.ensures.all (omega arith)
