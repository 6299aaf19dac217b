-- If both headers are valid, the one with the greater sequence is current. If one is valid, it is current.
-- Otherwise there is a fault.
use Rattle.checkpoint.proofs.HeaderLemmas.{counts_first, counts_second, counts_zeroth, counts_next, none_valid}
use Rattle.checkpoint.proofs.prefix.current_header.Goals as goal

pub returns-in-None-second-clause-found : goal.returns-in-None-second-clause-found
returns-in-None-second-clause-found c image whole = counts_zeroth c.args.layout image c.in-Some.first (c.in-Some.ensures.valid image whole) (c.in-None-second.ensures.valid image whole)

pub returns-in-Some-second-2-clause-found : goal.returns-in-Some-second-2-clause-found
returns-in-Some-second-2-clause-found c image whole = counts_next c.args.layout image c.in-Some-second-2.second (c.in-None.ensures.valid image whole) (c.in-Some-second-2.ensures.valid image whole)

pub returns-in-None-second-2-clause-found : goal.returns-in-None-second-2-clause-found
returns-in-None-second-2-clause-found c image whole =
    c.missing_header_fault.ensures.reported c.args.sectors image c.requires.room whole (none_valid c.args.layout image (c.in-None.ensures.valid image whole) (c.in-None-second-2.ensures.valid image whole))

pub returns-then-first-second-clause-found : goal.returns-then-first-second-clause-found
returns-then-first-second-clause-found c image whole =
    counts_second c.args.layout image c.in-Some.first c.in-Some-second.second (c.in-Some.ensures.valid image whole) (c.in-Some-second.ensures.valid image whole) c.if-first-second.true

pub returns-else-first-second-clause-found : goal.returns-else-first-second-clause-found
returns-else-first-second-clause-found c image whole =
    counts_first c.args.layout image c.in-Some.first c.in-Some-second.second (c.in-Some.ensures.valid image whole) (c.in-Some-second.ensures.valid image whole) c.if-first-second.false
