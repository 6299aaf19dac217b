-- Bytes decode to exactly one result, which is returned
use Rattle.std.proofs.Common.{arith}
use Rattle.state_codec.proofs.DecodeLemmas.{decodes, only_this}
use Rattle.state_codec.proofs.states.decode_version.Goals as goal

pub returns-clause-decodes : goal.returns-clause-decodes
returns-clause-decodes c = decodes c.args.version c.args.bytes.now (λ i. omega (arith, c.type_inv.bytes i)) c.decode.result c.decode.ensures

pub returns-clause-only : goal.returns-clause-only
returns-clause-only c = only_this c.verdicts_are_unique.ensures c.passes_decides_the_verdict.ensures c.feasible_alone_decides_feasibility.ensures c.numbers_are_below_next_number.ensures.stops
    c.args.version c.args.bytes.now c.decode.result c.decode.ensures
