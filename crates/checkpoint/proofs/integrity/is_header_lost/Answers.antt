-- A header is lost if only `header` is valid, unless `header` is the first one and the other header sector is
-- blank.
use Rattle.std.proofs.Common.{◌∙◌, ap, arith}
use Rattle.checkpoint.specs.Integrity.{is_blank}
use Rattle.checkpoint.proofs.IntegrityLemmas.{lost_where_filled, lost_where_old, not_lost}
use Rattle.checkpoint.proofs.HeaderLemmas.{sector_in_prefix}
use Rattle.checkpoint.proofs.integrity.is_header_lost.Goals as goal

pub returns-in-Some : goal.returns-in-Some
returns-in-Some c image whole = let is = c.in-Some.ensures.valid image whole in not_lost image c.args.header c.in-Some.field-0 is.0 is.1

pub returns-then-header-ne1 : goal.returns-then-header-ne1
returns-then-header-ne1 c image whole = lost_where_old image c.args.header (c.in-None.ensures.valid image whole) c.if-header-ne1.true

pub returns-else-header-ne1 : goal.returns-else-header-ne1
returns-else-header-ne1 c image whole =
    lost_where_filled image c.args.header (c.in-None.ensures.valid image whole) (omega (arith, c.if-header-ne1.false)) c.is_blank.result
    (c.is_blank.ensures ∙ ap is_blank (c.sector_at.ensures ∙ sector_in_prefix c.args.sectors c.args.prefix.now image whole 0 (omega arith)))
