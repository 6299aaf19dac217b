-- Without a valid header a store has another version if a header sector has one, and is unformatted otherwise.
use Rattle.std.proofs.Common.{inl, inr, refl, sym, subst}
use Rattle.checkpoint.specs.Headers.{HasOtherVersion}
use Rattle.checkpoint.proofs.HeaderLemmas.{foreign, unformatted}
use Rattle.checkpoint.proofs.prefix.missing_header_fault.Goals as goal

pub returns-then-is_of_other_version-clause-reported : goal.returns-then-is_of_other_version-clause-reported
returns-then-is_of_other_version-clause-reported c sectors image room whole none =
    foreign c.args.layout sectors c.args.prefix.now image whole room none 0 (inl refl)
    (subst (HasOtherVersion c.args.layout.version) c.sector_at.ensures (c.is_of_other_version.ensures.0 c.if-is_of_other_version.true))

pub returns-then-is_of_other_version-2-clause-reported : goal.returns-then-is_of_other_version-2-clause-reported
returns-then-is_of_other_version-2-clause-reported c sectors image room whole none =
    foreign c.args.layout sectors c.args.prefix.now image whole room none 1 (inr refl)
    (subst (HasOtherVersion c.args.layout.version) c.sector_at-2.ensures (c.is_of_other_version-2.ensures.0 c.if-is_of_other_version-2.true))

pub returns-clause-reported : goal.returns-clause-reported
returns-clause-reported c sectors image room whole none =
    unformatted c.args.layout sectors c.args.prefix.now image whole room none
    (λ other. let yes = c.is_of_other_version.ensures.1 (subst (HasOtherVersion c.args.layout.version) (sym c.sector_at.ensures) other) in cc (yes, c.if-is_of_other_version.false))
    (λ other. let yes = c.is_of_other_version-2.ensures.1 (subst (HasOtherVersion c.args.layout.version) (sym c.sector_at-2.ensures) other) in cc (yes, c.if-is_of_other_version-2.false))
