-- The last of ascending names is the greatest, so all names are smaller exactly if the last one is.
use Rattle.std.proofs.Common.{sym}
use Rattle.plan_types.proofs.InsertLemmas.{last_is_greatest}
use Rattle.plan_types.proofs.problems.is_above_all.Goals as goal

pub returns-in-Some : goal.returns-in-Some
returns-in-Some c =
    last_is_greatest c.args.name c.args.requests.now.entries (c.in-Some.last.now, c.in-Some.field-0-1.now) c.requires.ascending (sym c.in-Some.ensures.entry)
