-- If all vehicles of a log are within a fleet, those of the removed entry and of the remaining entries are,
-- too.
use Rattle.std.proofs.Common.{length, refl}
use Rattle.std.proofs.lemmas.Option.{slice_get_read}
use Rattle.move_ops.proofs.LogLemmas.{within_without}
use Rattle.move_ops.proofs.draft.remove_entry.Goals as goal

pub returns-clause-within : goal.returns-clause-within
returns-clause-within c = λ n all.
    within_without n c.args.log.now.items c.args.entry c.remove.result
    (slice_get_read c.args.log.now.items
    (length c.args.log.now.items) c.args.entry c.remove.result refl c.requires c.remove.ensures.value) all
