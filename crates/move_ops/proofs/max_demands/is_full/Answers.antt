-- A single with a demand above the greatest one for a vehicle fits nowhere into its route.
use Rattle.std.proofs.Common.{pos, slice_index_or, sym, subst}
use Rattle.std.proofs.lemmas.Option.{slice_get-get_or}
use Rattle.slack_tables.specs.FitsNowhere.{FitsNowhere}
use Rattle.move_ops.proofs.max_demands.is_full.Goals as goal

pub returns-then-index-max_demands : goal.returns-then-index-max_demands
returns-then-index-max_demands c = λ holds tours are course at below.
    subst (λ r. FitsNowhere course r below) (sym c.in-Single.is)
    (are.each c.args.index course (slice_index_or c.args.max_demands.now c.args.index (pos 0)) at
    (slice_get-get_or c.args.max_demands.now c.args.index (pos 0) c.if-index-max_demands.true) c.in-Single.stop below (c.is_above.ensures holds))
