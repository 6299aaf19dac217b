-- One more name raises one counter by one. So no counter exceeds the old maximum plus the number of names so
-- far, and none overflows.
use Rattle.std.proofs.Common.{◌≡◌, ◌+◌, arith, sym, subst}
use Rattle.std.specs.Prelude.{slice_index_or}
use Rattle.anneal_search.specs.Absences.{AreAtMost}
use Rattle.anneal_search.specs.AttemptState.{counted}
use Rattle.anneal_search.proofs.AttemptLemmas.{counted_next, one_more}
use Rattle.anneal_search.proofs.absences.count_in.Goals as goal

pub count_once-requires : goal.count_once-requires
count_once-requires c =
    let name = slice_index_or c.args.names.now c.loop-name.name-index 0 in
    let most = c.requires.few.0 in
    let few = c.loop-name.invariant.few most c.requires.few.1 name in
    omega (arith, few, c.requires.few.2, c.loop-name-test.true)

pub loop-name-preserved : goal.loop-name-preserved
loop-name-preserved c =
    let names = c.args.names.now in
    let i = c.loop-name.name-index in
    let one = c.count_once.ensures in
    record {
      counted = counted_next names i c.loop-name.absences c.count_once.new.absences (counted c.args.absences.now names) c.loop-name-test.true one c.loop-name.invariant.counted;
      few = λ most all. (let more : most + i + 1 ≡ most + (i + 1) = omega arith in subst (λ k. AreAtMost k c.count_once.new.absences) more
          (subst (AreAtMost (most + i + 1)) (sym one)
          (one_more (most + i) c.loop-name.absences (slice_index_or names i 0) (c.loop-name.invariant.few most all))));
    }
