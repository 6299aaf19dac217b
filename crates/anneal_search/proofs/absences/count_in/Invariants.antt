-- The remaining names lead to the counters after all names, and each name so far raised one counter by one
use Rattle.std.proofs.Common.{◌≡◌, ℕ, ◌+◌, drop}
use Rattle.anneal_search.specs.Absences.{AreAtMost}
use Rattle.anneal_search.specs.AttemptState.{counted}
use Rattle.anneal_search.proofs.absences.count_in.Given as goal

abbrev pub invariant-loop-name : goal.invariant-loop-name
invariant-loop-name l = record {
  counted : counted l.absences (drop l.name-index l.names) ≡ counted l.fn.absences l.names;
  few : (most : ℕ) → AreAtMost most l.fn.absences → AreAtMost (most + l.name-index) l.absences;
}
