-- A sync settles all calls so far, and a write is one more call since the last sync.
use Rattle.std.proofs.Common.{◌≡◌, ◌+◌, ◌∙◌, ℕ, List, [], map, take, drop, ap, sym, subst, arith, IsTrue, length-take}
use Rattle.std.specs.List.{list_all}
use Rattle.std.proofs.lemmas.List.{drop_all}
use Rattle.sector_disk.specs.Consistency.{call_of}
use Rattle.sector_disk.specs.Crash.{is_write, IsSettledBy}
use Rattle.sector_disk.specs.declared.mem_device.Call.{Call as Kept}
use Rattle.sector_disk.proofs.Steps.{settled_more, writes_more, not_sync}
use Rattle.sector_disk.proofs.mem_device.synced_calls.Goals as goal
use Rattle.sector_disk.proofs.mem_device.synced_calls.Goals.{in-Sync, in_default}

pub loop-i-preserved : goal.loop-i-preserved
loop-i-preserved c =
    let calls = c.args.calls.now in
    let i = c.loop-i.i in
    elim c.match-call.branch [
      | in-Sync w ↦ (let settles = settled_more calls i c.index-calls-i.result c.loop-i-test.true (ap call_of (sym c.index-calls-i.is ∙ w.in-Sync.is)) in
          let none : drop (i + 1) (take (i + 1) calls) ≡ [] = drop_all (i + 1) (take (i + 1) calls) (simp length-take (omega arith)) in
          let all : IsTrue (list_all is_write (map call_of (drop (i + 1) (take (i + 1) calls)))) =
          ap (λ (l : List Kept). list_all is_write (map call_of l)) none in (
            omega (arith, w.synced-is),
            subst (λ (n : ℕ). IsSettledBy (map call_of (take n calls))) (sym w.synced-is) settles,
            subst (λ (n : ℕ). IsTrue (list_all is_write (map call_of (drop n (take (i + 1) calls))))) (sym w.synced-is) all,
          ))
      | in_default w ↦
          (let write = subst (λ (e : Kept). IsTrue (is_write (call_of e))) c.index-calls-i.is (not_sync c.index-calls-i.result w.in_default.not-Sync) in
          let all = writes_more calls i c.index-calls-i.result c.loop-i-test.true c.loop-i.synced c.loop-i.invariant.0 write c.loop-i.invariant.2 in (
            omega (arith, w.synced-is, c.loop-i.invariant.0),
            subst (λ (n : ℕ). IsSettledBy (map call_of (take n calls))) (sym w.synced-is) c.loop-i.invariant.1,
            subst (λ (n : ℕ). IsTrue (list_all is_write (map call_of (drop n (take (i + 1) calls))))) (sym w.synced-is) all,
          ))
    ]
