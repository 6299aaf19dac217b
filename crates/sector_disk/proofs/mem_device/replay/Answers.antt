-- A finished write lies within the image, and reads return it afterwards. Any other call does not change what
-- reads return.
use Rattle.std.proofs.Common.{◌≡◌, ◌∙◌, ℕ, List, length, map, take, get_or, subst, sym, ap, arith, IsTrue}
use Rattle.std.specs.List.{flat_map}
use Rattle.sector_disk.specs.Image.{written}
use Rattle.sector_disk.specs.Model.{settled, run}
use Rattle.sector_disk.specs.Memory.{fits, events_of}
use Rattle.sector_disk.specs.MemoryLaws.{run_parts}
use Rattle.sector_disk.specs.Consistency.{call_of}
use Rattle.sector_disk.specs.declared.mem_device.Call.{Call as Kept}
use Rattle.sector_disk.proofs.ConsistencySteps.{fits_at, seen_after}
use Rattle.sector_disk.proofs.Steps.{seen_more, not_write}
use Rattle.sector_disk.proofs.mem_device.replay.Goals as goal
use Rattle.sector_disk.proofs.mem_device.replay.Goals.{in-Write, in_default}

pub put-requires : goal.put-requires
put-requires c =
    let size = length c.args.image.now in
    let at = fits_at size c.args.calls.now c.loop-call.call-index c.call-item.result c.loop-call-test.true c.requires in
    let here = subst (λ (e : Kept). IsTrue (fits size (call_of e))) (sym c.call-item.is) at in
    let write = subst (λ (e : Kept). IsTrue (fits size (call_of e))) c.in-Write.is here in
    omega (arith, (run_parts size c.in-Write.first (length c.in-Write.bytes.items) write).2, ap length c.deref.ensures.value, c.loop-call.auto.image)

pub loop-call-preserved : goal.loop-call-preserved
loop-call-preserved c =
    let image = c.args.image.now in
    let before = (run (settled image) (flat_map events_of (map call_of (take c.loop-call.call-index c.args.calls.now)))).seen in
    let more = seen_more c.args.calls.now c.loop-call.call-index c.call-item.result c.loop-call-test.true image in
    let at : seen_after (call_of c.call-item.result) before ≡ seen_after (call_of (get_or c.args.calls.now c.loop-call.call-index c.call-item.result)) before =
    ap (λ (e : Kept). seen_after (call_of e) before) c.call-item.is in
    elim c.match-call.branch [
      | in-Write w ↦ w.image-is ∙ w.put.ensures
          ∙ ap (λ (bytes : List ℕ). written w.in-Write.first bytes c.loop-call.image) w.deref.ensures.value
          ∙ ap (written w.in-Write.first w.in-Write.bytes.items) c.loop-call.invariant
          ∙ ap (λ (e : Kept). seen_after (call_of e) before) (sym w.in-Write.is) ∙ at ∙ sym more
      | in_default w ↦ w.image-is ∙ c.loop-call.invariant ∙ sym (not_write c.call-item.result w.in_default.not-Write before) ∙ at ∙ sym more
    ]
