-- A call that writes to the sector adds one to the count, and any other call changes nothing.
use Rattle.std.proofs.Common.{◌≡◌, ◌∙◌, get_or, ap, sym, arith}
use Rattle.std.specs.Option.{option_copied}
use Rattle.sector_disk.specs.Consistency.{call_of}
use Rattle.sector_disk.specs.Crash.{content_of}
use Rattle.sector_disk.specs.declared.mem_device.Call.{Call as Kept}
use Rattle.sector_disk.proofs.Steps.{length-filter_more, one_content, no_content}
use Rattle.sector_disk.proofs.mem_device.count_for.Goals as goal
use Rattle.sector_disk.proofs.mem_device.count_for.Goals.{then-is_some, else-is_some}

pub loop-call-preserved : goal.loop-call-preserved
loop-call-preserved c =
    let more = length-filter_more c.args.calls.now c.loop-call.call-index c.call-item.result c.loop-call-test.true c.args.sector in
    let o = content_of c.args.sector (call_of (get_or c.args.calls.now c.loop-call.call-index c.call-item.result)) in
    let at : option_copied c.content_for.result ≡ o = c.content_for.ensures.content ∙ ap (λ (e : Kept). content_of c.args.sector (call_of e)) c.call-item.is in
    elim c.if-is_some.branch [
      | then-is_some w ↦ (let one = one_content c.content_for.result o at (sym c.is_some.ensures ∙ w.if-is_some.true) in
          (omega (arith, w.count-is, c.loop-call.invariant.0), omega (arith, w.count-is, c.loop-call.invariant.1, more, one)))
      | else-is_some w ↦ (let none = no_content c.content_for.result o at (sym c.is_some.ensures ∙ w.if-is_some.false) in
          (omega (arith, w.count-is, c.loop-call.invariant.0), omega (arith, w.count-is, c.loop-call.invariant.1, more, none)))
    ]
