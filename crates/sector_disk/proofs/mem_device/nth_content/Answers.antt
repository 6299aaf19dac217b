-- A call that writes to the sector leaves one content fewer to skip. Any other call does not change the number.
use Rattle.std.proofs.Common.{◌≡◌, ◌∙◌, ◌+◌, ◌<◌, ℕ, List, Option, Some, None, map, drop, get_or, ap, sym, arith}
use Rattle.std.specs.Prelude.{slice_get}
use Rattle.std.specs.Option.{option_copied}
use Rattle.std.specs.List.{filter_map, cons_option}
use Rattle.sector_disk.specs.Consistency.{call_of}
use Rattle.sector_disk.specs.Crash.{content_of}
use Rattle.sector_disk.specs.declared.mem_device.Call.{Call as Kept}
use Rattle.sector_disk.proofs.Steps.{filter_rest, slice_get_later, is_none}
use Rattle.sector_disk.proofs.mem_device.nth_content.Goals as goal
use Rattle.sector_disk.proofs.mem_device.nth_content.Goals.{in-Some+else-left-eq0, in_default}

pub loop-call-preserved : goal.loop-call-preserved
loop-call-preserved c =
    let left = c.loop-call.left in
    let after = filter_map (content_of c.args.sector) (map call_of (drop (c.loop-call.call-index + 1) c.args.calls.now)) in
    let rest = filter_rest c.args.calls.now c.loop-call.call-index c.call-item.result c.loop-call-test.true c.args.sector in
    let o = content_of c.args.sector (call_of (get_or c.args.calls.now c.loop-call.call-index c.call-item.result)) in
    let at : option_copied c.content_for.result ≡ o = c.content_for.ensures.content ∙ ap (λ (e : Kept). content_of c.args.sector (call_of e)) c.call-item.is in
    let so_far : slice_get (cons_option o after) left ≡ slice_get (filter_map (content_of c.args.sector) (map call_of c.args.calls.now)) c.args.number = cc in
    elim c.match-content_for.branch [
      | in-Some+else-left-eq0 w ↦ (let some : o ≡ Some w.in-Some.content.now = sym at ∙ ap option_copied w.in-Some.is in
          let more : 0 < left = omega (arith, w.if-left-eq0.false) in
          ap (slice_get after) w.left-is ∙ sym (slice_get_later w.in-Some.content.now after left more)
          ∙ ap (λ (o : Option (List ℕ)). slice_get (cons_option o after) left) (sym some) ∙ so_far)
      | in_default w ↦ (let none : o ≡ None = sym at ∙ is_none c.content_for.result w.in_default.not-Some in
          ap (slice_get after) w.left-is ∙ ap (λ (o : Option (List ℕ)). slice_get (cons_option o after) left) (sym none) ∙ so_far)
    ]
