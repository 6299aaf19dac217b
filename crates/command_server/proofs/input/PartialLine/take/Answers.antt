-- The kept bytes and the bytes of the part that fit are the first bytes of the line.
use Rattle.std.proofs.Common.{◌≡◌, ◌∙◌, ℕ, ◌+◌, ◌-◌, ◌≤◌, ◌++◌, List, min, length, take, ap, arith, rules, length-take}
use Rattle.command_server.proofs.InputLemmas.{appended_ok, kept_more}
use Rattle.command_server.proofs.input.PartialLine.take.Goals as goal

pub returns : goal.returns
returns c = λ before is.
    let old : List ℕ = c.args.self.now.kept.items in
    let part : List ℕ = c.args.part.now in
    let fits : List ℕ = take c.min-room.result part in
    let room_is : c.min-room.result ≡ min (1026 - length old) (length part) = search rules in
    let at_most : length old ≤ 1026 = search rules in
    let short : length fits ≤ c.min-room.result = omega (arith, length-take c.min-room.result part) in
    let room : length old + length fits ≤ 1026 = omega (arith, room_is, at_most, short) in
    let added = appended_ok c.try_extend_from_slice.result room c.try_extend_from_slice.ensures.variant c.try_extend_from_slice.ensures.ok in
    (added ∙ ap (λ kept. kept ++ fits) is.0 ∙ kept_more 1026 before part c.min-room.result (room_is ∙ ap (λ kept. min (1026 - length kept) (length part)) is.0), c.take-self.ensures before is.1)
