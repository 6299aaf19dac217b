-- The bytes that were taken are a prefix of those that were read.
use Rattle.std.proofs.Common.{◌≡◌, ◌∙◌, ◌≤◌, ◌++◌, length, min, rules, sym, ap, subst, take, arith, length-take-le, take-append-drop}
use Rattle.command_server.specs.Input.{IsPartialText}
use Rattle.command_server.proofs.input.take_text.Goals as goal

pub returns : goal.returns
returns c =
    let show_reply = c.args.ahead.now in
    let taken = c.min-taken.result in
    let is : taken ≡ min c.args.text.now.left (length show_reply) = search rules in
    let within : taken ≤ length show_reply = omega (arith, is) in
    let left : taken ≤ c.args.text.now.left = omega (arith, is) in
    let long : length (take taken show_reply) ≡ taken = length-take-le taken show_reply within in
    let same : take taken c.as_slice-available.result.now ≡ take taken show_reply = ap (take taken) c.as_slice-available.ensures in
    let part : length (take taken c.as_slice-available.result.now) ≡ taken = ap length same ∙ long in
    record {
      bytes = take taken show_reply;
      moves = sym (take-append-drop taken show_reply) ∙ ap (λ r. take taken show_reply ++ r) (sym c.take-2.ensures);
      count = long;
      most = is;
      left = omega (arith, c.take.ensures.left, part, left);
      text = λ len seen kept. subst (λ b. IsPartialText len (seen ++ b) c.take.new.self) same (c.take.ensures.bytes len seen (omega (arith, part, left)) kept);
    }
