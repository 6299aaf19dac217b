-- After the first bytes are removed, the rest begins later.
use Rattle.std.proofs.Common.{◌≡◌, ◌∙◌, ℕ, ◌+◌, ◌-◌, ◌≤◌, List, length, take, drop, slice_range, sym, ap, arith, length-take, drop-drop}
use Rattle.std.proofs.lemmas.List.{drop-take}
use Rattle.command_server.proofs.read_buffer.ReadBuffer.take.Goals as goal

later : (xs : List ℕ) (a e n : ℕ) → a + n ≤ e → slice_range xs (a + n) e ≡ drop n (slice_range xs a e)
later xs a e n fits =
    let whole : n + (e - (a + n)) ≡ e - a = omega (arith, fits) in
    ap (take (e - (a + n))) (sym (drop-drop n a xs)) ∙ sym (drop-take n (e - (a + n)) (drop a xs)) ∙ ap (λ k. drop n (take k (drop a xs))) whole

pub returns : goal.returns
returns c =
    let w = c.self.inside in
    let most : length (slice_range w.block w.start w.end) ≤ w.end - w.start = omega (arith, length-take (w.end - w.start) (drop w.start w.block)) in
    let fits : w.start + c.args.len ≤ w.end = omega (arith, most, c.requires, ap length c.self.view_is, w.ordered) in
    later w.block w.start w.end c.args.len fits ∙ ap (drop c.args.len) c.self.view_is
