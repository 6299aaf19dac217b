-- The new store holds the state, since the snapshot's bytes are the state's.
use Rattle.std.proofs.Common.{◌≡◌, ℕ, List, [], take, sym, subst, ◌∙◌}
use Rattle.state_codec.specs.declared.version.Version.TheVariants.{Two}
use Rattle.state_codec.specs.Bytes.{state_bytes}
use Rattle.checkpoint.specs.Stores.{HasStored}
use Rattle.checkpoint.specs.WrittenImages.{with_zeros, first_header, with_both, with_state, to_whole_sectors}
use Rattle.checkpoint.specs.Formatting.{FormatsStore}
use Rattle.checkpoint.proofs.NewSnapshots.{new_holds, makes_by}
use Rattle.checkpoint.proofs.formatting.format_with.Goals as goal

pub returns-in-Ok : goal.returns-in-Ok
returns-in-Ok g c =
    let d = g.D.Sectors in
    let start = c.args.device.now in
    let end = c.make_store.new.device in
    let state = c.args.state.now in
    let clear = with_zeros (d.seen start) in
    let stored : List ℕ → Type 0 = HasStored 1 (take c.in-Ok.snapshot.size c.deref.result.now) [] in
    let is : take c.in-Ok.snapshot.size c.deref.result.now ≡ state_bytes Two state =
    subst (λ (b : List ℕ). take c.in-Ok.snapshot.size b ≡ state_bytes Two state) (sym c.deref.ensures.value) c.in-Ok.ensures.is in
    makes_by d stored _ (with_state 1 state clear) c.make_store.result start end (λ image. new_holds image state 1 (take c.in-Ok.snapshot.size c.deref.result.now) is c.in-Ok.ensures.facts)
    (subst (λ (size : ℕ). FormatsStore d stored (with_both (first_header size) (to_whole_sectors (state_bytes Two state)) clear) c.make_store.result start end) c.in-Ok.ensures.size_is
    (subst (λ (b : List ℕ). FormatsStore d stored (with_both (first_header c.in-Ok.snapshot.size) b clear) c.make_store.result start end) (c.deref.ensures.value ∙ c.in-Ok.ensures.bytes_are)
    c.make_store.ensures))
