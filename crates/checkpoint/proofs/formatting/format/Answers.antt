-- The encoding of the empty state is one zero byte, so zeros are its padded snapshot.
use Rattle.std.proofs.Common.{[], ◌∷◌, refl}
use Rattle.command_types.specs.declared.states.State.TheVariants.{Empty}
use Rattle.checkpoint.specs.WrittenImages.{with_zeros, with_state}
use Rattle.checkpoint.proofs.NewSnapshots.{new_holds, makes_by}
use Rattle.checkpoint.proofs.formatting.format.Goals as goal

pub returns : goal.returns
returns g c =
    let d = g.D.Sectors in
    let start = c.args.device.now in
    makes_by d _ _ (with_state 1 Empty (with_zeros (d.seen start))) c.make_store.result start c.make_store.new.device (λ image. new_holds image Empty 1 (0 ∷ []) refl tt) c.make_store.ensures
