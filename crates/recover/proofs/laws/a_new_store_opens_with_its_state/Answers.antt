-- Every crash image of a new store recovers to the state that it was created from, and the store opens with it.
use Rattle.recover.proofs.StepLemmas.{held_new}
use Rattle.recover.proofs.laws.a_new_store_opens_with_its_state.Goals as goal

pub returns : goal.returns
returns g c device state place outcome honest holds =
    let image = g.D.Sectors.seen device in (
      (λ stopped left. held_new state place stopped (holds stopped left)),
      λ opens. opens state (held_new state place image (holds image (g.met.D.Sectors.reads_possible device honest))),
    )
