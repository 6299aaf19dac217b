-- The new store is created from the state that the old one recovers to, so it recovers to the same state.
use Rattle.checkpoint.specs.Places.{first_place}
use Rattle.recover.proofs.StepLemmas.{held_new}
use Rattle.recover.proofs.Upgrades.{is_made}
use Rattle.recover.proofs.upgrading.upgrade.Goals as goal

pub returns-in-Ok-made-clause-makes : goal.returns-in-Ok-made-clause-makes
returns-in-Ok-made-clause-makes g c =
    let state = c.in-Ok.state in
    let made = c.in-Ok-made.ensures in
    record {
      state = state;
      old_recovers = c.in-Ok.ensures.found;
      place = made.place;
      moments = λ honest. (made.formats honest).moments;
      holds = λ honest. (made.formats honest).after;
      recovers = λ honest image left. held_new state first_place image ((made.formats honest).after image left);
    }

pub returns-in-Err-made-clause-makes : goal.returns-in-Err-made-clause-makes
returns-in-Err-made-clause-makes g c =
    is_made g.D.Sectors g.E.Sectors c.in-Err-made.fault c.args.old.now c.read_version_1.new.old c.args.new.now c.format_with-made.new.device c.in-Ok.state
    c.in-Ok.ensures.found
    (λ honest. (c.in-Err-made.ensures.formats honest).moments)
