-- An interrupted call takes no byte.
use Rattle.std.proofs.Common.{rules}
use Rattle.std.specs.Io.KnownBytes.{Keeps}
use Rattle.system_calls.proofs.RetryLemmas.{kept_before, last_attempt, no_last_attempt}
use Rattle.command_server.proofs.streams.read_once.Goals as goal

pub returns-in-Some-Ok : goal.returns-in-Some-Ok
returns-in-Some-Ok g c =
    let reader = kept_before _ (λ f. f.0.ghost_name) (λ f. f) (λ f. Keeps (g.R.Read.remaining c.args.reader.now) (g.R.Read.remaining f.0.now))
    (λ f f' answer called interrupted. search rules) _ _ _ c.retry.ensures in
    let block = kept_before _ (λ f. f.1.ghost_name) (λ f. f) (λ f. Unit {0}) (λ f f' answer called interrupted. search rules) _ _ _ c.retry.ensures in
    let last = last_attempt _ _ _ _ _ c.in-Some-Ok.is c.retry.ensures in search rules

pub returns-in-Some-Err : goal.returns-in-Some-Err
returns-in-Some-Err g c =
    let reader = kept_before _ (λ f. f.0.ghost_name) (λ f. f) (λ f. Keeps (g.R.Read.remaining c.args.reader.now) (g.R.Read.remaining f.0.now))
    (λ f f' answer called interrupted. search rules) _ _ _ c.retry.ensures in
    let last = last_attempt _ _ _ _ _ c.in-Some-Err.is c.retry.ensures in search rules

pub returns-in-None : goal.returns-in-None
returns-in-None g c =
    let reader = kept_before _ (λ f. f.0.ghost_name) (λ f. f) (λ f. Keeps (g.R.Read.remaining c.args.reader.now) (g.R.Read.remaining f.0.now))
    (λ f f' answer called interrupted. search rules) _ _ _ c.retry.ensures in
    let last = no_last_attempt _ _ _ _ c.in-None.is c.retry.ensures in search rules
