-- An interrupted call does not count as answered.
use Rattle.std.proofs.Common.{◌≡◌, rules}
use Rattle.system_calls.specs.SystemCalls.{answered}
use Rattle.system_calls.proofs.RetryLemmas.{kept_before, last_attempt, no_last_attempt}
use Rattle.file_disk.proofs.transfers.write_some.Goals as goal

pub returns-in-Some-clause-noted : goal.returns-in-Some-clause-noted
returns-in-Some-clause-noted c =
    let kept = kept_before _ (λ f. f.3.ghost_name) (λ f. f) (λ f. (f.1.now ≡ c.args.bytes.now) × (f.2.now ≡ c.args.offset) × (answered f.3.now ≡ answered c.args.noted.now))
    (λ f f' answer called interrupted. search rules) _ _ _ c.retry.ensures in
    let last = last_attempt _ _ _ _ _ c.in-Some.is c.retry.ensures in search rules

pub returns-in-Some-clause-moved : goal.returns-in-Some-clause-moved
returns-in-Some-clause-moved c =
    let kept = kept_before _ (λ f. f.3.ghost_name) (λ f. f) (λ f. (f.1.now ≡ c.args.bytes.now))
    (λ f f' answer called interrupted. search rules) _ _ _ c.retry.ensures in
    let last = last_attempt _ _ _ _ _ c.in-Some.is c.retry.ensures in search rules

pub returns-in-None-clause-noted : goal.returns-in-None-clause-noted
returns-in-None-clause-noted c =
    let kept = kept_before _ (λ f. f.3.ghost_name) (λ f. f) (λ f. (f.1.now ≡ c.args.bytes.now) × (f.2.now ≡ c.args.offset) × (answered f.3.now ≡ answered c.args.noted.now))
    (λ f f' answer called interrupted. search rules) _ _ _ c.retry.ensures in
    let last = no_last_attempt _ _ _ _ c.in-None.is c.retry.ensures in search rules
