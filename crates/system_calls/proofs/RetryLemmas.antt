-- Lemmas about a call that is repeated. `step` is one attempt, with its answer.
use Rattle.std.proofs.Common.{◌≡◌, ◌∙◌, ℕ, ◌+◌, true, List, [], ◌∷◌, ◌++◌, ap, subst, Result, Option, Some, None}
use Rattle.std.specs.declared.io.Error.{Error}
use Rattle.std.specs.List.{FoldsTo}
use Rattle.std.proofs.lemmas.Fn.{FoldsTo-push}
use Rattle.std.proofs.lemmas.List.{length_push}
use Rattle.system_calls.specs.Retries.{was_interrupted, IsInterruptedAttempt, AreInterrupted, IsLastAttempt, IsRetried}

module _ {F : Type 0} (step : F → Result ℕ Error → F → Type 0) where
  pub one_more : (old f g : F) (n : ℕ) (answer : Result ℕ Error) → AreInterrupted step old n f → step f answer g → was_interrupted answer ≡ true
      → AreInterrupted step old (n + 1) g
  one_more old f g n answer so_far is interrupted = record {
    answers = so_far.answers ++ (answer ∷ []);
    count = length_push so_far.answers answer ∙ ap (λ k. k + 1) so_far.count;
    calls = FoldsTo-push (IsInterruptedAttempt step) old so_far.answers f answer g so_far.calls (is, interrupted);
  }

  -- `name` and `value` are those of a reference that the call captures, and `P` is a property of its value
  module _ {A N : Type 0} (name : F → N) (value : F → A) (P : A → Type 0)
      (keeps : (f g : F) (answer : Result ℕ Error) → step f answer g → was_interrupted answer ≡ true → (name f ≡ name g) × (P (value f) → P (value g))) where
    through : (answers : List (Result ℕ Error)) (old new : F) → FoldsTo (IsInterruptedAttempt step) old answers new
        → (name old ≡ name new) × (P (value old) → P (value new))
    through [] old new calls = (ap name calls, subst (λ f. P (value f)) calls)
    through (answer ∷ answers) old new calls =
        let first = keeps old calls.0 answer calls.1.0 calls.1.1 in
        let rest = through answers calls.0 new calls.2 in (first.0 ∙ rest.0, λ holds. rest.1 (first.1 holds))

    -- what each interrupted attempt keeps, all of them keep
    pub kept_before : (old new : F) (result : Option (Result ℕ Error)) (is : IsRetried step old result new)
        → (name old ≡ name is.before) × (P (value old) → P (value is.before))
    kept_before old new result is = through is.interrupted.answers old is.before is.interrupted.calls

  pub last_attempt : (old new : F) (result : Option (Result ℕ Error)) (answer : Result ℕ Error) → result ≡ Some answer → (is : IsRetried step old result new)
      → step is.before answer new
  last_attempt old new result answer given is = (subst (λ r. IsLastAttempt step is.before is.attempts r new) given is.last).1

  pub no_last_attempt : (old new : F) (result : Option (Result ℕ Error)) → result ≡ None → (is : IsRetried step old result new) → is.before ≡ new
  no_last_attempt old new result given is = (subst (λ r. IsLastAttempt step is.before is.attempts r new) given is.last).1
