-- Lemmas about a command line that was not parsed: an error or help is printed, or nothing if memory ran out.
use Rattle.std.proofs.Common.{◌≡◌, ◌∙◌, ℕ, Bool, true, Result, Ok, Err, inl, inr, refl, ap, subst, arith}
use Rattle.std.specs.Prelude.{◌≢◌, ◌⊎◌, IfOk, MatchResult}
use Rattle.clap.specs.declared.error.kind.ErrorKind.{ErrorKind}
use Rattle.clap.specs.declared.error.kind.ErrorKind.TheVariants.{DisplayHelp, DisplayVersion, OutOfMemory}
use Rattle.command_line.specs.Invocations.{IsUsageStatus, usage_status_of}

-- If memory ran out, the status is 4, and nothing was printed on either stream.
pub no_memory_reported : {E W V : Type 0} (kind : ErrorKind) (reported : Result ℕ E) (status : ℕ) (old new : W) (before after : V) → kind ≡ OutOfMemory
    → (kind ≡ OutOfMemory → reported ≡ Ok 4) → (usage_status_of kind ≢ 0 → new ≡ old) → (usage_status_of kind ≢ 64 → after ≡ before)
    → MatchResult reported (λ s. status ≡ s) (λ e. status ≡ 3) → (status ≡ 4) × (new ≡ old) × (after ≡ before)
no_memory_reported kind reported status old new before after memory answered output errors is =
    let four : usage_status_of kind ≡ 4 = ap usage_status_of memory in (
      subst (λ t. MatchResult t (λ s. status ≡ s) (λ e. status ≡ 3)) (answered memory) is,
      output (λ e. absurd (omega (arith, four, e))),
      errors (λ e. absurd (omega (arith, four, e))),
    )

usage_statuses : (kind : ErrorKind) → (usage_status_of kind ≡ 0) ⊎ ((usage_status_of kind ≡ 4) ⊎ (usage_status_of kind ≡ 64))
usage_statuses DisplayHelp = inl refl
usage_statuses DisplayVersion = inl refl
usage_statuses OutOfMemory = inr (inl refl)
usage_statuses _ = inr (inr refl)

-- The status is 0 only if help was requested. The status determines which of the streams are unchanged.
pub usage_reported : {E W V N : Type 0} (is_help : Bool) (kind : ErrorKind) (reported : Result ℕ E) (status : ℕ) (old new : W) (before after : V)
    → (kind ≡ OutOfMemory) ⊎ (N × ((is_help ≡ true) ⊎ (usage_status_of kind ≡ 64))) → IfOk reported (λ s. s ≡ usage_status_of kind) → (usage_status_of kind ≢ 0 → new ≡ old)
    → (usage_status_of kind ≢ 64 → after ≡ before) → MatchResult reported (λ s. status ≡ s) (λ e. status ≡ 3)
    → (status ≡ 0 → after ≡ before) × (status ≡ 64 → new ≡ old) × (status ≡ 4 → (new ≡ old) × (after ≡ before))
    × (((status ≡ 0) × (is_help ≡ true)) ⊎ IsUsageStatus status)
usage_reported is_help kind (Ok s) status old new before after refusal given output errors is =
    let e : status ≡ usage_status_of kind = is ∙ given in (
      (λ z. errors (λ f. absurd (omega (arith, z, e, f)))),
      (λ z. output (λ f. absurd (omega (arith, z, e, f)))),
      (λ z. (output (λ f. absurd (omega (arith, z, e, f))), errors (λ f. absurd (omega (arith, z, e, f))))),
      elim refusal [
        | inl memory ↦ inr (inr (inr (e ∙ ap usage_status_of memory)))
        | inr none ↦ elim none.1 [
          | inr mistake ↦ inr (inl (e ∙ mistake))
          | inl help ↦ elim (usage_statuses kind) [
            | inl shown ↦ inl (e ∙ shown, help)
            | inr (inl memory) ↦ inr (inr (inr (e ∙ memory)))
            | inr (inr mistake) ↦ inr (inl (e ∙ mistake))
          ]
        ]
      ],
    )
usage_reported is_help kind (Err refused) status old new before after refusal given output errors is = (
  (λ z. absurd (omega (arith, z, is))),
  (λ z. absurd (omega (arith, z, is))),
  (λ z. absurd (omega (arith, z, is))),
  inr (inr (inl is)),
)
