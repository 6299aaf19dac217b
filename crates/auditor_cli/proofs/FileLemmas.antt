-- Lemmas about the lines that are printed for two files, for any relation between their texts and the answer.
use Rattle.std.proofs.Common.{◌≡◌, ℕ, List, Option, refl, inl, inr, subst}
use Rattle.std.specs.declared.io.ErrorKind.{ErrorKind}
use Rattle.auditor_cli.specs.Files.{AreBothRead, IsUnread, PrintsFilesBy, PrintsTextsBy}
use Rattle.auditor_cli.specs.Reads.{FileRead}
use Rattle.auditor_cli.specs.Messages.{PrintsReadFailure, read_failure_line}
use Rattle.auditor_cli.specs.declared.answer.AuditAnswer.{AuditAnswer}

module _ (IsAnswered : List ℕ → List ℕ → AuditAnswer → Type 0) (instance solution : List ℕ) (was now : List FileRead) (before after : Option (List ℕ)) (status : ℕ) where
  pub unread_reported : (path : List ℕ) (kind : ErrorKind) → IsUnread instance solution path kind was now → PrintsReadFailure path kind before after status
      → PrintsFilesBy IsAnswered instance solution was now before after status
  unread_reported path kind unread reported = (read_failure_line path kind, inr (path, kind, unread, refl, reported.0), reported.1)

  -- The texts are slices of the bytes that were read, and so equal to them.
  pub texts_reported : (x y text other : List ℕ) → text ≡ x → other ≡ y → AreBothRead instance solution x y was now → PrintsTextsBy IsAnswered text other before after status
      → PrintsFilesBy IsAnswered instance solution was now before after status
  texts_reported x y text other is_x is_y both reported =
      let texts = subst (λ t. PrintsTextsBy IsAnswered t y before after status) is_x (subst (λ t. PrintsTextsBy IsAnswered text t before after status) is_y reported) in
      (texts.0, inl (x, y, both, texts.1), texts.2)
