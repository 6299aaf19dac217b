-- Lemmas about printed lines.
use Rattle.std.proofs.Common.{◌≡◌, ◌∙◌, inl, ◌<◌, ◌||◌, ℕ, Bool, true, false, true≢false, List, ◌++◌, Option, Some, None, Result, Ok, Err, refl, sym, ap, subst, arith, append_assoc}
use Rattle.std.specs.Prelude.{◌≢◌, ◌↔◌, IfErr, IfOk, IsErrOf, MatchResult, OnOk}
use Rattle.std.specs.Result.{result_err}
use Rattle.std.specs.Io.KnownBytes.{Appends}
use Rattle.std.proofs.KnownBytes.{Appends-trans}
use Rattle.checkpoint.specs.Layouts.{version_2, sectors_in}
use Rattle.command_core.specs.Effects.{effect}
use Rattle.command_types.specs.declared.commands.Command.{Command}
use Rattle.command_types.specs.declared.states.State.{State}
use Rattle.command_types.specs.declared.states.State.TheVariants.{Empty, Loaded}
use Rattle.command_server.specs.ServeContract.{EndsOrIsCut, HasCause}
use Rattle.command_text.specs.Readings.{Reading}
use Rattle.command_server.specs.Streams.{Stream}
use Rattle.command_server.specs.Strict.{is_failed_answer}
use Rattle.command_server.specs.declared.answering.ServeFault.{ServeFault}
use Rattle.command_server.specs.declared.answering.ServeFault.TheVariants as fault
use Rattle.command_server.specs.declared.strict.FailedAnswer.{FailedAnswer}
use Rattle.planner_cli.specs.Load.{holds_instance}
use Rattle.command_line.specs.Invocations.{InvocationValue, upgrade}
use Rattle.planner_cli.specs.Run.{stop_unless_failed}
use Rattle.planner_cli.specs.Statuses.{CanEndWith}
use Rattle.planner_cli.specs.Messages.{WritesPrefix, PrintsText}
use Rattle.recover.specs.Applying.{Makes}
use Rattle.recover.specs.Sessions.{SessionValue}
use Rattle.recover.specs.declared.denials.Denial.{Denial}
use Rattle.sector_disk.specs.declared.sectors.Sectors as sectors

-- A strict writer reports a failure if its own writer has failed.
failed_anyway : (writer : Bool) (failed_answer : Option FailedAnswer) → writer ≡ true → (writer || is_failed_answer failed_answer) ≡ true
failed_anyway true failed_answer is = refl
failed_anyway false failed_answer is = absurd (true≢false (sym is))

pub unless_stopped : {T : Type 0} (served : Result T ServeFault) (reader writer : Bool) (len : ℕ) → IfErr served (λ f. HasCause f reader writer len)
    → IfErr served (λ f. HasCause f reader (writer || is_failed_answer None) len)
unless_stopped (Ok done) reader writer len cause = tt
unless_stopped (Err fault.ReadFault) reader writer len cause = cause
unless_stopped (Err fault.WriteFault) reader writer len cause = failed_anyway writer None cause

-- If a strict writer has failed, its own writer has failed or the run ended at a failed answer.
one_of_both : (writer : Bool) (reported failed_answer : Option FailedAnswer) → failed_answer ≡ stop_unless_failed writer reported → (writer || is_failed_answer reported) ≡ true → (writer || is_failed_answer failed_answer) ≡ true
one_of_both true reported failed_answer is failed = refl
one_of_both false reported failed_answer is failed = ap is_failed_answer is ∙ failed

pub stopped_by : {T : Type 0} (served : Result T ServeFault) (reader writer : Bool) (reported failed_answer : Option FailedAnswer) (len : ℕ) → failed_answer ≡ stop_unless_failed writer reported
    → IfErr served (λ f. HasCause f reader (writer || is_failed_answer reported) len) → IfErr served (λ f. HasCause f reader (writer || is_failed_answer failed_answer) len)
stopped_by (Ok done) reader writer reported failed_answer len is cause = tt
stopped_by (Err fault.ReadFault) reader writer reported failed_answer len is cause = cause
stopped_by (Err fault.WriteFault) reader writer reported failed_answer len is cause = one_of_both writer reported failed_answer is cause

pub stopped_out : {T : Type 0} (served : Result T ServeFault) (reader writer out : Bool) (reported failed_answer : Option FailedAnswer) (len : ℕ) → out ≡ writer → failed_answer ≡ stop_unless_failed writer reported
    → IfErr served (λ f. HasCause f reader (writer || is_failed_answer reported) len) → IfErr served (λ f. HasCause f reader (out || is_failed_answer failed_answer) len)
stopped_out served reader writer out reported failed_answer len same is cause =
    subst (λ (b : Bool). IfErr served (λ f. HasCause f reader (b || is_failed_answer failed_answer) len)) (sym same) (stopped_by served reader writer reported failed_answer len is cause)

-- The guarantee of serving also holds for equal streams.
pub served_between : {T D : Type 0} (on : sectors.Ghosts D) (served : Result T ServeFault) (reading : Reading) (old new : SessionValue D) (input : List ℕ) (b b' a a' : Stream) → b' ≡ b → a' ≡ a
    → EndsOrIsCut on served reading old input b' a' new → EndsOrIsCut on served reading old input b a new
served_between on served reading old new input b b' a a' first last given =
    subst (λ (x : Stream). EndsOrIsCut on served reading old input x a new) first (subst (λ (x : Stream). EndsOrIsCut on served reading old input b' x new) last given)

-- A device with the sectors of a store is not too small.
pub not_too_small : {T E : Type 0} (made : Result T E) (fault : E) (len : ℕ) → IsErrOf made fault ↔ (len < sectors_in version_2) → len ≡ sectors_in version_2 → result_err made ≢ Some fault
not_too_small (Ok x) fault len small is reported = absurd cc
not_too_small (Err f) fault len small is reported = let same : f ≡ fault = cc in absurd (omega (arith, is, small.0 (ap (λ x. Err x) same)))

-- If two equal errors are pairs, their parts are equal.
pub same_parts : {T A B : Type 0} (r s : Result T (A × B)) (a b : A) (x y : B) → r ≡ Err (a, x) → s ≡ Err (b, y) → r ≡ s → (a ≡ b) × (x ≡ y)
same_parts {T} {A} {B} r s a b x y er es e =
    let same : (a, x) ≡ (b, y) = cc in
    (ap (λ (p : A × B). p.0) same, ap (λ (p : A × B). p.1) same)

pub is_empty : (s : State) → holds_instance s ≡ false → s ≡ Empty
is_empty Empty e = refl
is_empty (Loaded job) e = absurd (true≢false e)

-- After `Ok`, a property of the new state holds for the effect of the command on the empty state.
pub begun : {T D : Type 0} (answer : Result T Denial) (old new : SessionValue D) (command : Command) (Holds : State → Type 0) → old.state ≡ Empty → Makes answer old command new
    → (new.is_broken ≡ false → Holds new.state) → OnOk answer (Holds (effect Empty command))
begun (Ok done) old new command Holds empty makes recovers = subst Holds (makes.state ∙ ap (λ s. effect s command) empty) (recovers makes.is_broken)
begun (Err denial) old new command Holds empty makes recovers = tt

-- ---- A text, or a prefix of it

-- A prefix of the first text is a prefix of both texts.
pub part_front : (x y : List ℕ) (before after : Option (List ℕ)) → WritesPrefix x before after → WritesPrefix (x ++ y) before after
part_front x y before after p = record {
  part = p.part;
  rest = p.rest ++ y;
  whole = sym (append_assoc p.part p.rest y) ∙ ap (λ l. l ++ y) p.whole;
  put = p.put;
}

-- The whole first text and a prefix of the second one are a prefix of both.
pub part_after : (x y : List ℕ) (before mid after : Option (List ℕ)) → Appends before mid x → WritesPrefix y mid after → WritesPrefix (x ++ y) before after
part_after x y before mid after first p = record {
  part = x ++ p.part;
  rest = p.rest;
  whole = append_assoc x p.part p.rest ∙ ap (λ l. x ++ l) p.whole;
  put = Appends-trans before mid after x p.part first p.put;
}

pub cut_short : {E : Type 0} (text : List ℕ) (status : ℕ) (before after : Option (List ℕ)) (reported : Result ℕ E) (error : E) → reported ≡ Err error → WritesPrefix text before after
    → PrintsText text status before after reported
cut_short text status before after reported error is part = subst (PrintsText text status before after) (sym is) (tt, part)

pub told_after : {E : Type 0} (x y : List ℕ) (status : ℕ) (before mid after : Option (List ℕ)) (reported : Result ℕ E) → Appends before mid x → PrintsText y status mid after reported
    → PrintsText (x ++ y) status before after reported
told_after x y status before mid after (Ok given) first reported = ((reported.0.0, Appends-trans before mid after x y first reported.0.1), tt)
told_after x y status before mid after (Err error) first reported = (tt, part_after x y before mid after first reported.1)

-- A report to a writer that was taken out of its wrapper is a report to the wrapped writer.
pub reported_apart : {W : Type 0} (contents : W → Option (List ℕ)) (Reports : Option (List ℕ) → Option (List ℕ) → Type 0) (a b c d : W) → b ≡ a → d ≡ c
    → Reports (contents b) (contents c) → Reports (contents a) (contents d)
reported_apart contents Reports a b c d first last reported =
    subst (λ x. Reports x (contents d)) (ap contents first) (subst (λ x. Reports (contents b) x) (sym (ap contents last)) reported)

-- Each subcommand can end with status 3.
three_can : (requested : InvocationValue) → CanEndWith requested 3
three_can (upgrade old new) = inl (omega arith)
three_can _ = omega arith

-- The exit status is one with which the subcommand can end, also if an answer could not be printed.
pub status_can : {X : Type 0} (requested : InvocationValue) (reported : Result ℕ X) (status : ℕ) → IfOk reported (CanEndWith requested)
    → MatchResult reported (λ printed. status ≡ printed) (λ error. status ≡ 3) → CanEndWith requested status
status_can requested (Ok printed) status can ends = subst (CanEndWith requested) (sym ends) can
status_can requested (Err error) status can ends = subst (CanEndWith requested) (sym ends) (three_can requested)
