-- Joining lists of acts joins their operations, fates and runs.
use Rattle.std.proofs.Common.{◌≡◌, ◌∙◌, ℕ, true, false, List, [], ◌∷◌, ◌++◌, ◌⊎◌, inl, inr, Result, Ok, Err, refl, sym, ap, subst, append_assoc}
use Rattle.std.proofs.lemmas.Grind.{flat_map-append}
use Rattle.sector_disk.specs.declared.sectors.Sectors as sectors
use Rattle.command_types.specs.declared.commands.Command.{Command}
use Rattle.command_text.specs.Answering.{Fate, Done, NoMemory, Reply, ServerState}
use Rattle.command_text.specs.Answering.{Spent as SpentFate}
use Rattle.recover.specs.Composition.{IsRunOn}
use Rattle.recover.specs.Sessions.{SessionValue}
use Rattle.recover.specs.declared.denials.Denial.{Denial}
use Rattle.recover.specs.declared.denials.Denial.TheVariants.{Broken, Core, DeviceFault, OutOfMemory, Spent}
use Rattle.recover.specs.declared.replies.Reply.{Reply as SessionReply}
use Rattle.command_server.specs.Acts.{
  Act,
  Applied,
  Text,
  IsPrefixOf,
  executed_in,
  executed_of,
  commands_in,
  commands_of,
  fates_in,
  fates_of,
  without_failure,
  kept_of,
  replies_in,
  replies_of,
  without_failures,
}
use Rattle.command_server.specs.ServeContract.{as_server_state, preceded}

-- ---- prefixes of lists

pub begins_at_all : {X : Type 0} (all : List X) → IsPrefixOf [] all
begins_at_all all = record { rest = all; whole = refl }

pub begins_as : {X : Type 0} (front all same : List X) → same ≡ all → IsPrefixOf front all → IsPrefixOf front same
begins_as front all same is p = record { rest = p.rest; whole = is ∙ p.whole }

pub begins_before : {X : Type 0} (front all more : List X) → IsPrefixOf front all → IsPrefixOf front (all ++ more)
begins_before front all more p = record { rest = p.rest ++ more; whole = ap (λ cs. cs ++ more) p.whole ∙ append_assoc front p.rest more }

pub begins_after : {X : Type 0} (done front all : List X) → IsPrefixOf front all → IsPrefixOf (done ++ front) (done ++ all)
begins_after done front all p = record { rest = p.rest; whole = ap (λ cs. done ++ cs) p.whole ∙ sym (append_assoc done front p.rest) }

-- ---- acts that join

pub fates_both : (a b : List Act) → fates_of (a ++ b) ≡ fates_of a ++ fates_of b
fates_both a b = flat_map-append fates_in a b

pub commands_both : (a b : List Act) → commands_of (a ++ b) ≡ commands_of a ++ commands_of b
commands_both a b = flat_map-append commands_in a b

pub replies_both : (a b : List Act) → replies_of (a ++ b) ≡ replies_of a ++ replies_of b
replies_both a b = flat_map-append replies_in a b

pub carried_both : (a b : List Act) → executed_of (a ++ b) ≡ executed_of a ++ executed_of b
carried_both a b = flat_map-append executed_in a b

unfailed_both : (a b : List Fate) → without_failures (a ++ b) ≡ without_failures a ++ without_failures b
unfailed_both [] b = refl
unfailed_both (fate ∷ fates) b = ap (λ fs. without_failure fate ∷ fs) (unfailed_both fates b)

pub fates_before : (a b : List Act) (later : List Fate) → fates_of (a ++ b) ++ later ≡ fates_of a ++ (fates_of b ++ later)
fates_before a b later = ap (λ fs. fs ++ later) (fates_both a b) ∙ append_assoc (fates_of a) (fates_of b) later

unfailed_before : (a b : List Act) (later : List Fate) → without_failures (fates_of (a ++ b)) ++ later ≡ without_failures (fates_of a) ++ (without_failures (fates_of b) ++ later)
unfailed_before a b later =
    ap (λ fs. without_failures fs ++ later) (fates_both a b) ∙ ap (λ fs. fs ++ later) (unfailed_both (fates_of a) (fates_of b)) ∙ append_assoc (without_failures (fates_of a)) (without_failures (fates_of b)) later

-- The device failed within the first acts and nothing after them is kept, or it did not fail.
abbrev KeptBoth : List Act → List Act → Type 0
KeptBoth a b = (kept_of (a ++ b) ≡ kept_of a) ⊎ ((kept_of (a ++ b) ≡ executed_of a ++ kept_of b) × (without_failures (fates_of a) ≡ fates_of a))

kept_both : (a b : List Act) → KeptBoth a b
kept_both [] b = inr (refl, refl)
kept_both (Text true ∷ acts) b = following (kept_both acts b)
  where
    following : KeptBoth acts b → KeptBoth (Text true ∷ acts) b
    following (inl same) = inl same
    following (inr on) = inr (on.0, ap (λ fs. Done ∷ fs) on.1)
kept_both (Text false ∷ acts) b = following (kept_both acts b)
  where
    following : KeptBoth acts b → KeptBoth (Text false ∷ acts) b
    following (inl same) = inl same
    following (inr on) = inr (on.0, ap (λ fs. NoMemory ∷ fs) on.1)
kept_both (Applied command reply ∷ acts) b = by_answer reply.answer reply.calls (kept_both acts b)
  where
    by_answer : (answer : Result (Unit {0}) Denial) (n : ℕ) → KeptBoth acts b → KeptBoth (Applied command (record { answer = answer; calls = n }) ∷ acts) b
    by_answer (Ok done) n (inl same) = inl (ap (λ cs. command ∷ cs) same)
    by_answer (Ok done) n (inr on) = inr (ap (λ cs. command ∷ cs) on.0, ap (λ fs. Done ∷ fs) on.1)
    by_answer (Err DeviceFault) n more = inl refl
    by_answer (Err OutOfMemory) n (inl same) = inl same
    by_answer (Err OutOfMemory) n (inr on) = inr (on.0, ap (λ fs. NoMemory ∷ fs) on.1)
    by_answer (Err Spent) n (inl same) = inl same
    by_answer (Err Spent) n (inr on) = inr (on.0, ap (λ fs. SpentFate ∷ fs) on.1)
    by_answer (Err Broken) n more = more
    by_answer (Err (Core refusal)) n more = more

-- The operations that are requested if the device does not fail begin with those that both lists of acts keep.
pub requests_both : {D : Type 0} (a b : List Act) (first mid : SessionValue D) (f g : ServerState → Reply) (text : List ℕ)
    → ((later : List Fate) → f (as_server_state first (fates_of a ++ later)) ≡ preceded text (executed_of a) (g (as_server_state mid later)))
    → ((later : List Fate) → IsPrefixOf (kept_of a) (f (as_server_state first (without_failures (fates_of a) ++ later))).commands)
    → ((later : List Fate) → IsPrefixOf (kept_of b) (g (as_server_state mid (without_failures (fates_of b) ++ later))).commands)
    → (later : List Fate) → IsPrefixOf (kept_of (a ++ b)) (f (as_server_state first (without_failures (fates_of (a ++ b)) ++ later))).commands
requests_both a b first mid f g text says requests_kept more later = by (kept_both a b)
  where
    whole : (f (as_server_state first (without_failures (fates_of (a ++ b)) ++ later))).commands ≡ (f (as_server_state first (without_failures (fates_of a) ++ (without_failures (fates_of b) ++ later)))).commands
    whole = ap (λ fates. (f (as_server_state first fates)).commands) (unfailed_before a b later)

    by : KeptBoth a b → IsPrefixOf (kept_of (a ++ b)) (f (as_server_state first (without_failures (fates_of (a ++ b)) ++ later))).commands
    by (inl same) = subst (λ cs. IsPrefixOf cs (f (as_server_state first (without_failures (fates_of (a ++ b)) ++ later))).commands) (sym same)
        (begins_as (kept_of a) _ _ whole (requests_kept (without_failures (fates_of b) ++ later)))
    by (inr on) =
        let said : (f (as_server_state first (without_failures (fates_of a) ++ (without_failures (fates_of b) ++ later)))).commands ≡ executed_of a ++ (g (as_server_state mid (without_failures (fates_of b) ++ later))).commands =
        ap (λ fates. (f (as_server_state first (fates ++ (without_failures (fates_of b) ++ later)))).commands) on.1 ∙ ap (λ (r : Reply). r.commands) (says (without_failures (fates_of b) ++ later)) in
        subst (λ cs. IsPrefixOf cs (f (as_server_state first (without_failures (fates_of (a ++ b)) ++ later))).commands) (sym on.0)
        (begins_as (executed_of a ++ kept_of b) _ _ (whole ∙ said) (begins_after (executed_of a) (kept_of b) _ (more later)))

-- ---- runs that join

module _ {D : Type 0} (on : sectors.Ghosts D) where
  runs_on : (old mid new : SessionValue D) (commands more : List Command) (answers later : List SessionReply)
      → IsRunOn on old commands answers mid → IsRunOn on mid more later new → IsRunOn on old (commands ++ more) (answers ++ later) new
  runs_on old mid new [] more [] later first second = subst (λ (s : SessionValue D). IsRunOn on s more later new) first second
  runs_on old mid new (command ∷ commands) more (reply ∷ answers) later first second = (first.0, first.1, runs_on first.0 mid new commands more answers later first.2 second)
  runs_on old mid new [] more (reply ∷ answers) later first second = elim first [ ]
  runs_on old mid new (command ∷ commands) more [] later first second = elim first [ ]

  pub run_both : (old mid new : SessionValue D) (a b : List Act) → IsRunOn on old (commands_of a) (replies_of a) mid → IsRunOn on mid (commands_of b) (replies_of b) new
      → IsRunOn on old (commands_of (a ++ b)) (replies_of (a ++ b)) new
  run_both old mid new a b first second =
      subst (λ cs. IsRunOn on old cs (replies_of (a ++ b)) new) (sym (commands_both a b))
      (subst (λ rs. IsRunOn on old (commands_of a ++ commands_of b) rs new) (sym (replies_both a b))
      (runs_on old mid new (commands_of a) (commands_of b) (replies_of a) (replies_of b) first second))

  -- if a device is honest after a run, it was honest before it
  pub honest_before : (commands : List Command) (answers : List SessionReply) (old new : SessionValue D) → IsRunOn on old commands answers new → on.honest new.device → on.honest old.device
  honest_before [] [] old new run h = subst (λ (s : SessionValue D). on.honest s.device) run h
  honest_before (command ∷ commands) (reply ∷ answers) old new run h = run.1.called.honest_before (honest_before commands answers run.0 new run.2 h)
  honest_before [] (reply ∷ answers) old new run h = elim run [ ]
  honest_before (command ∷ commands) [] old new run h = elim run [ ]
