-- Each act is an attempt that was requested.
use Rattle.std.proofs.Common.{◌≡◌, ◌∙◌, ℕ, Bool, true, false, List, [], ◌∷◌, ◌++◌, ◌⊎◌, inl, inr, refl, sym, ap, subst, append_assoc, append-nil}
use Rattle.command_types.specs.declared.commands.Command.{Command}
use Rattle.command_text.specs.Answering.{Fate, Done, NoMemory, Reply, ServerState}
use Rattle.recover.specs.Sessions.{SessionValue}
use Rattle.recover.specs.declared.replies.Reply.{Reply as SessionReply}
use Rattle.command_server.specs.Acts.{Act, Applied, Text, IsPrefixOf, IsAttempt, executed_of, fates_of}
use Rattle.command_server.specs.ServeContract.{AreRequested, as_server_state, preceded}
use Rattle.command_server.proofs.ActLemmas.{begins_as, begins_after, carried_both, fates_before}
use Rattle.command_server.proofs.TurnLemmas.{all_on, begins_on, either_part}

module _ {D : Type 0} where
  pub requested_nothing : (s : SessionValue D) (f : ServerState → Reply) → AreRequested s f []
  requested_nothing s f = record { attempts = tt; next = at }
    where
      at : (front following : List Act) (command : Command) (reply : SessionReply) → [] ≡ front ++ Applied command reply ∷ following
          → (later : List Fate) → IsPrefixOf (executed_of front ++ command ∷ []) (f (as_server_state s (fates_of front ++ Done ∷ later))).commands
      at [] following command reply e later = absurd cc
      at (act ∷ front) following command reply e later = absurd cc

  pub requested_text : (s : SessionValue D) (f : ServerState → Reply) (some : Bool) → AreRequested s f (Text some ∷ [])
  requested_text s f some = record { attempts = (is_try some, tt); next = at }
    where
      is_try : (some : Bool) → IsAttempt (Text some)
      is_try true = (Done, refl)
      is_try false = (NoMemory, refl)

      at : (front following : List Act) (command : Command) (reply : SessionReply) → Text some ∷ [] ≡ front ++ Applied command reply ∷ following
          → (later : List Fate) → IsPrefixOf (executed_of front ++ command ∷ []) (f (as_server_state s (fates_of front ++ Done ∷ later))).commands
      at [] following command reply e later = absurd cc
      at (act ∷ []) following command reply e later = absurd cc
      at (act ∷ more ∷ front) following command reply e later = absurd cc

  -- an operation is requested if its attempt succeeds
  pub requested_command : (s : SessionValue D) (f : ServerState → Reply) (command : Command) (reply : SessionReply) → IsAttempt (Applied command reply)
      → ((later : List Fate) → IsPrefixOf (command ∷ []) (f (as_server_state s (Done ∷ later))).commands) → AreRequested s f (Applied command reply ∷ [])
  requested_command s f command reply is_try begins = record { attempts = (is_try, tt); next = at }
    where
      at : (front following : List Act) (other : Command) (its : SessionReply) → Applied command reply ∷ [] ≡ front ++ Applied other its ∷ following
          → (later : List Fate) → IsPrefixOf (executed_of front ++ other ∷ []) (f (as_server_state s (fates_of front ++ Done ∷ later))).commands
      at [] following other its e later = let same : command ≡ other = cc in subst (λ c. IsPrefixOf (c ∷ []) (f (as_server_state s (Done ∷ later))).commands) same (begins later)
      at (act ∷ []) following other its e later = absurd cc
      at (act ∷ more ∷ front) following other its e later = absurd cc

  -- a longer reply requests everything that a shorter one requests
  pub requested_front : (s : SessionValue D) (f longer : ServerState → Reply) (acts : List Act)
      → ((fates : List Fate) → IsPrefixOf (f (as_server_state s fates)).commands (longer (as_server_state s fates)).commands) → AreRequested s f acts → AreRequested s longer acts
  requested_front s f longer acts more p = record {
    attempts = p.attempts;
    next = λ front following command reply e later.
        let fates : List Fate = fates_of front ++ Done ∷ later in
        begins_on (executed_of front ++ command ∷ []) (f (as_server_state s fates)).commands (longer (as_server_state s fates)).commands (p.next front following command reply e later) (more fates);
  }

  pub requested_as : (s : SessionValue D) (f same : ServerState → Reply) (acts : List Act) → ((fates : List Fate) → same (as_server_state s fates) ≡ f (as_server_state s fates))
      → AreRequested s f acts → AreRequested s same acts
  requested_as s f same acts is p =
      requested_front s f same acts (λ fates. record { rest = []; whole = ap (λ (r : Reply). r.commands) (is fates) ∙ sym (append-nil (f (as_server_state s fates)).commands) }) p

  -- if acts and then others after them were requested, all of them in a row were requested
  pub requested_both : (a b : List Act) (first mid : SessionValue D) (f g : ServerState → Reply) (text : List ℕ)
      → ((later : List Fate) → f (as_server_state first (fates_of a ++ later)) ≡ preceded text (executed_of a) (g (as_server_state mid later)))
      → AreRequested first f a → AreRequested mid g b → AreRequested first f (a ++ b)
  requested_both a b first mid f g text says p q = record {
    attempts = all_on IsAttempt a b p.attempts q.attempts;
    next = λ front following command reply e later. at front following command reply later
        (either_part a b front (Applied command reply ∷ following) e);
  }
    where
      following_all : (front more following : List Act) (command : Command) (reply : SessionReply) (later : List Fate) → front ≡ a ++ more → b ≡ more ++ Applied command reply ∷ following
          → IsPrefixOf (executed_of front ++ command ∷ []) (f (as_server_state first (fates_of front ++ Done ∷ later))).commands
      following_all front more following command reply later is e =
          let fates : List Fate = fates_of more ++ Done ∷ later in
          let said : (f (as_server_state first (fates_of front ++ Done ∷ later))).commands ≡ executed_of a ++ (g (as_server_state mid fates)).commands =
          ap (λ done. (f (as_server_state first (fates_of done ++ Done ∷ later))).commands) is ∙ ap (λ fs. (f (as_server_state first fs)).commands) (fates_before a more (Done ∷ later))
          ∙ ap (λ (r : Reply). r.commands) (says fates) in
          let executed : executed_of front ++ command ∷ [] ≡ executed_of a ++ (executed_of more ++ command ∷ []) =
          ap (λ done. executed_of done ++ command ∷ []) is ∙ ap (λ cs. cs ++ command ∷ []) (carried_both a more) ∙ append_assoc (executed_of a) (executed_of more) (command ∷ []) in
          subst (λ cs. IsPrefixOf cs (f (as_server_state first (fates_of front ++ Done ∷ later))).commands) (sym executed)
          (begins_as (executed_of a ++ (executed_of more ++ command ∷ [])) _ _ said (begins_after (executed_of a) (executed_of more ++ command ∷ []) _ (q.next more following command reply e later)))

      at : (front following : List Act) (command : Command) (reply : SessionReply) (later : List Fate)
          → ((rest : List Act) × (a ≡ front ++ rest) × (Applied command reply ∷ following ≡ rest ++ b)) ⊎ ((more : List Act) × (front ≡ a ++ more) × (b ≡ more ++ Applied command reply ∷ following))
          → IsPrefixOf (executed_of front ++ command ∷ []) (f (as_server_state first (fates_of front ++ Done ∷ later))).commands
      at front following command reply later (inl ([], whole, e)) =
          following_all front [] following command reply later (sym (append-nil front) ∙ sym whole ∙ sym (append-nil a)) (sym e)
      at front following command reply later (inl (act ∷ rest, whole, e)) =
          let same : act ≡ Applied command reply = cc in
          p.next front rest command reply (whole ∙ ap (λ x. front ++ x ∷ rest) same) later
      at front following command reply later (inr (more, is, e)) = following_all front more following command reply later is e
