-- Joining lists of turns joins their texts.
use Rattle.std.proofs.Common.{◌≡◌, ◌∙◌, ℕ, ◌≤◌, List, [], ◌∷◌, ◌++◌, ◌⊎◌, inl, inr, length, refl, sym, ap, ap₂, subst, arith, append_assoc, append-nil}
use Rattle.std.specs.List.{AllByRecursion, concat}
use Rattle.std.proofs.lemmas.Grind.{flat_map-append}
use Rattle.sector_disk.specs.declared.sectors.Sectors as sectors
use Rattle.command_text.specs.Answering.{Fate, Reply, ServerState}
use Rattle.recover.specs.Composition.{IsRunOn}
use Rattle.recover.specs.Sessions.{SessionValue}
use Rattle.recover.specs.declared.replies.Reply.{Reply as SessionReply}
use Rattle.command_server.specs.Acts.{Act, Applied, Text, IsPrefixOf, IsTurn, Turn, acts_by, acts_in, executed_of, commands_of, events_by, events_in, fates_of, replies_of, text_by, text_in}
use Rattle.command_server.specs.ServeContract.{AreReported, Begins, as_server_state, preceded}
use Rattle.command_server.proofs.ActLemmas.{begins_as, begins_at_all, carried_both, fates_before}

-- ---- lists

-- a prefix of two joined lists ends within the first one or after it
pub either_part : {X : Type 0} (a b some others : List X) → a ++ b ≡ some ++ others
    → ((rest : List X) × (a ≡ some ++ rest) × (others ≡ rest ++ b)) ⊎ ((more : List X) × (some ≡ a ++ more) × (b ≡ more ++ others))
either_part [] b some others e = inr (some, refl, e)
either_part (x ∷ a) b [] others e = inl (x ∷ a, refl, sym e)
either_part (x ∷ a) b (y ∷ some) others e =
    let first : x ≡ y = cc in
    let following : a ++ b ≡ some ++ others = cc in
    at first (either_part a b some others following)
  where
    at : x ≡ y → ((rest : List _) × (a ≡ some ++ rest) × (others ≡ rest ++ b)) ⊎ ((more : List _) × (some ≡ a ++ more) × (b ≡ more ++ others))
        → ((rest : List _) × (x ∷ a ≡ (y ∷ some) ++ rest) × (others ≡ rest ++ b)) ⊎ ((more : List _) × (y ∷ some ≡ (x ∷ a) ++ more) × (b ≡ more ++ others))
    at first (inl p) = inl (p.0, ap₂ (λ h t. h ∷ t) first p.1, p.2)
    at first (inr p) = inr (p.0, ap₂ (λ h t. h ∷ t) (sym first) p.1, p.2)

one_or_none : {X : Type 0} (x : X) (some others : List X) → x ∷ [] ≡ some ++ others → (some ≡ []) ⊎ (some ≡ x ∷ [])
one_or_none x [] others e = inl refl
one_or_none x (y ∷ []) others e = let same : x ≡ y = cc in inr (ap (λ z. z ∷ []) (sym same))
one_or_none x (y ∷ z ∷ some) others e = absurd cc

pub all_on : {X : Type 0} (P : X → Type 0) (xs ys : List X) → AllByRecursion P xs → AllByRecursion P ys → AllByRecursion P (xs ++ ys)
all_on P [] ys p q = q
all_on P (x ∷ xs) ys p q = (p.0, all_on P xs ys p.1 q)

-- a reply is a prefix of another one
pub record IsFront (front all : Reply) : Type 0 where
  pub text : IsPrefixOf front.text all.text
  pub commands : IsPrefixOf front.commands all.commands

pub begins_on : {X : Type 0} (a b c : List X) → IsPrefixOf a b → IsPrefixOf b c → IsPrefixOf a c
begins_on a b c p q = record { rest = p.rest ++ q.rest; whole = q.whole ∙ ap (λ l. l ++ q.rest) p.whole ∙ append_assoc a p.rest q.rest }

-- ---- turns that join

pub acts_both : (a b : List Turn) → acts_by (a ++ b) ≡ acts_by a ++ acts_by b
acts_both a b = flat_map-append acts_in a b

pub text_both : (a b : List Turn) → text_by (a ++ b) ≡ text_by a ++ text_by b
text_both a b = flat_map-append text_in a b

pub events_both : (a b : List Turn) → events_by (a ++ b) ≡ events_by a ++ events_by b
events_both a b = flat_map-append events_in a b

module _ {D : Type 0} where
  pub reported_nothing : (s : SessionValue D) (f : ServerState → Reply) → AreReported s f [] [] []
  reported_nothing s f = record {
    does = refl;
    says = refl;
    each = tt;
    front = λ some others e later. at some others e later;
  }
    where
      at : (some others : List Turn) → [] ≡ some ++ others → (later : List Fate) → Begins (text_by some) (acts_by some) (f (as_server_state s (fates_of (acts_by some) ++ later)))
      at [] others e later = record { text = begins_at_all _; commands = begins_at_all _ }
      at (turn ∷ some) others e later = absurd cc

  pub reported_both : (a b : SessionValue D) (f g : ServerState → Reply) (p q : List Act) (t u : List ℕ) (first second : List Turn) → AreReported a f p t first
      → ((later : List Fate) → f (as_server_state a (fates_of p ++ later)) ≡ preceded t (executed_of p) (g (as_server_state b later))) → AreReported b g q u second → AreReported a f (p ++ q) (t ++ u) (first ++ second)
  reported_both a b f g p q t u first second m says n = record {
    does = ap₂ (λ x y. x ++ y) m.does n.does ∙ sym (acts_both first second);
    says = ap₂ (λ x y. x ++ y) m.says n.says ∙ sym (text_both first second);
    each = all_on IsTurn first second m.each n.each;
    front = λ some others e later. at some others later (either_part first second some others e);
  }
    where
      at : (some others : List Turn) (later : List Fate)
          → ((rest : List Turn) × (first ≡ some ++ rest) × (others ≡ rest ++ second))
          ⊎ ((more : List Turn) × (some ≡ first ++ more) × (second ≡ more ++ others))
          → Begins (text_by some) (acts_by some) (f (as_server_state a (fates_of (acts_by some) ++ later)))
      at some others later (inl c) = m.front some c.0 c.1 later
      at some others later (inr c) =
          let more : List Turn = c.0 in
          let begins = n.front more others c.2 later in
          let acts : acts_by some ≡ p ++ acts_by more = ap acts_by c.1 ∙ acts_both first more ∙ ap (λ l. l ++ acts_by more) (sym m.does) in
          let text : text_by some ≡ t ++ text_by more = ap text_by c.1 ∙ text_both first more ∙ ap (λ l. l ++ text_by more) (sym m.says) in
          let executed : executed_of (acts_by some) ≡ executed_of p ++ executed_of (acts_by more) = ap executed_of acts ∙ carried_both p (acts_by more) in
          let said : f (as_server_state a (fates_of (acts_by some) ++ later)) ≡ preceded t (executed_of p) (g (as_server_state b (fates_of (acts_by more) ++ later))) =
          ap (λ done. f (as_server_state a (fates_of done ++ later))) acts ∙ ap (λ fates. f (as_server_state a fates)) (fates_before p (acts_by more) later) ∙ says (fates_of (acts_by more) ++ later) in
          record {
            text = record {
              rest = begins.text.rest;
              whole = ap (λ (r : Reply). r.text) said ∙ ap (λ l. t ++ l) begins.text.whole ∙ sym (append_assoc t (text_by more) begins.text.rest) ∙ ap (λ l. l ++ begins.text.rest) (sym text);
            };
            commands = record {
              rest = begins.commands.rest;
              whole = ap (λ (r : Reply). r.commands) said ∙ ap (λ l. executed_of p ++ l) begins.commands.whole ∙ sym (append_assoc (executed_of p) (executed_of (acts_by more)) begins.commands.rest)
                  ∙ ap (λ l. l ++ begins.commands.rest) (sym executed);
            };
          }

  -- in `AreReported`, the reply may be replaced by an equal one
  pub reported_as : (a : SessionValue D) (f same : ServerState → Reply) (p : List Act) (t : List ℕ) (turns : List Turn)
      → ((fates : List Fate) → same (as_server_state a fates) ≡ f (as_server_state a fates)) → AreReported a f p t turns → AreReported a same p t turns
  reported_as a f same p t turns is m = record {
    does = m.does;
    says = m.says;
    each = m.each;
    front = λ some others e later.
        let same_reply = is (fates_of (acts_by some) ++ later) in
        let first = m.front some others e later in
        record {
          text = begins_as (text_by some) _ _ (ap (λ (r : Reply). r.text) same_reply) first.text;
          commands = begins_as (executed_of (acts_by some)) _ _ (ap (λ (r : Reply). r.commands) same_reply) first.commands;
        };
  }

  -- in `AreReported`, the reply may be replaced by a longer one
  pub reported_before : (a : SessionValue D) (f longer : ServerState → Reply) (p : List Act) (t : List ℕ) (turns : List Turn)
      → ((s : ServerState) → IsFront (f s) (longer s)) → AreReported a f p t turns → AreReported a longer p t turns
  reported_before a f longer p t turns more m = record {
    does = m.does;
    says = m.says;
    each = m.each;
    front = λ some others e later.
        let s = as_server_state a (fates_of (acts_by some) ++ later) in
        let first = m.front some others e later in
        let second = more s in
        record {
          text = begins_on (text_by some) (f s).text (longer s).text first.text second.text;
          commands = begins_on (executed_of (acts_by some)) (f s).commands (longer s).commands first.commands second.commands;
        };
  }

  -- a single turn reports its act
  pub reported_once : (a : SessionValue D) (f : ServerState → Reply) (p : List Act) (t : List ℕ) (texts : List (List ℕ)) (calls : ℕ)
      → IsTurn (record { acts = p; texts = texts; calls = calls }) → concat texts ≡ t
      → ((later : List Fate) → Begins t p (f (as_server_state a (fates_of p ++ later)))) → AreReported a f p t (record { acts = p; texts = texts; calls = calls } ∷ [])
  reported_once a f p t texts calls is whole begins = record {
    does = sym (append-nil p);
    says = sym whole ∙ sym (append-nil (concat texts));
    each = (is, tt);
    front = λ some others e later. at some later (one_or_none turn some others e);
  }
    where
      turn : Turn
      turn = record { acts = p; texts = texts; calls = calls }

      at : (some : List Turn) (later : List Fate) → (some ≡ []) ⊎ (some ≡ record { acts = p; texts = texts; calls = calls } ∷ [])
          → Begins (text_by some) (acts_by some) (f (as_server_state a (fates_of (acts_by some) ++ later)))
      at some later (inl none) =
          subst (λ l. Begins (text_by l) (acts_by l) (f (as_server_state a (fates_of (acts_by l) ++ later)))) (sym none) (record { text = begins_at_all _; commands = begins_at_all _ })
      at some later (inr one) =
          let b = begins later in
          let same : f (as_server_state a (fates_of (p ++ []) ++ later)) ≡ f (as_server_state a (fates_of p ++ later)) = ap (λ done. f (as_server_state a (fates_of done ++ later))) (append-nil p) in
          subst (λ l. Begins (text_by l) (acts_by l) (f (as_server_state a (fates_of (acts_by l) ++ later)))) (sym one)
          (record {
            text = record { rest = b.text.rest; whole = ap (λ (r : Reply). r.text) same ∙ b.text.whole ∙ ap (λ l. l ++ b.text.rest) (sym whole ∙ sym (append-nil (concat texts))) };
            commands = record { rest = b.commands.rest; whole = ap (λ (r : Reply). r.commands) same ∙ b.commands.whole ∙ ap (λ l. executed_of l ++ b.commands.rest) (sym (append-nil p)) };
          })

-- ---- a turn of one act

module _ {D : Type 0} (on : sectors.Ghosts D) where
  finished : (acts : List Act) (a b : SessionValue D) → length acts ≤ 1 → IsRunOn on a (commands_of acts) (replies_of acts) b
      → AllByRecursion (λ (reply : SessionReply). reply.calls ≡ on.calls b.device) (replies_of acts)
  finished [] a b few run = tt
  finished (Text some ∷ []) a b few run = tt
  finished (Applied command reply ∷ []) a b few run = (run.1.count ∙ ap (λ (s : SessionValue D). on.calls s.device) (sym run.2), tt)
  finished (first ∷ second ∷ acts) a b few run = absurd (omega (arith, few))

  pub is_turn : (acts : List Act) (texts : List (List ℕ)) (a b : SessionValue D) → length acts ≤ 1 → IsRunOn on a (commands_of acts) (replies_of acts) b
      → IsTurn (record { acts = acts; texts = texts; calls = on.calls b.device })
  is_turn acts texts a b few run = record { few = few; finished = finished acts a b few run }
