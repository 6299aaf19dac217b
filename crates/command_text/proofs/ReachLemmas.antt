-- If `reach N` is cut off, whatever the fates of its attempts are, and then repeated, it ends in the same state
-- as without the interruption.
use Rattle.std.proofs.Common.{◌≡◌, ◌∙◌, inl, inr, ℕ, zero, suc, ◌+◌, ◌-◌, ◌^◌, ◌<◌, ◌≤◌, Bool, true, false, None, if◌then◌else◌, List, [], ◌∷◌, map, Ok, Err, refl, sym, ap, subst, arith}
use Rattle.std.specs.Prelude.{nat_le, sum_by, take}
use Rattle.std.specs.List.{list_all}
use Rattle.std.proofs.lemmas.Bool.{and_parts, cases_Bool, le-leb, leb-true}
use Rattle.std.proofs.lemmas.Bool.Decides.{leb_tells}
use Rattle.std.proofs.lemmas.List.Sums.{sum_by-cons}
use Rattle.plan_types.specs.declared.limits.TheConstants.{MAX_REQUESTED_STEPS}
use Rattle.command_types.specs.Commands.{is_searching, steps_of}
use Rattle.command_core.specs.Effects.{searched}
use Rattle.command_types.specs.Job.{JobValue}
use Rattle.command_core.specs.Refusals.{refusal}
use Rattle.command_core.specs.RunLaws.{RunsAreOneSearch, SearchesAddUp}
use Rattle.command_core.specs.Runs.{AreAccepted}
use Rattle.command_types.specs.declared.commands.Command.{Command}
use Rattle.command_types.specs.declared.commands.Command.TheVariants.{Search}
use Rattle.command_types.specs.declared.refusals.Refusal.TheVariants.{Range}
use Rattle.command_text.specs.declared.answers.Answer.TheVariants as answer
use Rattle.command_types.specs.declared.states.State.{State}
use Rattle.command_types.specs.declared.states.State.TheVariants.{Empty, Loaded}
use Rattle.command_text.specs.Answering.{Fate, ServerState, unbroken_session, operations_reply, counts_of, steps_or_refusal, steps_to_make}
use Rattle.command_text.specs.Laws.{ReachedLinesMayBeCut}
use Rattle.command_text.specs.declared.steps.StepRequest.TheVariants as goal
use Rattle.command_text.specs.declared.steps.StepCursor.TheVariants as makes
use Rattle.command_text.proofs.RepeatLemmas.{all_cut, all_whole}
use Rattle.command_text.proofs.StepLemmas.{large_count, no_counts, small_count}

-- the operations that make n search steps
abbrev searches : ℕ → List Command
searches n = map Search (counts_of 256 n)

-- the operations are searches that make n steps, and are accepted if they end at step 2^60 or before it
record AreSearches (j : JobValue) (n : ℕ) (cs : List Command) : Type 0 where
  pub accepted : (0 < n → j.steps + n ≤ 2 ^ 60) → AreAccepted (Loaded j) cs
  pub searching : list_all is_searching cs ≡ true
  pub sum : sum_by steps_of cs ≡ n

free : (j : JobValue) (count : ℕ) → 1 ≤ count → count ≤ 256 → j.steps + count ≤ 2 ^ 60 → refusal (Loaded j) (Search count) ≡ None
free j count least most room =
    let a = le-leb 1 count least in
    let b = le-leb count 256 most in
    let c = le-leb (j.steps + count) (2 ^ 60) room in
    rw (a, b, c) refl

next_searches : (j : JobValue) (count n : ℕ) (cs : List Command) → 1 ≤ count → count ≤ 256 → AreSearches (searched j count) n cs → AreSearches j (count + n) (Search count ∷ cs)
next_searches j count n cs least most rest = record {
  accepted = λ room. let all = room (omega arith) in (tt, free j count least most (omega arith), rest.accepted (λ some. omega arith));
  searching = rest.searching;
  sum = sum_by-cons steps_of (Search count) cs ∙ ap (λ k. count + k) rest.sum;
}

none_left : (j : JobValue) → AreSearches j 0 []
none_left j = record { accepted = λ room. tt; searching = refl; sum = refl }

all_searches : (fuel n : ℕ) → n ≤ fuel → (j : JobValue) → AreSearches j n (searches n)
all_searches fuel zero within j = subst (λ (counts : List ℕ). AreSearches j 0 (map Search counts)) (sym (no_counts 256)) (none_left j)
all_searches zero (suc n) within j = absurd (omega arith)
all_searches (suc fuel) (suc n) within j = elim (leb_tells 256 (suc n)) [
  | inl t ↦ (
      let large = t.1 in
      let rest = all_searches fuel (suc n - 256) (omega arith) (searched j 256) in
      let whole = next_searches j 256 (suc n - 256) (searches (suc n - 256)) (omega arith) (omega arith) rest in
      let sum : 256 + (suc n - 256) ≡ suc n = omega arith in
      let counts = large_count 256 (suc n) (omega arith) large in
      subst (λ (counts : List ℕ). AreSearches j (suc n) (map Search counts)) (sym counts)
      (subst (λ (k : ℕ). AreSearches j k (Search 256 ∷ searches (suc n - 256))) sum whole))
  | inr t ↦ (
      let small = t.1 in
      let rest = all_searches fuel (suc n - suc n) (omega arith) (searched j (suc n)) in
      let whole = next_searches j (suc n) (suc n - suc n) (searches (suc n - suc n)) (omega arith) (omega arith) rest in
      let sum : suc n + (suc n - suc n) ≡ suc n = omega arith in
      let counts = small_count 256 (suc n) (omega arith) small in
      subst (λ (counts : List ℕ). AreSearches j (suc n) (map Search counts)) (sym counts)
      (subst (λ (k : ℕ). AreSearches j k (Search (suc n) ∷ searches (suc n - suc n))) sum whole))
]

-- the prefix `prefix` consists of searches, and makes no more steps than all operations
record IsSearchPrefix (cs prefix : List Command) : Type 0 where
  pub searching : list_all is_searching prefix ≡ true
  pub sum : sum_by steps_of prefix ≤ sum_by steps_of cs

search_prefixes : (count : ℕ) (cs : List Command) → list_all is_searching cs ≡ true → IsSearchPrefix cs (take count cs)
search_prefixes zero cs all = record { searching = refl; sum = omega arith }
search_prefixes (suc count) [] all = record { searching = refl; sum = omega arith }
search_prefixes (suc count) (c ∷ cs) all =
    let both = and_parts (is_searching c) (list_all is_searching cs) all in
    let rest = search_prefixes count cs both.1 in
    let more = rest.sum in
    let one = sum_by-cons steps_of c cs in
    let other = sum_by-cons steps_of c (take count cs) in
    record { searching = rw (both.0, rest.searching) refl; sum = omega (arith, more, one, other) }

module _ (one : RunsAreOneSearch) (add_up : SearchesAddUp) (n : ℕ) (room : n ≤ 2 ^ 60) where
  abbrev left_by : ServerState → State
  left_by s = (steps_or_refusal s (steps_to_make s.state (goal.Reach n))).left.state

  abbrev is_requested : JobValue → Bool
  is_requested j = nat_le n (j.steps + MAX_REQUESTED_STEPS)

  not_begun : (j : JobValue) (fates : List Fate) → is_requested j ≡ false → left_by (unbroken_session (Loaded j) fates) ≡ Loaded j
  not_begun j fates e = ap (λ b. (steps_or_refusal (unbroken_session (Loaded j) fates) (if b then Ok (makes.Search (n - j.steps)) else Err (answer.Refused Range))).left.state) e

  is_begun : (j : JobValue) (fates : List Fate) → is_requested j ≡ true → left_by (unbroken_session (Loaded j) fates) ≡ (operations_reply (unbroken_session (Loaded j) fates) (searches (n - j.steps))).left.state
  is_begun j fates e = ap (λ b. (steps_or_refusal (unbroken_session (Loaded j) fates) (if b then Ok (makes.Search (n - j.steps)) else Err (answer.Refused Range))).left.state) e

  all_of : (j : JobValue) → AreSearches j (n - j.steps) (searches (n - j.steps))
  all_of j = all_searches (n - j.steps) (n - j.steps) (omega arith) j

  uncut : (j : JobValue) → is_requested j ≡ true → left_by (unbroken_session (Loaded j) []) ≡ Loaded (searched j (n - j.steps))
  uncut j e =
      let all = all_of j in
      let cs = searches (n - j.steps) in
      is_begun j [] e ∙ all_whole (Loaded j) cs (all.accepted (λ some. omega arith)) ∙ one j cs all.searching ∙ ap (λ k. Loaded (searched j k)) all.sum

  line_cut : (j : JobValue) (fates : List Fate) → is_requested j ≡ true → left_by (unbroken_session (left_by (unbroken_session (Loaded j) fates)) []) ≡ left_by (unbroken_session (Loaded j) [])
  line_cut j fates e =
      let all = all_of j in
      let cs = searches (n - j.steps) in
      let cut = all_cut (unbroken_session (Loaded j) fates) cs in
      let prefix = search_prefixes cut.count cs all.searching in
      let made = sum_by steps_of (take cut.count cs) in
      let few : made ≤ n - j.steps = subst (λ (k : ℕ). made ≤ k) all.sum prefix.sum in
      let left : left_by (unbroken_session (Loaded j) fates) ≡ Loaded (searched j made) = is_begun j fates e ∙ cut.is ∙ one j (take cut.count cs) prefix.searching in
      let requested = leb-true n (j.steps + MAX_REQUESTED_STEPS) e in
      let still : is_requested (searched j made) ≡ true = le-leb n (j.steps + made + MAX_REQUESTED_STEPS) (omega (arith, requested)) in
      let sum : made + (n - (j.steps + made)) ≡ n - j.steps = omega (arith, few) in
      ap (λ (s : State). left_by (unbroken_session s [])) left ∙ uncut (searched j made) still ∙ ap Loaded (add_up j made (n - (j.steps + made)))
      ∙ ap (λ k. Loaded (searched j k)) sum ∙ sym (uncut j e)

pub reached_lines_may_be_cut : RunsAreOneSearch → SearchesAddUp → ReachedLinesMayBeCut
reached_lines_may_be_cut one add_up n Empty fates room = refl
reached_lines_may_be_cut one add_up n (Loaded j) fates room = elim (cases_Bool (is_requested one add_up n room j)) [
  | inl t ↦ line_cut one add_up n room j fates t
  | inr f ↦ ap (λ (s : State). left_by one add_up n room (unbroken_session s [])) (not_begun one add_up n room j fates f)
]
