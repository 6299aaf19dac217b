-- The tasks of a text whose problem has only pairs, and the pairs that the tasks make.
use Rattle.std.proofs.Common.{◌≡◌, ◌≢◌, ℕ, zero, suc, ◌+◌, ◌-◌, ◌<◌, ◌≤◌, Bool, true, false, eqb, List, [], ◌∷◌, Option, Some, None, inl, inr, refl, sym, ap, subst, ◌∙◌, arith, ◌⊎◌, ℤ, pos, negsuc}
use Rattle.std.specs.Prelude.{find, int_lt, neg_ℤ, ◌+ℤ◌}
use Rattle.std.specs.List.{AllByRecursion, cons_option, filter_map, list_all, range_with_len}
use Rattle.std.specs.Option.{option_map}
use Rattle.std.specs.Ordering.{int_eq}
use Rattle.std.proofs.lemmas.Bool.{eq-eqb, le-ltb, ne_eqb}
use Rattle.std.proofs.lemmas.Bool.Decides.{Decides-int_eq, eqb_tells}
use Rattle.std.proofs.lemmas.Int.{ints}
use Rattle.plan_types.specs.Instance.{Instance, IsInstance, stop_at}
use Rattle.plan_types.specs.Limits.{IsDemand}
use Rattle.plan_types.specs.Request.{IsRequest, request_name}
use Rattle.plan_types.specs.declared.requests.Request.{Request}
use Rattle.plan_types.specs.declared.requests.Request.TheVariants.{Single, Pair}
use Rattle.plan_types.specs.declared.requests.Stop.{Stop}
use Rattle.plan_types.proofs.LookupLemmas.{NumbersBelow, below-each, none_some, stop_at-below, stop_from_first}
use Rattle.instance_read.specs.Pairs.{find_task, is_mismatched, pair_of, pairs_of}
use Rattle.instance_read.specs.Tables.{ArePaired}
use Rattle.instance_read.specs.declared.tasks.Task.{Task}
use Rattle.instance_text.specs.Formats.{is_pair}
use Rattle.instance_text.specs.Texts.{named_delivery, named_pickup, stops_from}
use Rattle.instance_text.proofs.EntryLemmas.{AreNamedWithin, entries_named, entry_named}
use Rattle.instance_text.proofs.LookupLemmas.{IsPairIn, Place, place_at}

some_same : {X : Type 0} {x y : X} → Some x ≡ Some y → x ≡ y
some_same h = cc

-- the names of requests are among the numbers below the next one
pub named_within : (next : ℕ) (es : List (ℕ × Request)) → AllByRecursion (λ e. e.0 ≡ request_name e.1) es → AllByRecursion (λ e. IsRequest e.1) es
    → AllByRecursion (λ e. NumbersBelow next e.1) es → AreNamedWithin 1 (next - 1) es
unfolding NumbersBelow
named_within next [] named requests below = tt
named_within next (e ∷ es) named requests below = (by e.1 named.0 requests.0 below.0, named_within next es named.1 requests.1 below.1)
  where
    by : (r : Request) → e.0 ≡ request_name r → IsRequest r → NumbersBelow next r → (1 ≤ e.0) × (e.0 < 1 + (next - 1))
    by (Single s) is request less = (omega (arith, is, request.0.from_one), omega (arith, is, less))
    by (Pair a b) is request less = (omega (arith, is, request.0.from_one), omega (arith, is, less.0))

-- the tasks of the stops, on the lines from this one on
module _ (p : Instance) where
  abbrev pub task : ℕ → Stop → Task
  task line s = record { line = line; stop = s; pickup = named_pickup p s.number; delivery = named_delivery p s.number }

  abbrev pub tasks_from : ℕ → List Stop → List Task
  tasks_from line [] = []
  tasks_from line (s ∷ ss) = task line s ∷ tasks_from (line + 1) ss

-- the demands of a pickup and its delivery cancel out
even : (a b : ℤ) → b ≡ neg_ℤ a → (int_eq (a +ℤ b) (pos 0) ≡ true) × (int_eq (b +ℤ a) (pos 0) ≡ true)
even a b is = ((Decides-int_eq (a +ℤ b) (pos 0)).1 (grind (arith, ints, is)), (Decides-int_eq (b +ℤ a) (pos 0)).1 (grind (arith, ints, is)))

not_negative : (z : ℤ) → IsDemand z → int_lt z (pos 0) ≡ false
not_negative (pos n) is = le-ltb n 0 (omega arith)
not_negative (negsuc n) is = absurd (grind (arith, ints, is.0))

-- the stop with this number, in a list of stops
abbrev find_stop : ℕ → List Stop → Option Stop
find_stop n ss = find (λ s. eqb s.number n) ss

module _ (p : Instance) (valid : IsInstance p) where
  find_tasks : (n line : ℕ) (ss : List Stop) → (k : ℕ) × (find_task n (tasks_from p line ss) ≡ option_map (task p k) (find_stop n ss))
  find_tasks n line [] = (0, refl)
  find_tasks n line (s ∷ ss) = by (eqb s.number n) refl (find_tasks n (line + 1) ss)
    where
      by : (b : Bool) → eqb s.number n ≡ b → ((k : ℕ) × (find_task n (tasks_from p (line + 1) ss) ≡ option_map (task p k) (find_stop n ss)))
          → (k : ℕ) × (find_task n (tasks_from p line (s ∷ ss)) ≡ option_map (task p k) (find_stop n (s ∷ ss)))
      by true e rest = (line, rw e refl)
      by false e rest = (rest.0, rw e rest.1)

  pub number_at : (n : ℕ) (s : Stop) → stop_at p n ≡ Some s → s.number ≡ n
  number_at n s is = (stop_from_first p n s valid is).0

  not_after : (n m count : ℕ) → n < m → find_stop n (stops_from p m count) ≡ None
  not_after n m zero less = refl
  not_after n m (suc count) less = by (stop_at p m) refl (not_after n (m + 1) count (omega (arith, less)))
    where
      by : (o : Option Stop) → stop_at p m ≡ o → find_stop n (stops_from p (m + 1) count) ≡ None → find_stop n (stops_from p m (suc count)) ≡ None
      by None e rest = rw e rest
      by (Some s) e rest = rw (e, ne_eqb s.number n (λ h. absurd (omega (arith, less, h, number_at m s e)))) rest

  found_after : (n m count : ℕ) → m ≤ n → n < m + count → find_stop n (stops_from p m count) ≡ stop_at p n
  found_after n m zero low high = absurd (omega (arith, low, high))
  found_after n m (suc count) low high =
      by (stop_at p m) refl (eqb_tells m n) (λ apart. found_after n (m + 1) count (omega (arith, low, apart)) (omega (arith, high)))
    where
      by : (o : Option Stop) → stop_at p m ≡ o → ((eqb m n ≡ true) × (m ≡ n)) ⊎ ((eqb m n ≡ false) × (m ≢ n)) → (m ≢ n → find_stop n (stops_from p (m + 1) count) ≡ stop_at p n)
          → find_stop n (stops_from p m (suc count)) ≡ stop_at p n
      by None e (inl t) later = rw e (not_after n (m + 1) count (omega (arith, t.1)) ∙ sym (ap (stop_at p) (sym t.1) ∙ e))
      by None e (inr t) later = rw e (later t.1)
      by (Some s) e (inl t) later = rw (e, eq-eqb s.number n (number_at m s e ∙ t.1)) (sym (ap (stop_at p) (sym t.1) ∙ e))
      by (Some s) e (inr t) later = rw (e, ne_eqb s.number n (λ h. absurd (t.1 (sym (number_at m s e) ∙ h)))) (later t.1)

  -- all tasks, with the line of the first one
  module _ (first : ℕ) where
    abbrev pub all_tasks : List Task
    all_tasks = tasks_from p first (stops_from p 1 (p.next_number - 1))

    task_found : (n : ℕ) (s : Stop) → stop_at p n ≡ Some s → (k : ℕ) × (find_task n all_tasks ≡ Some (task p k s))
    task_found n s is =
        let found = find_tasks n first (stops_from p 1 (p.next_number - 1)) in
        let its = stop_from_first p n s valid is in
        let below = stop_at-below p n s valid is in
        let here : find_stop n (stops_from p 1 (p.next_number - 1)) ≡ stop_at p n = found_after n 1 (p.next_number - 1) (omega (arith, its.0, its.1.from_one)) (omega (arith, below)) in
        (found.0, found.1 ∙ ap (option_map (task p found.0)) (here ∙ is))

    module _ (a b : Stop) (pair : IsPairIn p a b) where
      pickup_is : (line : ℕ) → task p line a ≡ record { line = line; stop = a; pickup = 0; delivery = b.number }
      pickup_is line = rw (pair.pickup_of_pickup, pair.partner_of_pickup) refl

      delivery_is : (line : ℕ) → task p line b ≡ record { line = line; stop = b; pickup = a.number; delivery = 0 }
      delivery_is line = rw (pair.pickup_of_delivery) refl

      pickup_some : eqb a.number 0 ≡ false
      pickup_some = ne_eqb a.number 0 (λ h. absurd (omega (arith, h, pair.valid.0.from_one)))

      delivery_some : eqb b.number 0 ≡ false
      delivery_some = ne_eqb b.number 0 (λ h. absurd (omega (arith, h, pair.valid.1.from_one)))

      delivery_found : (k : ℕ) × (find_task b.number all_tasks ≡ Some (record { line = k; stop = b; pickup = a.number; delivery = 0 }))
      delivery_found = let found = task_found b.number b pair.delivery in (found.0, found.1 ∙ ap Some (delivery_is found.0))

      pickup_found : (k : ℕ) × (find_task a.number all_tasks ≡ Some (record { line = k; stop = a; pickup = 0; delivery = b.number }))
      pickup_found = let found = task_found a.number a pair.pickup in (found.0, found.1 ∙ ap Some (pickup_is found.0))

      pickup_matched : (line : ℕ) → is_mismatched all_tasks (task p line a) ≡ false
      pickup_matched line =
          ap (is_mismatched all_tasks) (pickup_is line)
          ∙ rw (delivery_some, delivery_found.1, eq-eqb a.number a.number refl, (even a.demand b.demand pair.valid.4).0, not_negative a.demand pair.valid.3) refl

      delivery_matched : (line : ℕ) → is_mismatched all_tasks (task p line b) ≡ false
      delivery_matched line =
          ap (is_mismatched all_tasks) (delivery_is line)
          ∙ rw (pickup_some, pickup_found.1, eq-eqb b.number b.number refl, (even a.demand b.demand pair.valid.4).1) refl

      pickup_pairs : (line : ℕ) → pair_of all_tasks (task p line a) ≡ Some (a.number, Pair a b)
      pickup_pairs line = ap (pair_of all_tasks) (pickup_is line) ∙ rw (delivery_found.1) refl

      delivery_pairs : (line : ℕ) → pair_of all_tasks (task p line b) ≡ None
      delivery_pairs line = ap (pair_of all_tasks) (delivery_is line) ∙ rw (pickup_some) refl

    module _ (pairs : list_all (λ e. is_pair e.1) p.requests ≡ true) where
      matched_at : (n line : ℕ) (s : Stop) → stop_at p n ≡ Some s → Place p n → is_mismatched all_tasks (task p line s) ≡ false
      matched_at n line s is (inl free) = absurd (none_some s (sym free.stop ∙ is))
      matched_at n line s is (inr (inl at)) =
          let same : at.a ≡ s = some_same (sym at.pair.pickup ∙ ap (stop_at p) at.here ∙ is) in
          subst (λ x. is_mismatched all_tasks (task p line x) ≡ false) same (pickup_matched at.a at.b at.pair line)
      matched_at n line s is (inr (inr at)) =
          let same : at.b ≡ s = some_same (sym at.pair.delivery ∙ ap (stop_at p) at.here ∙ is) in
          subst (λ x. is_mismatched all_tasks (task p line x) ≡ false) same (delivery_matched at.a at.b at.pair line)

      all_matched : (line m count : ℕ) → AllByRecursion (λ t. is_mismatched all_tasks t ≡ false) (tasks_from p line (stops_from p m count))
      all_matched line m zero = tt
      all_matched line m (suc count) = by (stop_at p m) refl (λ at. all_matched at (m + 1) count)
        where
          by : (o : Option Stop) → stop_at p m ≡ o → ((at : ℕ) → AllByRecursion (λ t. is_mismatched all_tasks t ≡ false) (tasks_from p at (stops_from p (m + 1) count)))
              → AllByRecursion (λ t. is_mismatched all_tasks t ≡ false) (tasks_from p line (cons_option o (stops_from p (m + 1) count)))
          by None e others = others line
          by (Some s) e others = (matched_at m line s e (place_at p valid pairs m), others (line + 1))

      pub paired : ArePaired all_tasks
      paired = all_matched first 1 (p.next_number - 1)

      entry_at : (n line : ℕ) (s : Stop) → stop_at p n ≡ Some s → Place p n → pair_of all_tasks (task p line s) ≡ entry_named p.requests n
      entry_at n line s is (inl free) = absurd (none_some s (sym free.stop ∙ is))
      entry_at n line s is (inr (inl at)) =
          let same : at.a ≡ s = some_same (sym at.pair.pickup ∙ ap (stop_at p) at.here ∙ is) in
          subst (λ x. pair_of all_tasks (task p line x) ≡ entry_named p.requests n) same
          (pickup_pairs at.a at.b at.pair line
          ∙ sym (ap (λ m. entry_named p.requests m) (sym at.here) ∙ ap (option_map (λ r. (at.a.number, r))) at.pair.named))
      entry_at n line s is (inr (inr at)) =
          let same : at.b ≡ s = some_same (sym at.pair.delivery ∙ ap (stop_at p) at.here ∙ is) in
          subst (λ x. pair_of all_tasks (task p line x) ≡ entry_named p.requests n) same
          (delivery_pairs at.a at.b at.pair line ∙ sym (ap (option_map (λ r. (n, r))) at.named))

      no_entry : (n : ℕ) → stop_at p n ≡ None → Place p n → entry_named p.requests n ≡ None
      no_entry n is (inl free) = ap (option_map (λ r. (n, r))) free.named
      no_entry n is (inr (inl at)) = absurd (none_some at.a (sym is ∙ ap (stop_at p) (sym at.here) ∙ at.pair.pickup))
      no_entry n is (inr (inr at)) = absurd (none_some at.b (sym is ∙ ap (stop_at p) (sym at.here) ∙ at.pair.delivery))

      pairs_named : (line m count : ℕ) → filter_map (pair_of all_tasks) (tasks_from p line (stops_from p m count)) ≡ filter_map (entry_named p.requests) (range_with_len m count)
      pairs_named line m zero = refl
      pairs_named line m (suc count) = by (stop_at p m) refl (λ at. pairs_named at (m + 1) count)
        where
          by : (o : Option Stop) → stop_at p m ≡ o
              → ((at : ℕ) → filter_map (pair_of all_tasks) (tasks_from p at (stops_from p (m + 1) count)) ≡ filter_map (entry_named p.requests) (range_with_len (m + 1) count))
              → filter_map (pair_of all_tasks) (tasks_from p line (cons_option o (stops_from p (m + 1) count)))
              ≡ cons_option (entry_named p.requests m) (filter_map (entry_named p.requests) (range_with_len (m + 1) count))
          by None e others = others line ∙ sym (ap (λ o. cons_option o (filter_map (entry_named p.requests) (range_with_len (m + 1) count))) (no_entry m e (place_at p valid pairs m)))
          by (Some s) e others =
              ap (λ o. cons_option o (filter_map (pair_of all_tasks) (tasks_from p (line + 1) (stops_from p (m + 1) count)))) (entry_at m line s e (place_at p valid pairs m))
              ∙ ap (cons_option (entry_named p.requests m)) (others (line + 1))

      pub pairs_are : pairs_of all_tasks ≡ p.requests
      pairs_are =
          pairs_named first 1 (p.next_number - 1)
          ∙ entries_named p.requests 1 (p.next_number - 1) valid.ascending
          (named_within p.next_number p.requests valid.named valid.valid (below-each p.next_number p.requests valid.above))
