-- Reading returns the first fault, or the solution that the lines spell.
use Rattle.std.proofs.Common.{◌≡◌, ◌⊎◌, ℕ, Bool, true, false, not, ◌&&◌, ◌||◌, cond, eqb, List, [], ◌∷◌, map, Option, Some, None, Result, Ok, Err, inl, inr, refl, sym, ap}
use Rattle.std.specs.Prelude.{is_some, is_none, unwrap_or, codes}
use Rattle.std.specs.Char.{to_ascii_lowercase}
use Rattle.std.specs.List.{list_any, list_all}
use Rattle.std.specs.Option.{option_and_then, option_map, option_map_or}
use Rattle.std.proofs.lemmas.Bool.{false≢true, and_parts, or_cases, eqb-true}
use Rattle.std.proofs.lemmas.Bool.Decides.{eqb_tells}
use Rattle.text_lines.specs.Words.{is_blank, is_blank_line, words_of}
use Rattle.sol_text.specs.LineShapes.{after_key, route_tail, cost_tail, cost_word}
use Rattle.sol_text.specs.Values.{customer_of, cost_of}
use Rattle.sol_text.specs.Reading.{customers_of, or_bad_number, nonblank_line, line_of}
use Rattle.sol_text.specs.declared.faults.SolFault.{SolFault}
use Rattle.sol_text.specs.declared.faults.SolFaultKind.{SolFaultKind}
use Rattle.sol_text.specs.declared.faults.SolFaultKind.TheVariants.{BadLine, BadNumber, NoCost, OutOfMemory}
use Rattle.sol_text.specs.declared.lines.Line.{Line}
use Rattle.sol_text.specs.declared.lines.Line.TheVariants.{Skipped, Route, Cost}

-- ---- a line has only one shape
-- a text that begins with this letter, in either case
lower_apart : (b c d : ℕ) → eqb c d ≡ false → eqb (to_ascii_lowercase b) c ≡ true → eqb (to_ascii_lowercase b) d ≡ false
lower_apart b c d apart is = rw (eqb-true _ _ is) apart

no_cost_key : (line rest : List ℕ) → after_key (codes "route") line ≡ Some rest → after_key (codes "cost") line ≡ None
no_cost_key [] rest is = refl
no_cost_key (b ∷ line) rest is =
    elim (eqb_tells (to_ascii_lowercase b) 114) [
      | inl t ↦ rw (lower_apart b 114 99 refl t.0) refl
      | inr t ↦ absurd (none_some (rw t.0 at is))
    ]
  where
    none_some : None ≡ Some rest → ⊥
    none_some h = cc

no_key_of_blank : (c : ℕ) (key line : List ℕ) → eqb 32 c ≡ false → eqb 9 c ≡ false → is_blank_line line ≡ true → after_key (c ∷ key) line ≡ None
no_key_of_blank c key [] p q blank = refl
no_key_of_blank c key (b ∷ line) p q blank =
    elim (or_cases (eqb b 32) (eqb b 9) (and_parts (is_blank b) (list_all is_blank line) blank).0) [
      | inl is ↦ rw (eqb-true b 32 is, p) refl
      | inr is ↦ rw (eqb-true b 9 is, q) refl
    ]

route_tail_of_blank : (line : List ℕ) → is_blank_line line ≡ true → route_tail line ≡ None
unfolding route_tail
route_tail_of_blank line blank = rw (no_key_of_blank 114 (111 ∷ 117 ∷ 116 ∷ 101 ∷ []) line refl refl blank) refl

cost_tail_of_blank : (line : List ℕ) → is_blank_line line ≡ true → cost_tail line ≡ None
unfolding cost_tail
cost_tail_of_blank line blank = rw (no_key_of_blank 99 (111 ∷ 115 ∷ 116 ∷ []) line refl refl blank) refl

none_some : {X : Type 0} {x : X} → None ≡ Some x → ⊥
none_some h = cc

cost_tail_of_route : (line : List ℕ) → is_some (route_tail line) ≡ true → cost_tail line ≡ None
unfolding route_tail cost_tail
cost_tail_of_route line is = from (after_key (codes "route") line) refl
  where
    from : (o : Option (List ℕ)) → after_key (codes "route") line ≡ o → cost_tail line ≡ None
    from None none = absurd (false≢true (rw none at is))
    from (Some rest) some = rw (no_cost_key line rest some) refl

cost_word_none : (line : List ℕ) → cost_tail line ≡ None → cost_word line ≡ None
cost_word_none line none = rw none refl

-- ---- the words of a route line
abbrev pub Say : Bool → List ℕ → Option (List ℕ) → Type 0
Say any ns None = any ≡ true
Say any ns (Some ms) = (any ≡ false) × (ns ≡ ms)

customers_say : (ws : List (List ℕ)) → Say (list_any (λ w. is_none (customer_of w)) ws) (map (λ w. unwrap_or (customer_of w) 0) ws) (customers_of ws)
customers_say [] = (refl, refl)
customers_say (w ∷ ws) = one (customer_of w) _ _ (customers_of ws) (customers_say ws)
  where
    one : (o : Option ℕ) (any : Bool) (ns : List ℕ) (q : Option (List ℕ)) → Say any ns q
        → Say (is_none o || any) (unwrap_or o 0 ∷ ns) (option_and_then (λ n. option_map (λ ms. n ∷ ms) q) o)
    one None any ns q say = refl
    one (Some n) any ns None say = say
    one (Some n) any ns (Some ms) say = (say.0, ap (λ ks. n ∷ ks) say.1)

-- ---- the meaning of a line, by its shape
abbrev pub bad : Bool → Option (List ℕ) → Option (List ℕ) → Bool
bad blank tail word = not blank && not (is_some tail) && not (is_some word)

abbrev pub bad_customer : Option (List ℕ) → Bool
bad_customer tail = option_map_or (list_any (λ w. is_none (customer_of w))) (option_map words_of tail) false

abbrev pub bad_cost : Option (List ℕ) → Bool
bad_cost word = option_map_or (λ w. is_none (cost_of w)) word false

abbrev pub bad_number : Option (List ℕ) → Option (List ℕ) → Bool
bad_number tail word = cond (is_some tail) (bad_customer tail) (bad_cost word)

abbrev pub routed : Option (List ℕ) → Option (List ℕ)
routed tail = option_map (map (λ w. unwrap_or (customer_of w) 0)) (option_map words_of tail)

abbrev pub IsOfKind : Bool → Bool → Option (List ℕ) → Option (List ℕ) → SolFaultKind → Type 0
IsOfKind in_head blank tail word BadLine = (bad blank tail word ≡ true) × (in_head ≡ false)
IsOfKind in_head blank tail word BadNumber = bad_customer tail ≡ true
IsOfKind in_head blank tail word NoCost = ⊥
IsOfKind in_head blank tail word OutOfMemory = ⊥

-- a line that is no cost line and has no fault, and its route if it is a route line
pub record Harmless (in_head blank : Bool) (tail word : Option (List ℕ)) (route : Option (List ℕ)) : Type 0 where
  pub no_cost : is_some word ≡ false
  pub shape : bad blank tail word ≡ true → in_head ≡ true
  pub numbers : bad_customer tail ≡ false
  pub route_is : routed tail ≡ route

-- the cost of a word, or its fault
abbrev pub CostSays : ℕ → Option (List ℕ) → Result ℕ SolFault → Type 0
CostSays n word (Ok c) = (bad_cost word ≡ false) × (option_and_then cost_of word ≡ Some c)
CostSays n word (Err f) = (bad_cost word ≡ true) × (f ≡ record { line = n; kind = BadNumber })

pub record Ending (n : ℕ) (blank : Bool) (tail word : Option (List ℕ)) (cost : Result ℕ SolFault) : Type 0 where
  pub is_cost : is_some word ≡ true
  pub shape : bad blank tail word ≡ false
  pub numbers : bad_customer tail ≡ false
  pub cost_is : CostSays n word cost

abbrev pub LineSays : Bool → ℕ → Bool → Option (List ℕ) → Option (List ℕ) → Result Line SolFault → Type 0
LineSays in_head n blank tail word (Ok Skipped) = Harmless in_head blank tail word None
LineSays in_head n blank tail word (Ok (Route r)) = Harmless in_head blank tail word (Some r)
LineSays in_head n blank tail word (Ok (Cost c)) = Ending n blank tail word c
LineSays in_head n blank tail word (Err f) = (f.line ≡ n) × IsOfKind in_head blank tail word f.kind

line_says : (in_head : Bool) (n : ℕ) (blank : Bool) (tail word : Option (List ℕ)) → (blank ≡ true → (tail ≡ None) × (word ≡ None)) → (is_some tail ≡ true → word ≡ None)
    → LineSays in_head n blank tail word (cond blank (Ok Skipped) (nonblank_line in_head n tail word))
line_says in_head n true tail word empty apart =
    rw ((empty refl).0, (empty refl).1) (record { no_cost = refl; shape = λ is. absurd (false≢true is); numbers = refl; route_is = refl })
line_says true n false None None empty apart = record { no_cost = refl; shape = λ is. refl; numbers = refl; route_is = refl }
line_says false n false None None empty apart = (refl, (refl, refl))
line_says in_head n false None (Some w) empty apart = record { is_cost = refl; shape = refl; numbers = refl; cost_is = by_cost (cost_of w) refl }
  where
    by_cost : (o : Option ℕ) → cost_of w ≡ o → CostSays n (Some w) (or_bad_number (λ c. c) n o)
    by_cost None is = (rw is refl, refl)
    by_cost (Some c) is = (rw is refl, is)
line_says in_head n false (Some tail) (Some w) empty apart = absurd (none_some (sym (apart refl)))
line_says in_head n false (Some tail) None empty apart = by_customers (customers_of (words_of tail)) (customers_say (words_of tail))
  where
    by_customers : (q : Option (List ℕ))
        → Say (list_any (λ w. is_none (customer_of w)) (words_of tail)) (map (λ w. unwrap_or (customer_of w) 0) (words_of tail)) q
        → LineSays in_head n false (Some tail) None (or_bad_number Route n q)
    by_customers None say = (refl, say)
    by_customers (Some ns) say = record { no_cost = refl; shape = λ is. absurd (false≢true is); numbers = say.0; route_is = ap Some say.1 }

abbrev pub SaysOf : Bool → ℕ → List ℕ → Result Line SolFault → Type 0
SaysOf in_head n line r = LineSays in_head n (is_blank_line line) (route_tail line) (cost_word line) r

pub no_word_of_route : (line : List ℕ) → is_some (route_tail line) ≡ true → cost_word line ≡ None
no_word_of_route line route = cost_word_none line (cost_tail_of_route line route)

pub line_of_says : (in_head : Bool) (n : ℕ) (line : List ℕ) → SaysOf in_head n line (line_of in_head n line)
unfolding line_of
line_of_says in_head n line =
    line_says in_head n (is_blank_line line) (route_tail line) (cost_word line)
    (λ blank. (route_tail_of_blank line blank, cost_word_none line (cost_tail_of_blank line blank))) (no_word_of_route line)

-- ---- a fault of a number is one of the route or of the cost
pub number_from_customer : (tail word : Option (List ℕ)) → bad_customer tail ≡ true → bad_number tail word ≡ true
number_from_customer None word is = absurd (false≢true is)
number_from_customer (Some tail) word is = is

pub number_from_cost : (tail word : Option (List ℕ)) → (is_some tail ≡ true → word ≡ None) → bad_cost word ≡ true → bad_number tail word ≡ true
number_from_cost None word apart is = is
number_from_cost (Some tail) word apart is = absurd (false≢true (rw (apart refl) at is))

pub number_split : (tail word : Option (List ℕ)) → bad_number tail word ≡ true → (bad_customer tail ≡ true) ⊎ (bad_cost word ≡ true)
number_split None word is = inr is
number_split (Some tail) word is = inl is

pub not_both_numbers : (tail word : Option (List ℕ)) → (is_some tail ≡ true → word ≡ None) → bad_customer tail ≡ true → bad_cost word ≡ true → ⊥
not_both_numbers None word apart customer cost = false≢true customer
not_both_numbers (Some tail) word apart customer cost = false≢true (rw (apart refl) at cost)

pub is_cost_of_bad : (word : Option (List ℕ)) → bad_cost word ≡ true → is_some word ≡ true
is_cost_of_bad None is = is
is_cost_of_bad (Some word) is = refl

pub no_route_from : (tail : Option (List ℕ)) → routed tail ≡ None → is_some tail ≡ false
no_route_from None is = refl
no_route_from (Some tail) is = absurd (none_some (sym is))

pub route_from : (tail : Option (List ℕ)) (r : List ℕ) → routed tail ≡ Some r → is_some tail ≡ true
route_from None r is = absurd (none_some is)
route_from (Some tail) r is = refl
